-- Look-ups in a loop.
use Rattle.std.proofs.Common.{◌≡◌, ℕ, zero, suc, ◌+◌, ◌<◌, Bool, true, Option, Some, None}
use Rattle.std.proofs.Common.{List, [], ◌∷◌, ◌++◌, length, get_or, drop, refl, ap, sym, ◌∙◌, arith}
use Rattle.std.specs.Prelude.{slice_get}
use Rattle.std.specs.List.{find, filter_map, cons_option}
use Rattle.std.proofs.lemmas.List.{at_drop_more, append-nil}
use Rattle.std.proofs.lemmas.List.Elements.{filter_map-append}
use Rattle.pl_base.proofs.Finding.{find_drop_yes}
use Rattle.pl_base.specs.declared.value.MarkedNode.{MarkedNode}
use Rattle.pl_base.specs.declared.value.Value.{Value}
use Rattle.pl_eval.specs.LookUps.{member, member_behind, found, found_behind}

pub behind_some :
    (names : List (List ℕ)) (i : ℕ) (d : List ℕ) (node next : MarkedNode) → i < length names →
    member (get_or names i d) node.value ≡ Some next →
    member_behind (drop i names) node ≡ member_behind (drop (i + 1) names) next
behind_some names i d node next within there = at_drop_more (λ rest. member_behind rest node) names
    i d within ∙ rw there refl

pub behind_none :
    (names : List (List ℕ)) (i : ℕ) (d : List ℕ) (node : MarkedNode) → i < length names →
    member (get_or names i d) node.value ≡ None → member_behind (drop i names) node ≡ None
behind_none names i d node within lacking = at_drop_more (λ rest. member_behind rest node) names i d
    within ∙ rw lacking refl

pub path_some :
    (path : List Value) (i : ℕ) (d : Value) (node next : MarkedNode) → i < length path →
    found node.value (get_or path i d) ≡ Some next →
    found_behind (drop i path) node ≡ found_behind (drop (i + 1) path) next
path_some path i d node next within there = at_drop_more (λ rest. found_behind rest node) path i d
    within ∙ rw there refl

pub path_none :
    (path : List Value) (i : ℕ) (d : Value) (node : MarkedNode) → i < length path →
    found node.value (get_or path i d) ≡ None → found_behind (drop i path) node ≡ None
path_none path i d node within lacking = at_drop_more (λ rest. found_behind rest node) path i d
    within ∙ rw lacking refl

pub slice_get_is :
    {X : Type 0} (xs : List X) (i : ℕ) (d : X) → i < length xs →
    slice_get xs i ≡ Some (get_or xs i d)
slice_get_is [] i d within = absurd (omega (arith, within))
slice_get_is (x ∷ xs) zero d within = refl
slice_get_is (x ∷ xs) (suc i) d within = slice_get_is xs i d (omega (arith, within))

pub found_at :
    {X : Type 0} (p : X → Bool) (xs : List X) (i : ℕ) (x : X) → i < length xs → x ≡ get_or xs i x →
    p x ≡ true → find p xs ≡ find p (drop i xs) → find p xs ≡ slice_get xs i
found_at p xs i x within is passes walked =
    let here : p (get_or xs i x) ≡ true = ap p (sym is) ∙ passes in
    walked ∙ (find_drop_yes p xs i x within here ∙ sym (slice_get_is xs i x within))

pub filtered_some :
    {X Y : Type 0} (h : X → Option Y) (xs : List X) (x : X) (y : Y) (old new : List Y) →
    old ≡ filter_map h xs → Some y ≡ h x → new ≡ old ++ y ∷ [] → new ≡ filter_map h (xs ++ x ∷ [])
filtered_some h xs x y old new walked there grown =
    grown ∙ (ap (λ ys. ys ++ y ∷ []) walked ∙ (ap (λ o. filter_map h xs ++ cons_option o []) there ∙
    sym (filter_map-append h xs (x ∷ []))))

pub filtered_none :
    {X Y : Type 0} (h : X → Option Y) (xs : List X) (x : X) (old : List Y) → old ≡ filter_map h xs →
    None ≡ h x → old ≡ filter_map h (xs ++ x ∷ [])
filtered_none h xs x old walked lacking =
    walked ∙ (sym (append-nil (filter_map h xs)) ∙
    (ap (λ o. filter_map h xs ++ cons_option o []) lacking ∙
    sym (filter_map-append h xs (x ∷ []))))
