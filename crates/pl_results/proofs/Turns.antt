-- Turns of loops.
use Rattle.std.proofs.Common.{◌≡◌, ℕ, zero, suc, ◌+◌, ◌<◌, Bool, true, false, cond, Option, Some}
use Rattle.std.proofs.Common.{None}
use Rattle.std.proofs.Common.{List, [], ◌∷◌, ◌++◌, length, take, drop, get_or, map, refl, sym, ap}
use Rattle.std.proofs.Common.{◌∙◌}
use Rattle.std.proofs.Common.{arith}
use Rattle.std.specs.Prelude.{◌&&◌, ◌||◌}
use Rattle.std.specs.List.{filter, filter_map, find, list_all, list_any, range_with_len}
use Rattle.std.specs.List.{cons_option}
use Rattle.std.proofs.lemmas.List.{append-nil, at_drop_more, get_or_default, take_more}
use Rattle.std.proofs.lemmas.List.Elements.{filter-append}
use Rattle.pl_eval.proofs.Finding.{filtered_some, filtered_none}

-- ---- what a function makes of some items

pub kept_some : {X Y : Type 0} (h : X → Option Y) (xs : List X) (i : ℕ) (x : X) (y : Y)
    (old new : List Y) → i < length xs → x ≡ get_or xs i x → old ≡ filter_map h (take i xs) →
    h x ≡ Some y → new ≡ old ++ y ∷ [] → new ≡ filter_map h (take (i + 1) xs)
kept_some h xs i x y old new within is so_far there grown =
    filtered_some h (take i xs) x y old new so_far (sym there) grown
    ∙ ap (λ one. filter_map h (take i xs ++ one ∷ [])) is
    ∙ ap (filter_map h) (sym (take_more xs i x within))

pub kept_none : {X Y : Type 0} (h : X → Option Y) (xs : List X) (i : ℕ) (x : X) (old : List Y) →
    i < length xs → x ≡ get_or xs i x → old ≡ filter_map h (take i xs) → h x ≡ None →
    old ≡ filter_map h (take (i + 1) xs)
kept_none h xs i x old within is so_far none =
    filtered_none h (take i xs) x old so_far (sym none)
    ∙ ap (λ one. filter_map h (take i xs ++ one ∷ [])) is
    ∙ ap (filter_map h) (sym (take_more xs i x within))

-- the same where the items are numbers
pub number_some : {Y : Type 0} (h : ℕ → Option Y) (xs : List ℕ) (i : ℕ) (y : Y) (old new : List Y) →
    i < length xs → old ≡ filter_map h (take i xs) → h (get_or xs i 0) ≡ Some y →
    new ≡ old ++ y ∷ [] → new ≡ filter_map h (take (i + 1) xs)
number_some h xs i y old new within so_far there grown =
    kept_some h xs i (get_or xs i 0) y old new within
    (get_or_default xs i 0 (get_or xs i 0) within) so_far there grown

pub number_none : {Y : Type 0} (h : ℕ → Option Y) (xs : List ℕ) (i : ℕ) (old new : List Y) →
    i < length xs → old ≡ filter_map h (take i xs) → h (get_or xs i 0) ≡ None → new ≡ old →
    new ≡ filter_map h (take (i + 1) xs)
number_none h xs i old new within so_far none same =
    same ∙ kept_none h xs i (get_or xs i 0) old within
    (get_or_default xs i 0 (get_or xs i 0) within) so_far none

-- ---- a search among what a function makes of some items

pub found_here : {X Y : Type 0} (p : Y → Bool) (h : X → Option Y) (xs : List X) (i : ℕ) (x : X)
    (y : Y) (whole : Option Y) → i < length xs → x ≡ get_or xs i x → h x ≡ Some y → p y ≡ true →
    whole ≡ find p (filter_map h (drop i xs)) → Some y ≡ whole
found_here p h xs i x y whole within is there passes walked =
    sym (walked ∙ at_drop_more (λ rest. find p (filter_map h rest)) xs i x within
    ∙ ap (λ one. find p (cons_option (h one) (filter_map h (drop (i + 1) xs)))) (sym is)
    ∙ ap (λ o. find p (cons_option o (filter_map h (drop (i + 1) xs)))) there
    ∙ rw passes refl)

pub found_later : {X Y : Type 0} (p : Y → Bool) (h : X → Option Y) (xs : List X) (i : ℕ) (x : X)
    (y : Y) (whole : Option Y) → i < length xs → x ≡ get_or xs i x → h x ≡ Some y → p y ≡ false →
    whole ≡ find p (filter_map h (drop i xs)) → whole ≡ find p (filter_map h (drop (i + 1) xs))
found_later p h xs i x y whole within is there fails walked =
    walked ∙ at_drop_more (λ rest. find p (filter_map h rest)) xs i x within
    ∙ ap (λ one. find p (cons_option (h one) (filter_map h (drop (i + 1) xs)))) (sym is)
    ∙ ap (λ o. find p (cons_option o (filter_map h (drop (i + 1) xs)))) there
    ∙ rw fails refl

pub found_not_here : {X Y : Type 0} (p : Y → Bool) (h : X → Option Y) (xs : List X) (i : ℕ) (x : X)
    (whole : Option Y) → i < length xs → x ≡ get_or xs i x → h x ≡ None →
    whole ≡ find p (filter_map h (drop i xs)) → whole ≡ find p (filter_map h (drop (i + 1) xs))
found_not_here p h xs i x whole within is none walked =
    walked ∙ at_drop_more (λ rest. find p (filter_map h rest)) xs i x within
    ∙ ap (λ one. find p (cons_option (h one) (filter_map h (drop (i + 1) xs)))) (sym is)
    ∙ ap (λ o. find p (cons_option o (filter_map h (drop (i + 1) xs)))) none

-- ---- numbers

range_last : (low count : ℕ) →
    range_with_len low (count + 1) ≡ range_with_len low count ++ (low + count) ∷ []
range_last low zero = let e : low ≡ low + 0 = omega arith in ap (λ n. n ∷ []) e
range_last low (suc count) =
    let e : low + 1 + count ≡ low + suc count = omega arith in
    let n : suc count + 1 ≡ suc (count + 1) = omega arith in
    ap (range_with_len low) n ∙ ap (λ rest. low ∷ rest) (range_last (low + 1) count)
    ∙ ap (λ n. low ∷ range_with_len (low + 1) count ++ n ∷ []) e

pub range_more : (count : ℕ) (old new : List ℕ) → old ≡ range_with_len 0 count →
    new ≡ old ++ count ∷ [] → new ≡ range_with_len 0 (count + 1)
range_more count old new so_far grown =
    let e : count ≡ 0 + count = omega arith in
    grown ∙ ap (λ ns. ns ++ count ∷ []) so_far ∙ ap (λ n. range_with_len 0 count ++ n ∷ []) e
    ∙ sym (range_last 0 count)

pub picked_more : (p : ℕ → Bool) (count : ℕ) (old new : List ℕ) →
    old ≡ filter p (range_with_len 0 count) → p count ≡ true → new ≡ old ++ count ∷ [] →
    new ≡ filter p (range_with_len 0 (count + 1))
picked_more p count old new so_far picked grown =
    let e : count ≡ 0 + count = omega arith in
    grown ∙ ap (λ ns. ns ++ count ∷ []) so_far
    ∙ ap (λ t. filter p (range_with_len 0 count) ++ cond t (count ∷ []) []) (sym picked)
    ∙ sym (filter-append p (range_with_len 0 count) (count ∷ []))
    ∙ ap (λ n. filter p (range_with_len 0 count ++ n ∷ [])) e
    ∙ ap (filter p) (sym (range_last 0 count))

pub picked_same : (p : ℕ → Bool) (count : ℕ) (old : List ℕ) →
    old ≡ filter p (range_with_len 0 count) → p count ≡ false →
    old ≡ filter p (range_with_len 0 (count + 1))
picked_same p count old so_far other =
    let e : count ≡ 0 + count = omega arith in
    so_far ∙ sym (append-nil (filter p (range_with_len 0 count)))
    ∙ ap (λ t. filter p (range_with_len 0 count) ++ cond t (count ∷ []) []) (sym other)
    ∙ sym (filter-append p (range_with_len 0 count) (count ∷ []))
    ∙ ap (λ n. filter p (range_with_len 0 count ++ n ∷ [])) e
    ∙ ap (filter p) (sym (range_last 0 count))

-- ---- tests of what is made of each item

pub any_made : {X Y : Type 0} (f : X → Y) (p : Y → Bool) (xs : List X) →
    list_any p (map f xs) ≡ list_any (λ x. p (f x)) xs
any_made f p [] = refl
any_made f p (x ∷ xs) = ap (λ b. p (f x) || b) (any_made f p xs)

pub all_made : {X Y : Type 0} (f : X → Y) (p : Y → Bool) (xs : List X) →
    list_all p (map f xs) ≡ list_all (λ x. p (f x)) xs
all_made f p [] = refl
all_made f p (x ∷ xs) = ap (λ b. p (f x) && b) (all_made f p xs)
