-- Names looked up: loops from the innermost one on, then contexts.
use Rattle.std.proofs.Common.{◌≡◌, ℕ, Bool, true, false, Option, Some, None, List, [], ◌∷◌, ◌++◌}
use Rattle.std.proofs.Common.{map, reverse, refl, ap, ap₂, sym, ◌∙◌, arith}
use Rattle.std.specs.Prelude.{nat_eq, ◌&&◌, cond, find, codes}
use Rattle.std.specs.Option.{option_map, option_or}
use Rattle.std.specs.Ordering.{is_eq}
use Rattle.std.specs.Cmp.Lexicographic.{pointwise}
use Rattle.std.specs.FinMap as finite
use Rattle.std.proofs.lemmas.Bool.Decides.{nat_tests}
use Rattle.std.proofs.lemmas.List.{reverse-append}
use Rattle.std.proofs.lemmas.Cmp.{nat_list_cmp_total}
use Rattle.pl_base.specs.Folding.{folded}
use Rattle.pl_base.specs.Files.{text_cmp}
use Rattle.pl_base.specs.declared.value.MarkedNode.{MarkedNode}
use Rattle.pl_base.specs.declared.value.MarkedPair.{MarkedPair}
use Rattle.pl_expr.proofs.Folding.{same_by_cmp}
use Rattle.pl_eval.specs.Known.{same_name, root_of}
use Rattle.pl_eval.specs.LookUps.{property}
use Rattle.pl_frame.specs.declared.frame.Loop.{Loop}
use Rattle.pl_frame.specs.Members.{loop_of}
use Rattle.pl_base.specs.declared.place.Place.{Place}
use Rattle.pl_literal.specs.Booleans.{spells}
use Rattle.pl_frame.specs.declared.frame.Frame.{Frame}
use Rattle.pl_frame.specs.Names.{loop_entry, contexts_at, roots_at, known_at, parameters_at}
use Rattle.pl_frame.specs.Names.{variables_at}

nat_swap : (m n : ℕ) → nat_eq m n ≡ nat_eq n m
nat_swap m n = grind (arith, nat_tests)

pub pointwise_swap : (xs ys : List ℕ) → pointwise nat_eq xs ys ≡ pointwise nat_eq ys xs
pointwise_swap [] [] = refl
pointwise_swap [] (y ∷ ys) = refl
pointwise_swap (x ∷ xs) [] = refl
pointwise_swap (x ∷ xs) (y ∷ ys) = λ i. nat_swap x y i && pointwise_swap xs ys i

pub key_tested : (name key : List ℕ) → is_eq (text_cmp (folded name) (folded key)) ≡ same_name name
    key
key_tested name key =
    sym (same_by_cmp (folded name) (folded key)) ∙ pointwise_swap (folded name) (folded key)

-- ---- loops

reverse_last : {X : Type 0} (xs : List X) (x : X) → reverse (xs ++ x ∷ []) ≡ x ∷ reverse xs
reverse_last xs x = reverse-append xs (x ∷ [])

last_loop : (loops : List Loop) (one : Loop) (name : List ℕ) →
    loop_of (loops ++ one ∷ []) name ≡ cond (same_name name one.name) (Some one.item)
    (loop_of loops name)
last_loop loops one name =
    ap (λ order. finite.find text_cmp (folded name) (map loop_entry order)) (reverse_last loops one)
    ∙ ap (λ test. cond test (Some one.item) (loop_of loops name)) (key_tested name one.name)

by_test : {A : Type 0} (test : Bool) (b : Bool) (x y : A) → test ≡ b → cond test x y ≡ cond b x y
by_test test b x y e = ap (λ b. cond b x y) e

-- a turn of the search from the innermost loop on
pub loop_found : (whole : Option MarkedNode) (loops shorter : List Loop) (one : Loop)
    (name : List ℕ) → loops ≡ shorter ++ one ∷ [] → same_name name one.name ≡ true →
    whole ≡ loop_of loops name → Some one.item ≡ whole
loop_found whole loops shorter one name loops_is same whole_is =
    sym (whole_is
    ∙ (ap (λ loops. loop_of loops name) loops_is
    ∙ (last_loop shorter one name ∙ by_test _ true (Some one.item) (loop_of shorter name)
    same)))

pub loop_passed : (whole : Option MarkedNode) (loops shorter : List Loop) (one : Loop)
    (name : List ℕ) → loops ≡ shorter ++ one ∷ [] → same_name name one.name ≡ false →
    whole ≡ loop_of loops name → whole ≡ loop_of shorter name
loop_passed whole loops shorter one name loops_is other whole_is =
    whole_is
    ∙ (ap (λ loops. loop_of loops name) loops_is
    ∙ (last_loop shorter one name ∙ by_test _ false (Some one.item) (loop_of shorter name)
    other))

-- ---- all roots

found_behind : (q : List ℕ) (first rest : List (List ℕ × MarkedNode)) →
    finite.find text_cmp q (first ++ rest) ≡ option_or (finite.find text_cmp q first)
    (finite.find text_cmp q rest)
found_behind q [] rest = refl
found_behind q (entry ∷ first) rest =
    ap (λ later. cond (is_eq (text_cmp q entry.0)) (Some entry.1) later) (found_behind q first rest)
    ∙ by (is_eq (text_cmp q entry.0))
  where
    by : (b : Bool) →
        cond b (Some entry.1)
        (option_or (finite.find text_cmp q first) (finite.find text_cmp q rest)) ≡ option_or
        (cond b (Some entry.1) (finite.find text_cmp q first)) (finite.find text_cmp q rest)
    by true = refl
    by false = refl

pub root_is : (frame : Frame) (place : Place) (name : List ℕ) →
    root_of (known_at frame place) name ≡ option_or (loop_of frame.loops name)
    (finite.find text_cmp (folded name) (contexts_at frame place))
root_is frame place name =
    finite.get-from_entries nat_list_cmp_total (roots_at frame place) (folded name)
    ∙ found_behind (folded name) (map loop_entry (reverse frame.loops)) (contexts_at frame place)

pub from_loop : (frame : Frame) (place : Place) (name : List ℕ) (item : MarkedNode) →
    Some item ≡ loop_of frame.loops name → Some item ≡ root_of (known_at frame place) name
from_loop frame place name item is =
    sym (root_is frame place name
    ∙ ap
    (λ first. option_or first (finite.find text_cmp (folded name) (contexts_at frame place)))
    (sym is))

pub from_context : (frame : Frame) (place : Place) (name : List ℕ) (value : Option MarkedNode) →
    None ≡ loop_of frame.loops name →
    value ≡ finite.find text_cmp (folded name) (contexts_at frame place) →
    value ≡ root_of (known_at frame place) name
from_context frame place name value none is =
    is ∙ sym (root_is frame place name
    ∙ ap
    (λ first. option_or first (finite.find text_cmp (folded name) (contexts_at frame place)))
    (sym none))

-- ---- properties that are made from a list

pub find_made : {X : Type 0} (make : X → MarkedPair) (xs : List X) (name : List ℕ) →
    property (map make xs) name ≡ option_map (λ x. (make x).item)
    (find (λ x. same_name name (make x).key) xs)
find_made make [] name = refl
find_made make (x ∷ xs) name = by (same_name name (make x).key) (find_made make xs name)
  where
    by : (b : Bool) → property (map make xs) name ≡ option_map (λ x. (make x).item)
        (find (λ x. same_name name (make x).key) xs) →
        option_map (λ pair. pair.item)
        (cond b (Some (make x)) (find (λ pair. same_name name pair.key) (map make xs))) ≡
        option_map (λ x. (make x).item)
        (cond b (Some x) (find (λ x. same_name name (make x).key) xs))
    by true later = refl
    by false later = later

-- ---- contexts

contexts_found : (frame : Frame) (place : Place) (name : List ℕ) →
    finite.find text_cmp (folded name) (contexts_at frame place)
    ≡ cond (spells name (codes "parameters")) (Some (parameters_at frame place))
    (cond (spells name (codes "variables")) (Some (variables_at frame place)) None)
contexts_found frame place name =
    ap₂ (λ first next. cond first (Some (parameters_at frame place))
    (cond next (Some (variables_at frame place)) None))
    (sym (same_by_cmp (folded name) (codes "PARAMETERS")))
    (sym (same_by_cmp (folded name) (codes "VARIABLES")))

pub in_parameters : (frame : Frame) (place : Place) (name : List ℕ) →
    true ≡ spells name (codes "parameters") →
    Some (parameters_at frame place) ≡ finite.find text_cmp (folded name) (contexts_at frame place)
in_parameters frame place name is = sym (contexts_found frame place name ∙ rw (← is) refl)

pub in_variables : (frame : Frame) (place : Place) (name : List ℕ) →
    false ≡ spells name (codes "parameters") →
    true ≡ spells name (codes "variables") →
    Some (variables_at frame place) ≡ finite.find text_cmp (folded name) (contexts_at frame place)
in_variables frame place name other is =
    sym (contexts_found frame place name ∙ rw (← other, ← is) refl)

pub in_none : (frame : Frame) (place : Place) (name : List ℕ) →
    false ≡ spells name (codes "parameters") →
    false ≡ spells name (codes "variables") →
    None ≡ finite.find text_cmp (folded name) (contexts_at frame place)
in_none frame place name other another =
    sym (contexts_found frame place name ∙ rw (← other, ← another) refl)
