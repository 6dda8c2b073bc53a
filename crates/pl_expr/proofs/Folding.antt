-- Orders of folded texts, and texts of versions.
use Rattle.std.proofs.Common.{◌≡◌, ℕ, zero, suc, ◌+◌, ◌<◌, ◌≤◌, Bool, true, false, cond, not}
use Rattle.std.proofs.Common.{nat_eq, ◌==◌, if◌then◌else◌, Option, Some, None, List, [], ◌∷◌, ◌++◌}
use Rattle.std.proofs.Common.{length, get_or, drop, take, map, decimal, refl, ap, sym, ◌∙◌}
use Rattle.std.proofs.Common.{append_assoc, inl, inr, arith}
use Rattle.std.specs.declared.cmp.Ordering.{Ordering}
use Rattle.std.specs.declared.cmp.Ordering.TheVariants.{Less, Equal, Greater}
use Rattle.std.specs.Ordering.{nat_cmp, int_cmp, int_eq, bool_cmp, is_eq, ordering_then}
use Rattle.std.specs.Cmp.Lexicographic.{slice_cmp, pointwise}
use Rattle.std.specs.Char.{to_ascii_uppercase}
use Rattle.std.specs.List.{join_with_byte}
use Rattle.std.proofs.lemmas.List.{at_drop_more, at_drop_all, take_more}
use Rattle.std.proofs.lemmas.Bool.{cases_lt, ne_eqb}
use Rattle.std.proofs.lemmas.Bool.Decides.{nat_tests}
use Rattle.std.specs.Option.{option_map, option_map_or}
use Rattle.pl_base.specs.declared.value.Value.{Value, Null, Bool as Truth, Number, Version, Str}
use Rattle.pl_base.specs.Folding.{folded}
use Rattle.pl_expr.specs.Conversions.{equals, order_of, is_null, bool_of, number_of_value}
use Rattle.pl_expr.specs.Conversions.{version_of, text_of}

pub slice_cmp_folded_drop :
    (left right : List ℕ) (i : ℕ) → i < length left → i < length right →
    slice_cmp nat_cmp (folded (drop i left)) (folded (drop i right)) ≡
    ordering_then (nat_cmp (to_ascii_uppercase (get_or left i 0))
    (to_ascii_uppercase (get_or right i 0))) (slice_cmp nat_cmp (folded (drop (i + 1) left))
    (folded (drop (i + 1) right)))
slice_cmp_folded_drop left right i in_left in_right =
    at_drop_more (λ rest. slice_cmp nat_cmp (folded rest) (folded (drop i right))) left i 0
    in_left ∙
    at_drop_more (λ rest. slice_cmp nat_cmp (folded (get_or left i 0 ∷ drop (i + 1) left))
    (folded rest)) right i 0 in_right

-- where the left one is at its end
pub slice_cmp_folded_end :
    (left right : List ℕ) (i : ℕ) → i ≡ length left → i ≤ length right →
    slice_cmp nat_cmp (folded (drop i left)) (folded (drop i right)) ≡
    nat_cmp (length left) (length right)
slice_cmp_folded_end left right i e within =
    let ended = at_drop_all (λ rest. slice_cmp nat_cmp (folded rest) (folded (drop i right))) left i
    (omega arith) in
    let at_end : length right ≤ i → slice_cmp nat_cmp [] (folded (drop i right)) ≡
    nat_cmp (length left) (length right) =
    λ all. at_drop_all (λ rest. slice_cmp nat_cmp [] (folded rest)) right i all ∙
    sym (nat_cmp_same (length left) (length right) (omega arith)) in
    let before : i < length right → slice_cmp nat_cmp [] (folded (drop i right)) ≡
    nat_cmp (length left) (length right) =
    λ more. at_drop_more (λ rest. slice_cmp nat_cmp [] (folded rest)) right i 0 more ∙
    sym (nat_cmp_less (length left) (length right) (omega arith)) in
    ended ∙ elim (cases_lt i (length right)) [ inl more ↦ before more | inr all ↦ at_end all ]
  where
    nat_cmp_same : (m n : ℕ) → m ≡ n → nat_cmp m n ≡ Equal
    nat_cmp_same m n same = grind (arith, nat_tests)

    nat_cmp_less : (m n : ℕ) → m < n → nat_cmp m n ≡ Less
    nat_cmp_less m n less = grind (arith, nat_tests)

-- where the right one is at its end
pub slice_cmp_folded_longer :
    (left right : List ℕ) (i : ℕ) → i < length left → length right ≤ i →
    slice_cmp nat_cmp (folded (drop i left)) (folded (drop i right)) ≡ Greater
slice_cmp_folded_longer left right i in_left ended =
    at_drop_more (λ rest. slice_cmp nat_cmp (folded rest) (folded (drop i right))) left i 0
    in_left ∙
    at_drop_all (λ rest. slice_cmp nat_cmp (folded (get_or left i 0 ∷ drop (i + 1) left))
    (folded rest)) right i ended

-- one more segment behind those of a version's text
join_push :
    (first : ℕ) (segments : List ℕ) (segment : ℕ) →
    join_with_byte 46 (map decimal (first ∷ segments ++ segment ∷ [])) ≡
    join_with_byte 46 (map decimal (first ∷ segments)) ++ 46 ∷ decimal segment
join_push first [] segment = refl
join_push first (second ∷ segments) segment =
    ap (λ text. decimal first ++ 46 ∷ text) (join_push second segments segment) ∙
    sym (append_assoc (decimal first) (46 ∷ join_with_byte 46 (map decimal (second ∷ segments)))
    (46 ∷ decimal segment))

pub join_with_byte_take :
    (segments : List ℕ) (i : ℕ) (d : ℕ) → i < length segments →
    join_with_byte 46 (map decimal (take (i + 1) segments)) ≡
    join_with_byte 46 (map decimal (take i segments)) ++
    (if i == 0 then decimal (get_or segments i d) else 46 ∷ decimal (get_or segments i d))
join_with_byte_take [] i d within = absurd (omega (arith, within))
join_with_byte_take (first ∷ segments) zero d within = refl
join_with_byte_take (first ∷ segments) (suc i) d within =
    let e : take (suc i + 1) (first ∷ segments) ≡ first ∷ take i segments ++ get_or segments i d ∷
    [] = ap (λ n. take n (first ∷ segments)) (let n : suc i + 1 ≡ suc (i + 1) = omega arith in
    n) ∙ ap (λ xs. first ∷ xs) (take_more segments i d (omega arith)) in
    rw (ne_eqb (suc i) 0 (omega arith)) (ap (λ xs. join_with_byte 46 (map decimal xs)) e ∙
    join_push first (take i segments) (get_or segments i d))

-- the same texts and segments are those between which the order is Equal
pub same_by_cmp : (xs ys : List ℕ) → pointwise nat_eq xs ys ≡ is_eq (slice_cmp nat_cmp xs ys)
same_by_cmp [] [] = refl
same_by_cmp [] (y ∷ ys) = refl
same_by_cmp (x ∷ xs) [] = refl
same_by_cmp (x ∷ xs) (y ∷ ys) = let e = same_by_cmp xs ys in grind (arith, nat_tests)

abbrev pub is_equal : Option Ordering → Bool
is_equal None = false
is_equal (Some order) = is_eq order

by_option :
    {A : Type 0} (converted : Option A) (same : A → Bool) (compared : A → Ordering) →
    ((right : A) → same right ≡ is_eq (compared right)) →
    option_map_or same converted false ≡ is_equal (option_map compared converted)
by_option None same compared each = refl
by_option (Some right) same compared each = each right

pub equals_by_order : (left right : Value) → equals left right ≡ is_equal (order_of left right)
equals_by_order Null right = elim (is_null right) as (λ b. b ≡ is_equal (cond b (Some Equal) None))
    [ true ↦ refl | false ↦ refl ]
equals_by_order (Truth true) right = elim (bool_of right) as (λ b. b ≡ is_eq (bool_cmp true b))
    [ true ↦ refl | false ↦ refl ]
equals_by_order (Truth false) right = elim (bool_of right) as (λ b. not b ≡
    is_eq (bool_cmp false b)) [ true ↦ refl | false ↦ refl ]
equals_by_order (Number left) right = by_option (number_of_value right) (int_eq left) (int_cmp left)
    (λ number. refl)
equals_by_order (Version left) right = by_option (version_of right) (pointwise nat_eq left)
    (slice_cmp nat_cmp left) (same_by_cmp left)
equals_by_order (Str left) right = by_option (text_of right) (λ text. pointwise nat_eq (folded left)
    (folded text)) (λ text. slice_cmp nat_cmp (folded left) (folded text))
    (λ text. same_by_cmp (folded left) (folded text))
equals_by_order left right = refl
