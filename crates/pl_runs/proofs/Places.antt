-- Lists that are made place after place.
use Rattle.std.proofs.Common.{◌≡◌, ◌+◌, ℕ, zero, suc, List, [], ◌∷◌, ◌++◌, map, sym, ap, ◌∙◌, arith}
use Rattle.std.specs.List.{range_with_len}
use Rattle.std.proofs.lemmas.List.{map-append}

last_place : (low count : ℕ) →
    range_with_len low (count + 1) ≡ range_with_len low count ++ (low + count) ∷ []
last_place low zero = let e : low ≡ low + 0 = omega arith in ap (λ n. n ∷ []) e
last_place low (suc count) =
    let e : low + 1 + count ≡ low + suc count = omega arith in
    let n : suc count + 1 ≡ suc (count + 1) = omega arith in
    ap (range_with_len low) n ∙ ap (λ rest. low ∷ rest) (last_place (low + 1) count)
    ∙ ap (λ n. low ∷ range_with_len (low + 1) count ++ n ∷ []) e

pub one_more : {X : Type 0} (f : ℕ → X) (count : ℕ) (old new : List X) →
    old ≡ map f (range_with_len 0 count) → new ≡ old ++ f count ∷ [] →
    new ≡ map f (range_with_len 0 (count + 1))
one_more f count old new so_far grown =
    let e : count ≡ 0 + count = omega arith in
    grown ∙ ap (λ xs. xs ++ f count ∷ []) so_far
    ∙ sym (map-append f (range_with_len 0 count) (count ∷ []))
    ∙ ap (λ n. map f (range_with_len 0 count ++ n ∷ [])) e
    ∙ ap (map f) (sym (last_place 0 count))
