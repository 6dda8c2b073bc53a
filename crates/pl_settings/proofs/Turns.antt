-- Turns of loops.
use Rattle.std.proofs.Common.{◌≡◌, ◌+◌, ℕ, zero, suc, List, [], ◌∷◌, ◌++◌, filter_map, Option, Some}
use Rattle.std.proofs.Common.{None, sym, ap, ◌∙◌, arith}
use Rattle.std.specs.List.{cons_option, range_with_len}
use Rattle.std.proofs.lemmas.List.{append_assoc, append-nil}
use Rattle.std.proofs.lemmas.List.Elements.{filter_map-append}

-- ---- what is made of places, behind what was there

last_place : (low count : ℕ) →
    range_with_len low (count + 1) ≡ range_with_len low count ++ (low + count) ∷ []
last_place low zero = let e : low ≡ low + 0 = omega arith in ap (λ n. n ∷ []) e
last_place low (suc count) =
    let e : low + 1 + count ≡ low + suc count = omega arith in
    let n : suc count + 1 ≡ suc (count + 1) = omega arith in
    ap (range_with_len low) n ∙ ap (λ rest. low ∷ rest) (last_place (low + 1) count)
    ∙ ap (λ n. low ∷ range_with_len (low + 1) count ++ n ∷ []) e

module _ {X : Type 0} (h : ℕ → Option X) (before : List X) (count : ℕ) (old new : List X) where
  made_more : before ++ (filter_map h (range_with_len 0 count) ++ cons_option (h count) [])
      ≡ before ++ filter_map h (range_with_len 0 (count + 1))
  made_more =
      let e : count ≡ 0 + count = omega arith in
      ap (λ xs. before ++ xs) (sym (filter_map-append h (range_with_len 0 count) (count ∷ []))
      ∙ ap (λ n. filter_map h (range_with_len 0 count ++ n ∷ [])) e
      ∙ ap (filter_map h) (sym (last_place 0 count)))

  pub some_more : old ≡ before ++ filter_map h (range_with_len 0 count) → (x : X) →
      h count ≡ Some x → new ≡ old ++ x ∷ [] →
      new ≡ before ++ filter_map h (range_with_len 0 (count + 1))
  some_more so_far x is grown =
      grown ∙ ap (λ xs. xs ++ x ∷ []) so_far
      ∙ append_assoc before (filter_map h (range_with_len 0 count)) (x ∷ [])
      ∙ ap (λ o. before ++ (filter_map h (range_with_len 0 count) ++ cons_option o [])) (sym is)
      ∙ made_more

  pub none_more : old ≡ before ++ filter_map h (range_with_len 0 count) → h count ≡ None →
      new ≡ old → new ≡ before ++ filter_map h (range_with_len 0 (count + 1))
  none_more so_far is same =
      same ∙ so_far
      ∙ ap (λ xs. before ++ xs) (sym (append-nil (filter_map h (range_with_len 0 count))))
      ∙ ap (λ o. before ++ (filter_map h (range_with_len 0 count) ++ cons_option o [])) (sym is)
      ∙ made_more
