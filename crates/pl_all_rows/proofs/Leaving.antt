-- What is left of rows in order, of which one is left at each place.
use Rattle.std.proofs.Common.{◌≡◌, ℕ, Bool, true, List, [], ◌∷◌, ◌++◌, length, take, drop, refl, sym}
use Rattle.std.proofs.Common.{ap, subst, ◌∙◌}
use Rattle.std.proofs.Math.Seq.{take-append_seam}
use Rattle.std.specs.Cmp.{IsTotalOrder}
use Rattle.std.specs.List.{dedup, AllByRecursion, Contains}
use Rattle.std.specs.List.Sorted.{IsPermutation, IsStrictlySortedBy}
use Rattle.std.specs.Ordering.{is_eq, is_lt}
use Rattle.std.specs.declared.cmp.Ordering.{Ordering}
use Rattle.std.specs.declared.cmp.Ordering.TheVariants.{Less}
use Rattle.std.proofs.lemmas.Cmp.{eq_by_cmp_equiv, nat_cmp_total, nat_list_cmp_total, on_total}
use Rattle.std.proofs.lemmas.Cmp.{then_total}
use Rattle.std.proofs.lemmas.List.Kept.{Any-dedup, Contains-from_dedup, IsStrictlySortedBy-dedup}
use Rattle.std.proofs.lemmas.List.Sorted.{Contains-permutation, IsPermutation-sym}
use Rattle.pl_base.specs.declared.row.Row.{Row}
use Rattle.pl_keeper.specs.Keeping.{comes_before, place, place_cmp, IsInOrder}
use Rattle.pl_changes.specs.Differing.{Ascend}
use Rattle.pl_changes.proofs.Leading.{each_weaker}
use Rattle.pl_changes.proofs.Places.{same_place, Place}

abbrev pub rows_cmp : Row → Row → Ordering
rows_cmp left right = place_cmp (place left) (place right)

abbrev pub together : Row → Row → Bool
together row other = is_eq (place_cmp (place row) (place other))

places_total : IsTotalOrder place_cmp
places_total = then_total (on_total (λ p. p.0) nat_cmp_total)
    (on_total (λ p. p.1) nat_list_cmp_total)

rows_total : IsTotalOrder rows_cmp
rows_total = on_total place places_total

ascending : (rows : List Row) → IsStrictlySortedBy rows_cmp rows → Ascend rows
unfolding IsStrictlySortedBy
ascending [] sorted = tt
ascending (row ∷ rows) sorted = (
  each_weaker (λ later. place_cmp (place row) (place later) ≡ Less)
      (λ later. comes_before row later ≡ true) (λ later is. ap is_lt is) rows sorted.0,
  ascending rows sorted.1,
)

module _ (old mid new : List Row) (moved : IsPermutation old mid) (sorted : IsInOrder mid)
    (is : new ≡ dedup together mid) where
  pub left_ascend : Ascend new
  left_ascend = subst Ascend (sym is) (ascending (dedup together mid)
      (IsStrictlySortedBy-dedup rows_total (λ x y. refl) mid sorted))

  pub left_from : (row : Row) → Contains new row → Contains old row
  left_from row there = Contains-permutation mid old row (IsPermutation-sym old mid moved)
      (Contains-from_dedup together mid row (subst (λ (rows : List Row). Contains rows row) is there))

  pub left_each : (row : Row) → Contains old row →
      (one : Row) × Contains new one × (place one ≡ place row)
  left_each row there =
      let (k, one, within, at, same) = Any-dedup (eq_by_cmp_equiv rows_total) mid row
      (Contains-permutation old mid row moved there) in (
        one,
        subst (λ (rows : List Row). Contains rows one) (sym is) (k, within, at),
        sym (same_place (place row) (place one) same),
      )

-- a slice that is written back whole
pub written_back : (count : ℕ) (new old : List Row) → count ≡ length old → length new ≡ length old →
    take count (new ++ drop (length new) old) ≡ new
written_back count new old is same =
    ap (λ n. take n (new ++ drop (length new) old)) (is ∙ sym same)
    ∙ take-append_seam new (drop (length new) old)
