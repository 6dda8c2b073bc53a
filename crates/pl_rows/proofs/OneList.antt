-- A state has one list of rows.
use Rattle.std.proofs.Common.{◌≡◌, ◌⊎◌, inl, inr, ℕ, List, [], Option, Some, None, refl, sym, ap}
use Rattle.std.proofs.Common.{◌∙◌}
use Rattle.pl_base.specs.declared.row.Row.{Row}
use Rattle.pl_touched.specs.Below.pl_journal.specs.Log.{Log}
use Rattle.pl_changes.specs.Differing.{row_in}
use Rattle.pl_changes.proofs.Leading.{none_some, same_rows}
use Rattle.pl_changes.proofs.Places.{Place}
use Rattle.pl_rows.specs.State.{AreRows, IsPlace}

module _ (change : ℕ) (log : Log) where
  found : (one other : List Row) → AreRows change log one → AreRows change log other →
      (at : Place) (row : Row) → row_in at one ≡ Some row → row_in at other ≡ Some row
  found one other left right at row e = by (left.only at row e) where
    by : (at ≡ (0, [])) ⊎ IsPlace at → row_in at other ≡ Some row
    by (inl numbers) =
        ap (λ (p : Place). row_in p other) numbers ∙ (right.numbers ∙ (sym left.numbers ∙
        (ap (λ (p : Place). row_in p one) (sym numbers) ∙ e)))
    by (inr place) =
        ap (λ (p : Place). row_in p other) (sym place.same) ∙ (right.each place.here place.fits ∙
        (sym (left.each place.here place.fits) ∙
        (ap (λ (p : Place). row_in p one) place.same ∙ e)))

  same_at : (one other : List Row) → AreRows change log one → AreRows change log other →
      (at : Place) (had has : Option Row) → row_in at one ≡ had → row_in at other ≡ has → had ≡ has
  same_at one other left right at None None e f = refl
  same_at one other left right at None (Some row) e f =
      absurd (none_some (row_in at one) row e (found other one right left at row f))
  same_at one other left right at (Some row) None e f =
      absurd (none_some (row_in at other) row f (found one other left right at row e))
  same_at one other left right at (Some row) (Some another) e f =
      sym (found one other left right at row e) ∙ f

  pub one_list_of : (one other : List Row) → AreRows change log one → AreRows change log other →
      one ≡ other
  one_list_of one other left right = same_rows one other left.ascend right.ascend
      (λ at. same_at one other left right at (row_in at one) (row_in at other) refl refl)

pub one_list : (change : ℕ) (log : Log) (one other : List Row) → AreRows change log one →
    AreRows change log other → one ≡ other
one_list change log one other left right = one_list_of change log one other left right
