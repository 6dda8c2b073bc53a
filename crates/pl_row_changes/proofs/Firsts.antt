-- Of each place the first row.
use Rattle.std.proofs.Common.{◌≡◌, ◌≢◌, ℕ, Bool, true, false, not, cond, true≢false}
use Rattle.std.proofs.Common.{List, [], ◌∷◌, Option, Some, None, refl, sym, ap, ◌∙◌}
use Rattle.std.specs.List.{filter, AllByRecursion}
use Rattle.std.specs.Ordering.{is_eq}
use Rattle.pl_base.specs.declared.row.Row.{Row}
use Rattle.pl_keeper.specs.Keeping.{place, place_cmp}
use Rattle.pl_changes.specs.Differing.{row_in, stands_at, Apart}
use Rattle.pl_changes.proofs.Leading.{each_kept, turned}
use Rattle.pl_changes.proofs.Places.{find_kept, if_false, if_true, stands, Place}
use Rattle.pl_row_changes.specs.Counting.{firsts}

-- rows but those of a place
abbrev but : Place → List Row → List Row
but at rows = filter (λ other. not (stands_at at other)) rows

told : (b : Bool) → not b ≡ true → b ≡ false
told true e = absurd (true≢false (sym e))
told false e = refl

-- they stand elsewhere
elsewhere : (row : Row) (rows : List Row) →
    AllByRecursion (λ later. is_eq (place_cmp (place row) (place later)) ≡ false)
    (but (place row) rows)
elsewhere row [] = tt
elsewhere row (other ∷ rows) =
    by (stands_at (place row) other) refl (elsewhere row rows) where
      by : (b : Bool) → stands_at (place row) other ≡ b →
          AllByRecursion (λ later. is_eq (place_cmp (place row) (place later)) ≡ false)
          (but (place row) rows) →
          AllByRecursion (λ later. is_eq (place_cmp (place row) (place later)) ≡ false)
          (cond (not b) (other ∷ but (place row) rows) (but (place row) rows))
      by true e rest = rest
      by false e rest = (turned (place row) (place other) ∙ e, rest)

apart_kept : (p : Row → Bool) (rows : List Row) → Apart rows → Apart (filter p rows)
apart_kept p [] apart = apart
apart_kept p (row ∷ rows) apart = by (p row) (apart_kept p rows apart.1) where
  by : (b : Bool) → Apart (filter p rows) →
      Apart (cond b (row ∷ filter p rows) (filter p rows))
  by true rest = (
    each_kept (λ later. is_eq (place_cmp (place row) (place later)) ≡ false) p rows apart.0,
    rest,
  )
  by false rest = rest

pub firsts_apart : (rows : List Row) → Apart (firsts rows)
firsts_apart [] = tt
firsts_apart (row ∷ rows) = (
  elsewhere row (firsts rows),
  apart_kept (λ other. not (stands_at (place row) other)) (firsts rows) (firsts_apart rows),
)

-- at each place stands what stood there
pub firsts_there : (at : Place) (rows : List Row) → row_in at (firsts rows) ≡ row_in at rows
firsts_there at [] = refl
firsts_there at (row ∷ rows) = by (stands_at at row) refl (firsts_there at rows) where
  by : (b : Bool) → stands_at at row ≡ b → row_in at (firsts rows) ≡ row_in at rows →
      cond b (Some row) (row_in at (but (place row) (firsts rows))) ≡
      cond b (Some row) (row_in at rows)
  by true e rest = refl
  by false e rest =
      let off : not (is_eq (place_cmp at (place row))) ≡ true =
      ap not (turned at (place row) ∙ e) in
      find_kept (λ (p : Place). not (is_eq (place_cmp p (place row)))) at (firsts rows) ∙
      (if_true (not (is_eq (place_cmp at (place row)))) (row_in at (firsts rows)) None off ∙ rest)
