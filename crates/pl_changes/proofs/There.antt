-- What the changes of what differs leave at one place.
use Rattle.std.proofs.Common.{◌≡◌, ◌⊎◌, inl, inr, Bool, true, false, cond, not, ◌||◌, true≢false}
use Rattle.std.proofs.Common.{List, [], ◌∷◌, ◌++◌, map, Option, Some, None, refl, sym, ap, ◌∙◌}
use Rattle.std.specs.List.{filter, list_any, AllByRecursion}
use Rattle.std.specs.Option.{option_map_or}
use Rattle.std.specs.Ordering.{is_eq}
use Rattle.std.specs.Prelude.{is_some}
use Rattle.pl_base.specs.declared.row.Change.{Change}
use Rattle.pl_base.specs.declared.row.Row.{Row}
use Rattle.pl_keeper.specs.Keeping.{all_changed, changed, place, place_cmp, row_cmp}
use Rattle.pl_changes.specs.Differing.{come, coming, differing, going, gone, have_place, have_row}
use Rattle.pl_changes.specs.Differing.{is_change_at, row_in, stands_at, Apart, TellAt}
use Rattle.pl_changes.proofs.Differs.{own, row_itself, told, unchanged}
use Rattle.pl_changes.proofs.Leading.{changed_at, each_joined, none_some, or_false, place_of, turned}
use Rattle.pl_changes.proofs.Leading.{with_body}
use Rattle.pl_changes.proofs.Places.{if_false, if_true, stands, Place}

module _ (at : Place) (behind : Option Row) where
  -- a change of this place makes what stands there behind
  abbrev MakesIt : Change → Type 0
  MakesIt change = is_change_at at change ≡ true → behind ≡ with_body change change.body

  one_more : (change : Change) (rows : List Row) (b : Bool) →
      is_eq (place_cmp at (place_of change)) ≡ b → MakesIt change →
      (is_change_at at change ≡ false → row_in at rows ≡ behind) →
      row_in at (changed rows change) ≡ behind
  one_more change rows true e makes rest =
      changed_at at change rows ∙ (if_true (is_eq (place_cmp at (place_of change)))
      (with_body change change.body) (row_in at rows) e ∙
      sym (makes (turned (place_of change) at ∙ e)))
  one_more change rows false e makes rest =
      changed_at at change rows ∙ (if_false (is_eq (place_cmp at (place_of change)))
      (with_body change change.body) (row_in at rows) e ∙ rest (turned (place_of change) at ∙ e))

  all_more : (changes : List Change) (rows : List Row) → AllByRecursion MakesIt changes →
      (list_any (is_change_at at) changes ≡ false → row_in at rows ≡ behind) →
      row_in at (all_changed changes rows) ≡ behind
  all_more [] rows makes rest = rest refl
  all_more (change ∷ changes) rows makes rest =
      all_more changes (changed rows change) makes.1
      (λ others. one_more change rows (is_eq (place_cmp at (place_of change))) refl makes.0
      (λ here. rest (or_false (is_change_at at change) (list_any (is_change_at at) changes) here
      others)))

  module _ (before old new : List Row) (tell : TellAt at before behind old new) where
    -- of a row that goes nothing is behind
    goes : (row : Row) → row_in (place row) old ≡ Some row → have_place new row ≡ false →
        MakesIt (going row)
    goes row was off here = by tell where
      where_is : place row ≡ at
      where_is = stands at row here

      nothing : (o : Option Row) → row_in at new ≡ o → is_some o ≡ false → row_in at new ≡ None
      nothing None e f = e
      nothing (Some other) e f = absurd (true≢false f)

      none : row_in at new ≡ None
      none = nothing (row_in at new) refl
          (ap (λ (p : Place). is_some (row_in p new)) (sym where_is) ∙ off)

      by : TellAt at before behind old new → behind ≡ with_body (going row) None
      by (inl seen) = sym seen.1 ∙ none
      by (inr same) = absurd (none_some (row_in at old) row (same.0 ∙ none)
          (ap (λ (p : Place). row_in p old) (sym where_is) ∙ was))

    -- a row that comes is there
    comes : (row : Row) → row_in (place row) new ≡ Some row → have_row old row ≡ false →
        MakesIt (coming row)
    comes row is off here = by tell where
      where_is : place row ≡ at
      where_is = stands at row here

      found : row_in at new ≡ Some row
      found = ap (λ (p : Place). row_in p new) (sym where_is) ∙ is

      by : TellAt at before behind old new → behind ≡ with_body (coming row) (Some row.body)
      by (inl seen) = sym seen.1 ∙ found
      by (inr same) =
          let kept : have_row old row ≡ true =
          ap (λ (o : Option Row). option_map_or (λ other. is_eq (row_cmp other row)) o false)
          (ap (λ (p : Place). row_in p old) where_is ∙ (same.0 ∙ found)) ∙ row_itself row in
          absurd (true≢false (sym kept ∙ off))

    goes_all : (rows : List Row) →
        AllByRecursion (λ row. row_in (place row) old ≡ Some row) rows →
        AllByRecursion MakesIt (map going (filter (λ row. not (have_place new row)) rows))
    goes_all [] each = tt
    goes_all (row ∷ rows) each =
        by (not (have_place new row)) refl (goes_all rows each.1) where
          by : (b : Bool) → not (have_place new row) ≡ b →
              AllByRecursion MakesIt (map going (filter (λ row. not (have_place new row)) rows)) →
              AllByRecursion MakesIt (map going (cond b
              (row ∷ filter (λ row. not (have_place new row)) rows)
              (filter (λ row. not (have_place new row)) rows)))
          by true e others = (goes row each.0 (told (have_place new row) e), others)
          by false e others = others

    comes_all : (rows : List Row) →
        AllByRecursion (λ row. row_in (place row) new ≡ Some row) rows →
        AllByRecursion MakesIt (map coming (filter (λ row. not (have_row old row)) rows))
    comes_all [] each = tt
    comes_all (row ∷ rows) each =
        by (not (have_row old row)) refl (comes_all rows each.1) where
          by : (b : Bool) → not (have_row old row) ≡ b →
              AllByRecursion MakesIt (map coming (filter (λ row. not (have_row old row)) rows)) →
              AllByRecursion MakesIt (map coming (cond b
              (row ∷ filter (λ row. not (have_row old row)) rows)
              (filter (λ row. not (have_row old row)) rows)))
          by true e others = (comes row each.0 (told (have_row old row) e), others)
          by false e others = others

    rest_same : list_any (is_change_at at) (differing old new) ≡ false → row_in at before ≡ behind
    rest_same none = by tell where
      by : TellAt at before behind old new → row_in at before ≡ behind
      by (inl seen) = sym seen.0 ∙ (unchanged old new at none ∙ seen.1)
      by (inr same) = same.1

    left_there : Apart old → Apart new → row_in at (all_changed (differing old new) before) ≡ behind
    left_there left right = all_more (differing old new) before
        (each_joined MakesIt (map going (gone old new)) (map coming (come old new))
        (goes_all old (own old left)) (comes_all new (own new right))) rest_same

pub there : (before old new : List Row) (at : Place) (behind : Option Row) → Apart old →
    Apart new → TellAt at before behind old new →
    row_in at (all_changed (differing old new) before) ≡ behind
there before old new at behind left right tell =
    left_there at behind before old new tell left right
