-- Rows that stand apart, and one more.
use Rattle.std.proofs.Common.{◌≡◌, Bool, true, false, not, true≢false, List, [], ◌∷◌, ◌++◌}
use Rattle.std.proofs.Common.{Option, Some, None, refl, sym, ap, subst, ◌∙◌}
use Rattle.std.specs.List.{AllByRecursion}
use Rattle.std.specs.Option.{option_or}
use Rattle.std.specs.Ordering.{is_eq}
use Rattle.std.specs.Prelude.{is_some}
use Rattle.pl_base.specs.declared.row.Row.{Row}
use Rattle.pl_keeper.specs.Keeping.{place, place_cmp}
use Rattle.pl_changes.specs.Differing.{have_place, row_in, stands_at, Apart, Joins}
use Rattle.pl_changes.proofs.Places.{find_behind, if_false, if_true, or_none, same_place, Place}
use Rattle.pl_changes.proofs.Leading.{each_joined}

-- where nothing stands at a place, each row stands elsewhere
all_else : (at : Place) (rows : List Row) → row_in at rows ≡ None →
    AllByRecursion (λ row. is_eq (place_cmp (place row) at) ≡ false) rows
all_else at [] none = tt
all_else at (row ∷ rows) none = by (stands_at at row) refl (all_else at rows) where
  by : (b : Bool) → stands_at at row ≡ b →
      (row_in at rows ≡ None →
      AllByRecursion (λ row. is_eq (place_cmp (place row) at) ≡ false) rows) →
      AllByRecursion (λ row. is_eq (place_cmp (place row) at) ≡ false) (row ∷ rows)
  by true e others =
      let here : row_in at (row ∷ rows) ≡ Some row =
      if_true (stands_at at row) (Some row) (row_in at rows) e in
      absurd (true≢false (sym (ap is_some here) ∙ ap is_some none))
  by false e others =
      let rest : row_in at (row ∷ rows) ≡ row_in at rows =
      if_false (stands_at at row) (Some row) (row_in at rows) e in
      (e, others (sym rest ∙ none))

-- a row whose place is free
pub apart_more : (rows : List Row) (row : Row) → Apart rows → row_in (place row) rows ≡ None →
    Apart (rows ++ row ∷ [])
apart_more [] row apart none = (tt, tt)
apart_more (first ∷ rows) row apart none =
    let else_all = all_else (place row) (first ∷ rows) none in (
      each_joined (λ later. is_eq (place_cmp (place first) (place later)) ≡ false) rows (row ∷ [])
          apart.0 (else_all.0, tt),
      apart_more rows row apart.1 (rest else_all.0),
    ) where
      rest : stands_at (place row) first ≡ false → row_in (place row) rows ≡ None
      rest e =
          let here : row_in (place row) (first ∷ rows) ≡ row_in (place row) rows =
          if_false (stands_at (place row) first) (Some first) (row_in (place row) rows) e in
          sym here ∙ none

pub joins_more : (rows : List Row) (row : Row) → Joins rows (row ∷ []) (rows ++ row ∷ [])
joins_more rows row at = find_behind (stands_at at) rows (row ∷ [])

-- where its place is taken, the row adds nothing
pub joins_taken : (rows : List Row) (row other : Row) → row_in (place row) rows ≡ Some other →
    Joins rows (row ∷ []) rows
joins_taken rows row other taken at = by (stands_at at row) refl where
  by : (b : Bool) → stands_at at row ≡ b →
      row_in at rows ≡ option_or (row_in at rows) (row_in at (row ∷ []))
  by true e =
      let here : row_in at rows ≡ Some other =
      ap (λ (p : Place). row_in p rows) (sym (same_place (place row) at e)) ∙ taken in
      here ∙ ap (λ (o : Option Row). option_or o (row_in at (row ∷ []))) (sym here)
  by false e =
      let none : row_in at (row ∷ []) ≡ None = if_false (stands_at at row) (Some row) None e in
      sym (ap (λ (o : Option Row). option_or (row_in at rows) o) none ∙ or_none (row_in at rows))

pub taken_by : (o : Option Row) → is_some o ≡ true → (row : Row) × (o ≡ Some row)
taken_by None e = absurd (true≢false (sym e))
taken_by (Some row) e = (row, refl)

pub free : (o : Option Row) → is_some o ≡ false → o ≡ None
free None e = refl
free (Some row) e = absurd (true≢false e)

-- what is joined one after the other is joined at once
or_assoc : (a b c : Option Row) → option_or (option_or a b) c ≡ option_or a (option_or b c)
or_assoc None b c = refl
or_assoc (Some row) b c = refl

pub joins_both : (old one mid two new : List Row) → Joins old one mid → Joins mid two new →
    Joins old (one ++ two) new
joins_both old one mid two new first second at = second at ∙
    (ap (λ (o : Option Row). option_or o (row_in at two)) (first at) ∙
    (or_assoc (row_in at old) (row_in at one) (row_in at two) ∙
    ap (λ (o : Option Row). option_or (row_in at old) o) (sym (find_behind (stands_at at) one
    two))))

pub joins_none : (old : List Row) → Joins old [] old
joins_none old at = sym (or_none (row_in at old))

-- ---- the two ways of adding

pub told_off : (b : Bool) → not b ≡ true → b ≡ false
told_off true e = absurd (true≢false (sym e))
told_off false e = refl

pub told_on : (b : Bool) → not b ≡ false → b ≡ true
told_on true e = refl
told_on false e = absurd (true≢false e)

module _ (rows seen : List Row) (row : Row) (b : Bool) (same : seen ≡ rows)
    (is : b ≡ have_place seen row) where
  has : have_place rows row ≡ b
  has = ap (λ (some : List Row). have_place some row) (sym same) ∙ sym is

  pub added_apart : (new : List Row) → b ≡ false → new ≡ rows ++ row ∷ [] → Apart rows → Apart new
  added_apart new off new_is apart = subst Apart (sym new_is)
      (apart_more rows row apart (free (row_in (place row) rows) (has ∙ off)))

  pub added_joins : (new : List Row) → new ≡ rows ++ row ∷ [] → Joins rows (row ∷ []) new
  added_joins new new_is = subst (Joins rows (row ∷ [])) (sym new_is) (joins_more rows row)

  pub left_joins : b ≡ true → Joins rows (row ∷ []) rows
  left_joins on =
      let one = taken_by (row_in (place row) rows) (has ∙ on) in
      joins_taken rows row one.0 one.1
