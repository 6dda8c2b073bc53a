-- How many changes there are: as many as places at which rows before and behind differ.
use Rattle.std.proofs.Common.{◌≡◌, ◌≢◌, ◌↔◌, ◌⊎◌, inl, inr, ℕ, Bool, true, false, not, true≢false}
use Rattle.std.proofs.Common.{List, [], ◌∷◌, ◌++◌, length, Option, Some, None, refl, sym, ap, subst}
use Rattle.std.proofs.Common.{◌∙◌}
use Rattle.std.specs.List.{cons_option, list_any, AllByRecursion}
use Rattle.std.specs.Option.{option_or, option_to_list}
use Rattle.std.specs.Ordering.{is_eq}
use Rattle.std.specs.Prelude.{IsTrue}
use Rattle.pl_base.specs.declared.row.Change.{Change}
use Rattle.pl_base.specs.declared.row.Row.{Row}
use Rattle.pl_facts.specs.declared.fact.Fact.{Fact}
use Rattle.pl_keeper.specs.Keeping.{place, place_cmp}
use Rattle.pl_changes.specs.Differing.{differing, is_change_at, row_in, stands_at, Apart}
use Rattle.pl_changes.specs.Differing.{AreOnePerPlace, Joins}
use Rattle.pl_changes.proofs.Differs.{differ, once as once_each}
use Rattle.pl_changes.proofs.Leading.{none_some, turned}
use Rattle.pl_changes.proofs.Places.{find_behind, if_false, if_true, itself, same_place, Place}
use Rattle.pl_rows.specs.Below.pl_kept.specs.Kept.{row_at, Where}
use Rattle.pl_rows.specs.Below.pl_places.proofs.OnePlace.{stands_there}
use Rattle.pl_rows.proofs.Entry.{not_first}
use Rattle.pl_rows.specs.Below.pl_touched.specs.Touched.{rows_at, touched_by}
use Rattle.pl_row_changes.specs.Counting.{counted, firsts, row_changes, rows_touched}
use Rattle.pl_row_changes.proofs.Firsts.{firsts_apart, firsts_there}
use Rattle.pl_row_changes.proofs.OnePerPlace.{any_at, equally_long, none_there, once_without}
use Rattle.pl_row_changes.proofs.OnePerPlace.{others_there, without, AreSame}

-- ---- where rows differ, and where they don't

abbrev pub Tells : Place → List Row → List Row → Type 0
Tells at old new = IsTrue (any_at at (differing old new)) ↔ (row_in at old ≢ row_in at new)

pub tells : (old new : List Row) → Apart old → Apart new → (at : Place) → Tells at old new
tells old new left right at = differ old new old new left right (λ p. inl (refl, refl)) at

-- two tests are one where each leads to the other
one_test : (b c : Bool) → (b ≡ true → c ≡ true) → (c ≡ true → b ≡ true) → b ≡ c
one_test true c to from = sym (to refl)
one_test false true to from = absurd (true≢false (sym (from refl)))
one_test false false to from = refl

-- where what stands there is the same, so is whether it differs
same_at : (at : Place) (old new a b : List Row) → Apart old → Apart new → Apart a → Apart b →
    row_in at old ≡ row_in at a → row_in at new ≡ row_in at b →
    any_at at (differing old new) ≡ any_at at (differing a b)
same_at at old new a b one two three four e f =
    let here = tells old new one two at in
    let there = tells a b three four at in
    one_test (any_at at (differing old new)) (any_at at (differing a b))
    (λ is. there.1 (λ equal. here.0 is (e ∙ (equal ∙ sym f))))
    (λ is. here.1 (λ equal. there.0 is (sym e ∙ (equal ∙ f))))

pub same_count : (old new a b : List Row) → Apart old → Apart new → Apart a → Apart b →
    ((at : Place) → row_in at old ≡ row_in at a) → ((at : Place) → row_in at new ≡ row_in at b) →
    length (differing old new) ≡ length (differing a b)
same_count old new a b one two three four e f =
    equally_long (differing old new) (differing a b) (once_each old new one two)
    (once_each a b three four) (λ at. same_at at old new a b one two three four (e at) (f at))

-- where nothing stands, nothing differs
none_differs : (at : Place) (old new : List Row) → Apart old → Apart new →
    row_in at old ≡ None → row_in at new ≡ None → any_at at (differing old new) ≡ false
none_differs at old new left right e f =
    by (any_at at (differing old new)) refl (tells old new left right at).0 where
      by : (b : Bool) → any_at at (differing old new) ≡ b →
          (any_at at (differing old new) ≡ true → row_in at old ≡ row_in at new → ⊥) → b ≡ false
      by true is leads = absurd (leads is (e ∙ sym f))
      by false is leads = refl

-- ---- no touched place is that of the service's numbers

pub no_numbers : (facts : List Fact) (places : List Where) →
    row_in (0, []) (rows_at places facts) ≡ None
no_numbers facts [] = refl
no_numbers facts (here ∷ places) =
    by (row_at here facts) refl (no_numbers facts places) where
      by : (o : Option Row) → row_at here facts ≡ o →
          row_in (0, []) (rows_at places facts) ≡ None →
          row_in (0, []) (cons_option o (rows_at places facts)) ≡ None
      by None e rest = rest
      by (Some row) e rest = which (stands_at (0, []) row) refl where
        which : (b : Bool) → stands_at (0, []) row ≡ b →
            row_in (0, []) (row ∷ rows_at places facts) ≡ None
        which true s = absurd (not_first here (sym (stands_there facts here row e) ∙
            same_place (place row) (0, []) s))
        which false s = if_false (stands_at (0, []) row) (Some row)
            (row_in (0, []) (rows_at places facts)) s ∙ rest

-- ---- one row in front, or none, at that place

abbrev pub IsNumbers : Option Row → Type 0
IsNumbers None = Unit {0}
IsNumbers (Some row) = place row ≡ (0, [])

module _ (o : Option Row) (rows : List Row) (none : row_in (0, []) rows ≡ None) where
  all_else : (some : List Row) → row_in (0, []) some ≡ None →
      AllByRecursion (λ later. is_eq (place_cmp (0, []) (place later)) ≡ false) some
  all_else [] empty = tt
  all_else (row ∷ some) empty = by (stands_at (0, []) row) refl (all_else some) where
    by : (b : Bool) → stands_at (0, []) row ≡ b →
        (row_in (0, []) some ≡ None →
        AllByRecursion (λ later. is_eq (place_cmp (0, []) (place later)) ≡ false) some) →
        AllByRecursion (λ later. is_eq (place_cmp (0, []) (place later)) ≡ false) (row ∷ some)
    by true e others = absurd (none_some (row_in (0, []) (row ∷ some)) row empty
        (if_true (stands_at (0, []) row) (Some row) (row_in (0, []) some) e))
    by false e others = (
      turned (0, []) (place row) ∙ e,
      others (sym (if_false (stands_at (0, []) row) (Some row) (row_in (0, []) some) e) ∙ empty),
    )

  pub front_apart : IsNumbers o → Apart rows → Apart (option_to_list o ++ rows)
  front_apart is apart = by o is where
    by : (some : Option Row) → IsNumbers some → Apart (option_to_list some ++ rows)
    by None is = apart
    by (Some row) is = (
      subst (λ (p : Place). AllByRecursion (λ later. is_eq (place_cmp p (place later)) ≡ false)
          rows) (sym is) (all_else rows none),
      apart,
    )

  pub front_else : IsNumbers o → (at : Place) → is_eq (place_cmp (0, []) at) ≡ false →
      row_in at (option_to_list o ++ rows) ≡ row_in at rows
  front_else is at off = by o is where
    by : (some : Option Row) → IsNumbers some →
        row_in at (option_to_list some ++ rows) ≡ row_in at rows
    by None is = refl
    by (Some row) is = if_false (stands_at at row) (Some row) (row_in at rows)
        (ap (λ (p : Place). is_eq (place_cmp p at)) is ∙ off)

-- so the changes but that of the numbers are those of the rows behind it
module _ (one two : Option Row) (is_one : IsNumbers one) (is_two : IsNumbers two)
    (old new : List Row) (left : Apart old) (right : Apart new)
    (none_old : row_in (0, []) old ≡ None) (none_new : row_in (0, []) new ≡ None) where
  abbrev pub all_old : List Row
  all_old = option_to_list one ++ old

  abbrev pub all_new : List Row
  all_new = option_to_list two ++ new

  pub old_apart : Apart all_old
  old_apart = front_apart one old none_old is_one left

  pub new_apart : Apart all_new
  new_apart = front_apart two new none_new is_two right

  pub all_once : AreOnePerPlace (differing all_old all_new)
  all_once = once_each all_old all_new old_apart new_apart

  others : AreSame (without (0, []) (differing all_old all_new)) (differing old new)
  others at = by (is_eq (place_cmp (0, []) at)) refl where
    by : (b : Bool) → is_eq (place_cmp (0, []) at) ≡ b →
        any_at at (without (0, []) (differing all_old all_new)) ≡ any_at at (differing old new)
    by true e =
        let is : (0, []) ≡ at = same_place (0, []) at e in
        sym (ap (λ (p : Place). any_at p (without (0, []) (differing all_old all_new))) is) ∙
        (none_there (0, []) (differing all_old all_new) ∙
        (sym (none_differs (0, []) old new left right none_old none_new) ∙
        ap (λ (p : Place). any_at p (differing old new)) is))
    by false e =
        others_there (0, []) at (differing all_old all_new) e ∙
        same_at at all_old all_new old new old_apart new_apart left right
        (front_else one old none_old is_one at e) (front_else two new none_new is_two at e)

  pub counted_is : counted (differing all_old all_new) ≡ length (differing old new)
  counted_is = equally_long (without (0, []) (differing all_old all_new)) (differing old new)
      (once_without (0, []) (differing all_old all_new) all_once) (once_each old new left right)
      others

-- ---- rows that are those of touched places are as many as an entry changes

pub count_is : (facts added : List Fact) (old new : List Row) → Apart old → Apart new →
    Joins [] (rows_at (touched_by added) facts) old →
    Joins [] (rows_at (touched_by added) (facts ++ added)) new →
    length (differing old new) ≡ row_changes facts added
unfolding row_changes
count_is facts added old new left right olds news =
    same_count old new (rows_touched added facts) (rows_touched added (facts ++ added)) left right
    (firsts_apart (rows_at (touched_by added) facts))
    (firsts_apart (rows_at (touched_by added) (facts ++ added)))
    (λ at. olds at ∙ sym (firsts_there at (rows_at (touched_by added) facts)))
    (λ at. news at ∙ sym (firsts_there at (rows_at (touched_by added) (facts ++ added))))
