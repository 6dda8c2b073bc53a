-- The changes of what differs make of the rows of a state those of the state behind an entry.
use Rattle.std.proofs.Common.{◌≡◌, ◌⊎◌, inl, inr, ℕ, Bool, true, false, nat_lt, true≢false}
use Rattle.std.proofs.Common.{List, [], ◌∷◌, ◌++◌, Option, Some, None, refl, sym, ap, subst, ◌∙◌}
use Rattle.std.specs.List.{AllByRecursion}
use Rattle.std.specs.Option.{option_map, option_to_list}
use Rattle.std.specs.Ordering.{is_eq}
use Rattle.std.specs.Prelude.{if◌then◌else◌}
use Rattle.pl_base.specs.declared.row.Row.{Row}
use Rattle.pl_touched.specs.Below.pl_facts.specs.declared.fact.Fact.{Fact}
use Rattle.pl_touched.specs.Below.pl_facts.specs.Sizes.{counted}
use Rattle.pl_touched.specs.Below.pl_journal.specs.Log.{Log, last_moment, last_run, version}
use Rattle.pl_keeper.specs.Keeping.{all_changed, place, place_cmp}
use Rattle.pl_keeper.specs.Rows.{row_of}
use Rattle.pl_keeper.specs.declared.records.Record.{Record}
use Rattle.pl_keeper.specs.declared.records.Record.TheVariants as kept
use Rattle.pl_changes.specs.Differing.{differing, row_in, stands_at, Apart, TellAt}
use Rattle.pl_changes.proofs.Leading.{ascend_all, none_some, turned}
use Rattle.pl_changes.proofs.Places.{if_false, if_true, itself, same_place, Place}
use Rattle.pl_changes.proofs.There.{there}
use Rattle.pl_places.specs.Below.pl_kept.specs.Kept.{numbers_kept, row_at, Where, File, Pipeline}
use Rattle.pl_places.specs.Below.pl_kept.specs.Kept.{Resource, Principal}
use Rattle.pl_places.specs.Below.pl_kept.specs.Kept.{Agent, Run, Stage, Job, Decision}
use Rattle.pl_places.specs.Places.{place_at, Fits}
use Rattle.pl_places.proofs.OnePlace.{fits_there, one_place, stands_there}
use Rattle.pl_touched.specs.Touched.{is_among, rows_at, touched_by, AreNewTo}
use Rattle.pl_touched.proofs.Staying.{all_stay}
use Rattle.pl_rows.specs.Entry.{with_added, AllFit, AreLookedAt}
use Rattle.pl_rows.specs.State.{AreRows, IsPlace}
use Rattle.pl_rows.proofs.Entry.{among, at_first, at_other, found_at, kept_there, none_first}
use Rattle.pl_rows.proofs.Entry.{not_first, touched_in, Among, FoundAt}

-- ---- what is looked at stands apart

-- where nothing stands at the place of the service's numbers, each row stands elsewhere
all_else : (rows : List Row) → row_in (0, []) rows ≡ None →
    AllByRecursion (λ row. is_eq (place_cmp (0, []) (place row)) ≡ false) rows
all_else [] none = tt
all_else (row ∷ rows) none = by (stands_at (0, []) row) refl (all_else rows) where
  by : (b : Bool) → stands_at (0, []) row ≡ b →
      (row_in (0, []) rows ≡ None →
      AllByRecursion (λ row. is_eq (place_cmp (0, []) (place row)) ≡ false) rows) →
      AllByRecursion (λ row. is_eq (place_cmp (0, []) (place row)) ≡ false) (row ∷ rows)
  by true e others = absurd (none_some (row_in (0, []) (row ∷ rows)) row none
      (if_true (stands_at (0, []) row) (Some row) (row_in (0, []) rows) e))
  by false e others = (
    turned (0, []) (place row) ∙ e,
    others (sym (if_false (stands_at (0, []) row) (Some row) (row_in (0, []) rows) e) ∙ none),
  )

module _ (change : ℕ) (log : Log) (added : List Fact) (rows : List Row)
    (seen : AreLookedAt change log added rows) (fit : AllFit log.facts) where
  abbrev counts : Record
  counts = kept.Meta (record {
    moment = last_moment log;
    run = last_run log;
    version = counted (version log);
    change = change;
  })

  none_there : row_in (0, []) seen.touched ≡ None
  none_there = touched_in change log added rows seen fit (0, []) ∙
      none_first change log added rows seen fit
      (row_in (0, []) (rows_at (touched_by added) log.facts)) refl

  else_all : AllByRecursion (λ row. is_eq (place_cmp (0, []) (place row)) ≡ false) seen.touched
  else_all = all_else seen.touched none_there

  apart_by : (b : Bool) →
      Apart (option_to_list (option_map row_of (if b then Some counts else None)) ++ seen.touched)
  apart_by true = (else_all, seen.apart)
  apart_by false = seen.apart

  pub stand_apart : Apart rows
  stand_apart = subst Apart (sym seen.whole) (apart_by (nat_lt 0 change))

-- ---- a state in which nothing has happened has no rows

none_kept : (facts : List Fact) → facts ≡ [] → (at : Where) → row_at at facts ≡ None
none_kept facts e at = ap (row_at at) e ∙ none_yet at where
  none_yet : (at : Where) → row_at at [] ≡ None
  none_yet (File key) = refl
  none_yet (Pipeline name) = refl
  none_yet (Resource key) = refl
  none_yet (Principal name) = refl
  none_yet (Agent name) = refl
  none_yet (Run run) = refl
  none_yet (Stage run stage) = refl
  none_yet (Job run stage job) = refl
  none_yet (Decision run stage approver) = refl

pub nothing_kept : AllFit []
nothing_kept (File key) = tt
nothing_kept (Pipeline name) = tt
nothing_kept (Resource key) = tt
nothing_kept (Principal name) = tt
nothing_kept (Agent name) = tt
nothing_kept (Run run) = tt
nothing_kept (Stage run stage) = tt
nothing_kept (Job run stage job) = tt
nothing_kept (Decision run stage approver) = tt

pub no_rows : (log : Log) → log.facts ≡ [] → AreRows 0 log []
no_rows log e = record {
  ascend = tt;
  numbers = refl;
  each = λ at fits. sym (none_kept log.facts e at);
  only = λ at row found. absurd (none_some None row refl found);
}

-- ---- behind an entry

module _ (change next : ℕ) (log : Log) (added : List Fact) (before old new : List Row)
    (was : AreRows change log before) (fit : AllFit log.facts)
    (fits : AllFit (log.facts ++ added)) (news : AreNewTo log.facts added)
    (seen_old : AreLookedAt change log added old)
    (seen_new : AreLookedAt next (with_added log added) added new) where
  abbrev places : List Where
  places = touched_by added

  abbrev facts : List Fact
  facts = log.facts ++ added

  abbrev behind : List Row
  behind = all_changed (differing old new) before

  told : (at : Place) (x : Option Row) → TellAt at before x old new → row_in at behind ≡ x
  told at x tell = there before old new at x (stand_apart change log added old seen_old fit)
      (stand_apart next (with_added log added) added new seen_new fits) tell

  numbers_behind : row_in (0, []) behind ≡ option_map row_of (numbers_kept next (with_added log added))
  numbers_behind = told (0, []) (option_map row_of (numbers_kept next (with_added log added))) (inl (
    at_first change log added old seen_old fit ∙ sym was.numbers,
    at_first next (with_added log added) added new seen_new fits,
  ))

  module _ (at : Place) (off : is_eq (place_cmp (0, []) at) ≡ false) where
    abbrev A : Option Row
    A = row_in at (rows_at places log.facts)

    abbrev B : Option Row
    B = row_in at (rows_at places facts)

    old_is : row_in at old ≡ A
    old_is = at_other change log added old seen_old fit at off

    new_is : row_in at new ≡ B
    new_is = at_other next (with_added log added) added new seen_new fits at off

    -- a row at one of the touched places, before or behind, is of the place that stands there
    was_here : (row : Row) → A ≡ Some row → FoundAt log.facts fit at places row
    was_here row e = found_at log.facts fit at places row e

    is_here : (row : Row) → B ≡ Some row → FoundAt facts fits at places row
    is_here row e = found_at facts fits at places row e

    -- where nothing is touched, what stood there stays
    stays : A ≡ None → B ≡ None → row_in at behind ≡ row_in at before
    stays none_old none_new = told at (row_in at before)
        (inr (old_is ∙ (none_old ∙ (sym none_new ∙ sym new_is)), refl))

    pub only_places : (row : Row) → row_in at behind ≡ Some row → (had has : Option Row) →
        A ≡ had → B ≡ has → IsPlace at
    only_places row found (Some one) has e f =
        let it : FoundAt log.facts fit at places one = was_here one e in record {
          here = it.here;
          fits = fits_there log.facts it.here one (fit it.here) it.keeps;
          same = sym (stands_there log.facts it.here one it.keeps) ∙ it.there;
        }
    only_places row found None (Some one) e f =
        let it : FoundAt facts fits at places one = is_here one f in record {
          here = it.here;
          fits = fits_there facts it.here one (fits it.here) it.keeps;
          same = sym (stands_there facts it.here one it.keeps) ∙ it.there;
        }
    only_places row found None None e f =
        by (was.only at row (sym (stays e f) ∙ found)) where
          by : (at ≡ (0, [])) ⊎ IsPlace at → IsPlace at
          by (inl numbers) = absurd (true≢false (sym (ap
              (λ (p : Place). is_eq (place_cmp (0, []) p)) numbers ∙ itself (0, [])) ∙ off))
          by (inr place) = place

  -- what is kept at a place stands there behind
  module _ (here : Where) (good : Fits here) where
    abbrev spot : Place
    spot = place_at here

    away : (b : Bool) → is_eq (place_cmp (0, []) spot) ≡ b → b ≡ false
    away true e = absurd (not_first here (sym (same_place (0, []) spot e)))
    away false e = refl

    off_numbers : is_eq (place_cmp (0, []) spot) ≡ false
    off_numbers = away (is_eq (place_cmp (0, []) spot)) refl

    touched_here : Among here places → row_in spot behind ≡ row_at here facts
    touched_here is_in = told spot (row_at here facts) (inl (
      old_is spot off_numbers ∙ (kept_there log.facts fit places here is_in good ∙
          sym (was.each here good)),
      new_is spot off_numbers ∙ kept_there facts fits places here is_in good,
    ))

    untouched_here : (b : Bool) → is_among here places ≡ b →
        row_in spot (rows_at places log.facts) ≡ None → row_in spot (rows_at places facts) ≡ None →
        row_in spot behind ≡ row_at here facts
    untouched_here true e none_old none_new = touched_here (among here places e)
    untouched_here false e none_old none_new =
        stays spot off_numbers none_old none_new ∙ (was.each here good ∙
        ap (λ (o : Option Record). option_map row_of o) (sym (all_stay added log.facts here news e)))

    same_here : (row : Row) (other : Where) → Among other places → Fits other →
        place_at other ≡ spot → row_in spot behind ≡ row_at here facts
    same_here row other is_in fit_other there_other = touched_here
        (subst (λ (w : Where). Among w places) (one_place other here fit_other good there_other)
        is_in)

    stands_here : (had has : Option Row) → row_in spot (rows_at places log.facts) ≡ had →
        row_in spot (rows_at places facts) ≡ has → row_in spot behind ≡ row_at here facts
    stands_here (Some row) has e f =
        let it : FoundAt log.facts fit spot places row = was_here spot off_numbers row e in
        same_here row it.here it.is_in
        (fits_there log.facts it.here row (fit it.here) it.keeps)
        (sym (stands_there log.facts it.here row it.keeps) ∙ it.there)
    stands_here None (Some row) e f =
        let it : FoundAt facts fits spot places row = is_here spot off_numbers row f in
        same_here row it.here it.is_in
        (fits_there facts it.here row (fits it.here) it.keeps)
        (sym (stands_there facts it.here row it.keeps) ∙ it.there)
    stands_here None None e f = untouched_here (is_among here places) refl e f

    pub each_here : row_in spot behind ≡ row_at here facts
    each_here = stands_here (row_in spot (rows_at places log.facts))
        (row_in spot (rows_at places facts)) refl refl

  only_here : (at : Place) (row : Row) → row_in at behind ≡ Some row → (b : Bool) →
      is_eq (place_cmp (0, []) at) ≡ b → (at ≡ (0, [])) ⊎ IsPlace at
  only_here at row found true e = inl (sym (same_place (0, []) at e))
  only_here at row found false e = inr (only_places at e row found
      (row_in at (rows_at places log.facts)) (row_in at (rows_at places facts)) refl refl)

  pub kept_behind : AreRows next (with_added log added) behind
  kept_behind = record {
    ascend = ascend_all (differing old new) before was.ascend;
    numbers = numbers_behind;
    each = λ at good. each_here at good;
    only = λ at row found. only_here at row found (is_eq (place_cmp (0, []) at)) refl;
  }
