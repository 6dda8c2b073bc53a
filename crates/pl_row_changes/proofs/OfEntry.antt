-- The changes of what is looked at are those of the entry.
use Rattle.std.proofs.Common.{◌≡◌, ◌↔◌, ℕ, ◌+◌, Bool, true, false, nat_lt, true≢false, List, []}
use Rattle.std.proofs.Common.{◌++◌, length}
use Rattle.std.proofs.Common.{Result, Ok, Err, IfOk}
use Rattle.std.proofs.Common.{Option, Some, None, refl, sym, ap, subst, ◌∙◌, append-nil, arith}
use Rattle.std.specs.List.{list_any}
use Rattle.std.specs.Option.{option_map}
use Rattle.std.specs.Prelude.{◌≢◌, IsTrue, if◌then◌else◌}
use Rattle.pl_base.specs.declared.row.Change.{Change}
use Rattle.pl_base.specs.declared.row.Row.{Row}
use Rattle.pl_facts.specs.Sizes.{counted as as_counted}
use Rattle.pl_facts.specs.declared.fact.Fact.{Fact}
use Rattle.pl_journal.specs.Log.{Log, last_moment, last_run, version}
use Rattle.pl_keeper.specs.Keeping.{all_changed}
use Rattle.pl_keeper.specs.Rows.{row_of}
use Rattle.pl_keeper.specs.declared.records.Record.{Record}
use Rattle.pl_keeper.specs.declared.records.Record.TheVariants as kept
use Rattle.pl_changes.specs.Differing.{differing, is_change_at, row_in, Apart, AreOnePerPlace}
use Rattle.pl_changes.specs.Differing.{Joins}
use Rattle.pl_changes.proofs.Differs.{differ}
use Rattle.pl_rows.specs.Below.pl_kept.specs.Kept.{numbers_kept}
use Rattle.pl_rows.specs.Entry.{with_added, AllFit, AreLookedAt}
use Rattle.pl_rows.specs.State.{AreRows}
use Rattle.pl_rows.proofs.Entry.{all_fit, overlooks_nothing}
use Rattle.pl_rows.proofs.Keeping.{kept_behind}
use Rattle.pl_rows.proofs.OneList.{one_list}
use Rattle.pl_rows.specs.Below.pl_touched.specs.Touched.{rows_at, touched_by, AreNewTo, FitAt}
use Rattle.pl_row_changes.specs.Changing.{AreOfEntry}
use Rattle.pl_row_changes.specs.Counting.{counted, row_changes}
use Rattle.pl_row_changes.specs.Looking.{numbers, IsLooked}
use Rattle.pl_row_changes.specs.declared.changing.EntryChanges.{EntryChanges}
use Rattle.pl_row_changes.specs.declared.looked.Looked.{Looked}
use Rattle.pl_row_changes.proofs.Counts.{all_once, count_is, counted_is, new_apart, no_numbers}
use Rattle.pl_row_changes.proofs.Counts.{old_apart, IsNumbers}

are_numbers : (change : ℕ) (log : Log) → IsNumbers (option_map row_of (numbers_kept change log))
are_numbers change log = by (nat_lt 0 change) where
  by : (b : Bool) → IsNumbers (option_map row_of (if b then Some (kept.Meta (record {
    moment = last_moment log;
    run = last_run log;
    version = as_counted (version log);
    change = change;
  })) else None))
  by true = refl
  by false = tt

module _ (change : ℕ) (log : Log) (added : List Fact) (behind : List Row) (looked : Looked)
    (is : IsLooked change log added behind looked) (right : Apart behind)
    (news : Joins [] (rows_at (touched_by added) (log.facts ++ added)) behind)
    (fits : FitAt (touched_by added) (log.facts ++ added)) (told : EntryChanges)
    (told_next : told.next ≡ looked.next)
    (told_changes : told.changes ≡ differing looked.old.items
    (numbers looked.next (with_added log added) ++ looked.behind.items)) where
  abbrev before : List Row
  before = is.seen.touched

  abbrev after : Log
  after = with_added log added

  abbrev one : Option Row
  one = option_map row_of (numbers_kept change log)

  abbrev two : Option Row
  two = option_map row_of (numbers_kept told.next after)

  abbrev old : List Row
  old = numbers change log ++ before

  abbrev new : List Row
  new = numbers told.next after ++ behind

  none_before : row_in (0, []) before ≡ None
  none_before = is.seen.joins (0, []) ∙ no_numbers log.facts (touched_by added)

  none_behind : row_in (0, []) behind ≡ None
  none_behind = news (0, []) ∙ no_numbers (log.facts ++ added) (touched_by added)

  changes : told.changes ≡ differing old new
  changes =
      let number : looked.next ≡ told.next = sym told_next in
      told_changes ∙ (λ i. differing (is.seen.whole i)
      (numbers (number i) after ++ is.behind_is i))

  count_of : counted (differing old new) ≡ length (differing before behind)
  count_of = counted_is one two (are_numbers change log) (are_numbers told.next after) before
      behind is.seen.apart right none_before none_behind

  counts : counted told.changes ≡ length (differing before behind)
  counts = ap counted changes ∙ count_of

  seen_old : AreLookedAt change log added old
  seen_old = record {
    touched = before;
    apart = is.seen.apart;
    joins = is.seen.joins;
    whole = refl;
  }

  seen_new : AreLookedAt told.next after added new
  seen_new = record { touched = behind; apart = right; joins = news; whole = refl }

  pub of_entry : AreOfEntry change told.next log added told.changes
  of_entry = record {
    next_is = told_next ∙ (is.next_is ∙ ap (λ (n : ℕ). change + n) (sym counts));
    count = counts ∙ count_is log.facts added before behind is.seen.apart right is.seen.joins news;
    once = subst (λ (some : List Change). AreOnePerPlace some) (sym changes)
        (all_once one two (are_numbers change log) (are_numbers told.next after) before behind
        is.seen.apart right none_before none_behind);
    fit = λ fit new_to. all_fit log.facts added fit new_to fits;
    kept = λ were fit new_to rows.
        subst (λ (some : List Change). AreRows told.next after (all_changed some were)) (sym changes)
        (kept_behind change told.next log added were old new rows fit
        (all_fit log.facts added fit new_to fits) new_to seen_old seen_new);
    differ = λ were later fit new_to rows those at.
        subst (λ (some : List Change). IsTrue (list_any (is_change_at at) some) ↔
        (row_in at were ≢ row_in at later)) (sym changes)
        (differ were later old new
        (old_apart one two (are_numbers change log) (are_numbers told.next after) before behind
        is.seen.apart right none_before none_behind)
        (new_apart one two (are_numbers change log) (are_numbers told.next after) before behind
        is.seen.apart right none_before none_behind)
        (overlooks_nothing change told.next log added were later old new rows those fit
        (all_fit log.facts added fit new_to fits) new_to seen_old seen_new) at);
  }

module _ (change : ℕ) (log : Log) (added : List Fact) (behind : List Row) (looked : Looked)
    (is : IsLooked change log added behind looked) (right : Apart behind)
    (news : Joins [] (rows_at (touched_by added) (log.facts ++ added)) behind)
    (fits : FitAt (touched_by added) (log.facts ++ added)) where
  pub of_looked : {E : Type 0} (r : Result EntryChanges E) →
      IfOk r (λ told. told.next ≡ looked.next) →
      IfOk r (λ told. told.changes ≡ differing looked.old.items
      (numbers looked.next (with_added log added) ++ looked.behind.items)) →
      IfOk r (λ told. AreOfEntry change told.next log added told.changes)
  of_looked (Ok told) number are =
      of_entry change log added behind looked is right news fits told number are
  of_looked (Err e) number are = tt

-- ---- an entry that adds nothing changes nothing

pub of_none : (change : ℕ) (log : Log) → AreOfEntry change change log [] []
unfolding row_changes
of_none change log = record {
  next_is = omega arith;
  count = refl;
  once = tt;
  fit = λ fit new_to. subst AllFit (sym (append-nil log.facts)) fit;
  kept = λ were fit new_to rows. subst (λ (one : Log). AreRows change one were) (sym same) rows;
  differ = λ were later fit new_to rows those at. (
    λ none. absurd (true≢false (sym none)),
    λ off. absurd (off (ap (row_in at) (one_list change log were later rows
        (subst (λ (one : Log). AreRows change one later) same those)))),
  );
} where
  same : with_added log [] ≡ log
  same = ap (λ (facts : List Fact). record log { facts = facts }) (append-nil log.facts)

pub none_changed : (facts : List Fact) → row_changes facts [] ≡ 0
unfolding row_changes
none_changed facts = refl
