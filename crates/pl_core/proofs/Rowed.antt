-- The kept rows go on from state to state.
use Rattle.std.proofs.Common.{◌≡◌, ℕ, List, [], ◌∷◌, ◌++◌, Some, length, refl, sym, ap, subst, ◌∙◌}
use Rattle.std.proofs.Common.{Result, Ok, Err, IfOk}
use Rattle.pl_base.specs.declared.digest.Digest.{Digest}
use Rattle.pl_base.specs.declared.memory.Memory.{Memory}
use Rattle.pl_base.specs.declared.row.Change.{Change}
use Rattle.pl_base.specs.declared.row.Row.{Row}
use Rattle.pl_core.specs.Prepared.{installed, next_change}
use Rattle.pl_core.specs.Rows.{AreKept}
use Rattle.pl_core.specs.State.{State, held, log, new_state}
use Rattle.pl_facts.specs.declared.entry.Entry.{Entry}
use Rattle.pl_facts.specs.declared.fact.Fact.{Fact}
use Rattle.pl_history.specs.History.{log_of, opened}
use Rattle.pl_history.specs.Legal.{Follows}
use Rattle.pl_history.proofs.Longer.{made_last}
use Rattle.pl_journal.specs.Log.{Log}
use Rattle.pl_keeper.specs.Keeping.{all_changed}
use Rattle.pl_all_rows.specs.Below.pl_row_changes.specs.Changing.{AreOfEntry}
use Rattle.pl_all_rows.specs.Below.pl_rows.specs.Entry.{with_added, AllFit}
use Rattle.pl_all_rows.specs.Below.pl_rows.specs.State.{AreRows}
use Rattle.pl_all_rows.specs.Below.pl_rows.proofs.Keeping.{no_rows, nothing_kept}
use Rattle.pl_all_rows.specs.Below.pl_touched.specs.Touched.{AreNewTo}

-- how many facts are installed is nothing to the rows
rows_installed : (change count : ℕ) (log : Log) (rows : List Row) → AreRows change log rows →
    AreRows change (record log { installed = count }) rows
rows_installed change count log rows were = record {
  ascend = were.ascend;
  numbers = were.numbers;
  each = were.each;
  only = were.only;
}

module _ (state : State) (entry : Entry) (changes : List Change) (rows : List Row)
    (new_to : AreNewTo (log state).facts entry.facts)
    (are : AreOfEntry (held state).change (next_change state (Some entry)) (log state) entry.facts
    changes) (were : AreKept state rows) where
  abbrev after : Log
  after = with_added (log state) entry.facts

  now : record after { installed = length after.facts } ≡ log (installed (Some entry) state)
  now = made_last state.opening state.entries entry

  pub kept_with : AreKept (installed (Some entry) state) (all_changed changes rows)
  kept_with = record {
    fit = subst (λ (l : Log). AllFit l.facts) now (are.fit were.fit new_to);
    rows_are = subst (λ (l : Log). AreRows (next_change state (Some entry)) l
        (all_changed changes rows)) now
        (rows_installed (next_change state (Some entry)) (length after.facts) after
        (all_changed changes rows) (are.kept rows were.fit new_to were.rows_are));
  }

none_yet : (admin : Digest) → (log_of (opened admin) []).facts ≡ []
unfolding log_of
none_yet admin = refl

pub new_kept_rows : (admin : Digest) → AreKept (new_state admin) []
new_kept_rows admin = record {
  fit = subst AllFit (sym (none_yet admin)) nothing_kept;
  rows_are = no_rows (log (new_state admin)) (none_yet admin);
}

-- the rows that are made of a journal are those of the state that it keeps
pub rows_by : (state : State) (change : ℕ) (journal : Log) (result : Result (List Row) Memory) →
    change ≡ (held state).change → journal ≡ log state →
    IfOk result (λ rows. AreRows change journal rows) →
    IfOk result (λ rows. AllFit journal.facts) → IfOk result (λ rows. AreKept state rows)
rows_by state change journal (Err memory) change_is log_is are fit = tt
rows_by state change journal (Ok rows) change_is log_is are fit = record {
  fit = subst (λ (l : Log). AllFit l.facts) log_is fit;
  rows_are =
      subst (λ (n : ℕ). AreRows n (log state) rows) change_is
      (subst (λ (l : Log). AreRows change l rows) log_is are);
}
