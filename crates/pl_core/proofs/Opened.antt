-- A service that was just opened.
use Rattle.std.proofs.Common.{◌≡◌, ◌≤◌, ◌⊎◌, ℕ, List, [], length, refl, sym, ap, subst, ◌∙◌}
use Rattle.std.proofs.Common.{inl, arith}
use Rattle.std.proofs.lemmas.List.{append-nil}
use Rattle.pl_core.specs.Kept.{AreNumbers, IsKept, opening_of, pending_of}
use Rattle.pl_core.specs.State.{opened_state, State}
use Rattle.pl_history.specs.Below.pl_due.specs.Fit.{AreFit, last_moment}
use Rattle.pl_facts.specs.Sizes.{counted}
use Rattle.pl_facts.specs.declared.entry.Entry.{Entry}
use Rattle.pl_facts.specs.declared.fact.Fact.{Fact}
use Rattle.pl_history.specs.History.{Opening, log_of}
use Rattle.pl_journal.specs.Log.{Log, version}
use Rattle.pl_journal.specs.Log as journal
use Rattle.pl_history.specs.Below.pl_step.specs.Full.{with_facts}
use Rattle.pl_snapshots.specs.Gathering.{IsGathered}
use Rattle.pl_snapshots.specs.declared.gathering.Gathered.{Gathered}
use Rattle.pl_core.proofs.Keeping.{kept_behind, nothing_behind}
use Rattle.pl_core.proofs.Keeping.{opening_behind, pending_behind, state_is}

abbrev pub begun_with : Opening → List Fact → Log
begun_with opening facts = record {
  admin = opening.admin;
  opening = record {
    moment = opening.moment;
    run = opening.run;
    version = opening.version;
    facts = length opening.facts;
  };
  facts = facts;
  installed = length facts;
}

-- the journal of an opening, behind which nothing has happened
pub begun_is : (opening : Opening) → begun_with opening opening.facts ≡ log_of opening []
unfolding log_of
begun_is opening = ap (begun_with opening) (sym (append-nil opening.facts))

facts_are : (opening : Opening) → opening.facts ≡ (log_of opening []).facts
facts_are opening = ap (λ (l : Log). l.facts) (begun_is opening)

module _ (log : Log) (opening : Opening) (entries : List Entry) (is : log ≡ log_of opening [])
    (none : entries ≡ []) where
  behind : log ≡ with_facts (log_of opening []) []
  behind = is ∙ sym (nothing_behind (log_of opening []))

  stays : opening_of opening.change log ≡ opening
  stays = opening_behind log [] [] opening behind

  pub opened_kept : (moment files : ℕ) (Room : Type 0) → AreFit opening.facts →
      opening.moment ≤ last_moment → opening.change ≤ 18446744073709551615 →
      moment ≡ journal.last_moment log → files ≡ counted (version log) →
      IsKept opening.change log entries ×
      AreNumbers (opening_of opening.change log) entries 0 moment files opening.change
      × ((pending_of log ≡ []) ⊎ Room)
  opened_kept moment files Room are_fit within counts moment_is files_is =
      let fit : AreFit log.facts = subst (λ (facts : List Fact). AreFit facts)
      (facts_are opening ∙ ap (λ (l : Log). l.facts) (sym is)) are_fit in
      let as_opened : log ≡ log_of (opening_of opening.change log) [] =
      is ∙ ap (λ (o : Opening). log_of o []) (sym stays) in
      subst (λ (es : List Entry). IsKept opening.change log es ×
      AreNumbers (opening_of opening.change log) es 0 moment files opening.change
      × ((pending_of log ≡ []) ⊎ Room)) (sym none) (
        kept_behind log [] [] opening behind tt fit within,
        record {
          size_is = refl;
          moment_is = moment_is ∙ ap (λ (l : Log). journal.last_moment l) as_opened;
          files_is = files_is ∙ ap (λ (l : Log). counted (version l)) as_opened;
          change_is = omega (arith, counts);
        },
        inl (pending_behind log [] [] opening behind),
      )

  pub opened_gathered : (gathered : Gathered) → IsGathered log.facts gathered →
      IsGathered (log_of (opening_of opening.change log) entries).facts gathered
  opened_gathered gathered gathers =
      subst (λ (es : List Entry). IsGathered (log_of (opening_of opening.change log) es).facts gathered)
      (sym none)
      (subst (λ (o : Opening). IsGathered (log_of o []).facts gathered) (sym stays)
      (subst (λ (l : Log). IsGathered l.facts gathered) is gathers))

  pub opened_is : let seen : State = record {
    opening = opening_of opening.change log;
    entries = entries;
    pending = pending_of log;
  } in
      seen ≡ opened_state opening
  opened_is = state_is (opening_of opening.change log) opening entries [] (pending_of log) [] stays
      none (pending_behind log [] [] opening behind)
