-- Nothing is found in a run that isn't open.
use Rattle.std.proofs.Common.{◌≡◌, ℕ, Bool, true, false, List, [], ◌∷◌, Option, Some, None, refl}
use Rattle.std.proofs.Common.{sym, ap, subst, ◌∙◌, arith, map, filter, flat_map, length, inr, is_none}
use Rattle.std.specs.List.{Contains, range_with_len}
use Rattle.std.specs.Option.{option_map_or}
use Rattle.std.proofs.lemmas.Bool.{false≢true}
use Rattle.std.proofs.lemmas.List.Folds.{list_any-from_Any}
use Rattle.pl_due.proofs.Members.{here, there}
use Rattle.pl_due.proofs.Opened.{open_run}
use Rattle.pl_due.proofs.Standing.{running_open, waiting_open}
use Rattle.pl_due.specs.Contention.{AreThose, Holds, InRun, IsEligible}
use Rattle.pl_due.specs.Nodes.{IsStageOf, is_running, is_waiting}
use Rattle.pl_due.specs.Below.pl_journal.specs.Runs.{queueing, run_told, stage_end}
use Rattle.pl_due.specs.Below.pl_journal.specs.Settings.{by}
use Rattle.pl_due.specs.Below.pl_open_runs.specs.Open.{has_open_stage, is_open}
use Rattle.pl_due.specs.Open.{at_place, of_run, runs}
use Rattle.pl_facts.specs.declared.fact.Fact.{Fact}
use Rattle.pl_facts.specs.declared.fact.QueuedRun.{QueuedRun}
use Rattle.pl_facts.specs.Below.pl_plan.specs.declared.plan.PlanStage.{PlanStage}
use Rattle.pl_run_laws.specs.ByRuns.{FirstIn, kinds}
use Rattle.pl_looks.specs.Jobs.{Telling, of_place, ready_job, taken_job, told_jobs}
use Rattle.pl_looks.specs.Laws.{nothing}
use Rattle.pl_looks.specs.Looks.{IsLook, OfRun, Stands}

none_kept : {X : Type 0} (p : X → Bool) (xs : List X) →
    ((x : X) → Contains xs x → p x ≡ false) → filter p xs ≡ []
none_kept p [] each = refl
none_kept p (x ∷ xs) each =
    rw (each x (here x xs)) (none_kept p xs (λ y among. each y (there y x xs among)))

module _ (facts : List Fact) (run : ℕ) (closed : is_open run facts ≡ false) where
  -- ---- no stage of it runs or waits

  all_ended : (told : QueuedRun) (one : PlanStage) (stage : ℕ) →
      IsStageOf facts run stage told one → stage_end run stage facts ≡ None → ⊥
  all_ended told one stage there unended =
      false≢true (sym closed ∙ open_run facts told one run stage there unended)

  none_runs : (told : QueuedRun) (one : PlanStage) (stage : ℕ) →
      IsStageOf facts run stage told one → is_running run stage facts ≡ true → ⊥
  none_runs told one stage there is =
      all_ended told one stage there (running_open run stage facts is)

  none_waits : (told : QueuedRun) (one : PlanStage) (stage : ℕ) →
      IsStageOf facts run stage told one → is_waiting one run stage facts ≡ true → ⊥
  none_waits told one stage there is =
      all_ended told one stage there (waiting_open one run stage facts is)

  no_places : of_run facts (runs facts) run ≡ []
  no_places = go (by run_told (queueing run facts)) closed
    where
      go : (queued : Option QueuedRun) → option_map_or (λ (told : QueuedRun).
          has_open_stage run (length told.compiled.plan.stages) facts) queued false ≡ false →
          option_map_or (λ (told : QueuedRun). map (at_place run)
          (filter (λ stage. is_running run stage facts)
          (range_with_len 0 (length told.compiled.plan.stages)))) queued [] ≡ []
      go None shut = refl
      go (Some told) shut = ap (map (at_place run)) (none_kept
          (λ stage. is_running run stage facts)
          (range_with_len 0 (length told.compiled.plan.stages)) stopped)
        where
          stopped : (stage : ℕ) →
              Contains (range_with_len 0 (length told.compiled.plan.stages)) stage →
              is_running run stage facts ≡ false
          stopped stage (k, below, is) = by_cases (is_running run stage facts) refl
            where
              by_cases : (b : Bool) → is_running run stage facts ≡ b → b ≡ false
              by_cases false same = refl
              by_cases true same =
                  let unended : is_none (stage_end run stage facts) ≡ true =
                  ap is_none (running_open run stage facts same) in
                  absurd (false≢true (sym shut
                  ∙ list_any-from_Any (λ s. is_none (stage_end run s facts))
                  (range_with_len 0 (length told.compiled.plan.stages))
                  (k, stage, below, is, unended)))

  no_jobs : {X : Type 0} (telling : Telling X) → told_jobs telling run facts ≡ []
  no_jobs telling =
      ap (λ places. flat_map (λ at. of_place telling facts run at.stage) places) no_places

  no_stages : (P : InRun) → ((told : QueuedRun) (one : PlanStage) (stage : ℕ) →
      IsStageOf facts run stage told one → P told one run stage → ⊥) →
      AreThose facts (OfRun run P) []
  no_stages P none = record {
    ordered = λ i j d less within. absurd (omega arith);
    only = λ k d within. absurd (omega arith);
    all = λ told one r stage there holds. absurd (none told one stage
        (subst (λ x. IsStageOf facts x stage told one) holds.0 there)
        (subst (λ x. P told one x stage) holds.0 holds.1));
  }

  module _ (moment : ℕ) where
    nothing_first : FirstIn facts 0 (kinds facts moment) run None
    nothing_first =
        inr (
          λ stage job event (told, one, there, k). none_runs told one stage there k.runs,
          inr (
            λ stage job event (told, one, there, k). none_runs told one stage there k.runs,
            inr (
              λ stage job event (told, one, there, k). none_runs told one stage there k.runs,
              inr (
                λ stage job event (told, one, there, k). none_waits told one stage there k.waits,
                inr (
                  λ stage job event (told, one, there, k). none_waits told one stage there k.waits,
                  refl,
                ),
              ),
            ),
          ),
        )

    stands_closed : Stands facts moment run nothing
    stands_closed = record {
      first = nothing_first;
      eligible = λ none. no_stages (IsEligible facts moment)
          (λ told one stage there is. none_waits told one stage there is.waits);
      holders = no_stages (Holds facts) none_runs;
      ready = sym (no_jobs ready_job);
      taken = sym (no_jobs taken_job);
    }

  pub closed_look : (moment : ℕ) → IsLook facts moment run nothing
  closed_look moment = record {
    now = stands_closed moment;
    wakes = tt;
    until = λ later behind before. stands_closed later;
  }
