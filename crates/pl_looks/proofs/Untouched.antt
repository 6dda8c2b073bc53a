-- What is found in a run stays found behind facts that leave it as it was.
use Rattle.std.proofs.Common.{◌≡◌, ◌↔◌, ℕ, List, [], Some, None, sym, map, filter, length}
use Rattle.std.proofs.Common.{flat_map, slice_get, ◌∙◌}
use Rattle.std.specs.Prelude.{if◌then◌else◌}
use Rattle.std.specs.List.{filter_map, range_with_len}
use Rattle.std.specs.Option.{option_and_then, option_map, option_map_or}
use Rattle.pl_due.specs.Contention.{Holds, InRun, IsEligible}
use Rattle.pl_due.specs.Kinds.{Fails, IsDone, IsPassedOver, JobIsPassedOver, TimesOut}
use Rattle.pl_due.specs.Least.{InStage}
use Rattle.pl_due.specs.Nodes.{IsStageOf}
use Rattle.pl_due.specs.Open.{at_place, of_run, runs}
use Rattle.pl_due.specs.Below.pl_journal.specs.Runs.{run_told, taker_told}
use Rattle.pl_due.specs.Below.pl_journal.specs.Settings.{by}
use Rattle.pl_facts.specs.declared.fact.Event.{Event}
use Rattle.pl_facts.specs.declared.fact.Fact.{Fact}
use Rattle.pl_facts.specs.declared.fact.QueuedRun.{QueuedRun}
use Rattle.pl_facts.specs.Below.pl_plan.specs.declared.plan.PlanStage.{PlanStage}
use Rattle.pl_run_laws.proofs.Due.{same_but, same_checked}
use Rattle.pl_run_laws.proofs.Same.{awaits_is, holding_is, running_is}
use Rattle.pl_run_laws.specs.ByRuns.{kinds}
use Rattle.pl_run_laws.specs.Kinds.{IsSameBut, IsSameChecked}
use Rattle.pl_run_laws.specs.Runs.{IsSameRun}
use Rattle.pl_looks.specs.declared.types.Look.{Look}
use Rattle.pl_looks.specs.Jobs.{Telling, ready_job, ready_jobs, taken_job, taken_jobs}
use Rattle.pl_looks.specs.Jobs.{told_jobs}
use Rattle.pl_looks.specs.Laws.{SameUsesOf}
use Rattle.pl_looks.specs.Looks.{IsLook, Stands}
use Rattle.pl_looks.proofs.Moved.{AllSameIn, SameIn, StillThose, first_moved, those_moved}

module _ (run : ℕ) (old new : List Fact) (same : IsSameRun run old new)
    (alike : SameUsesOf run old new) where
  but : IsSameBut run old new
  but = same_but run old new same

  checked : IsSameChecked run old new
  checked = same_checked run old new same

  -- ---- kinds

  same_in : (kind other : InStage) → ((told : QueuedRun) (one : PlanStage) (stage job : ℕ)
      (event : Event) → IsStageOf old run stage told one →
      (kind told one run stage job event ↔ other told one run stage job event)) →
      SameIn old new run kind other
  same_in kind other each stage job event = (
    λ (told, one, there, k). (
      told,
      one,
      (but.stages stage told one).0 there,
      (each told one stage job event there).0 k,
    ),
    λ (told, one, there, k). let here = (but.stages stage told one).1 there in
        (told, one, here, (each told one stage job event here).1 k),
  )

  all_same : (moment : ℕ) → AllSameIn old new run (kinds old moment) (kinds new moment)
  all_same moment = (
    same_in (TimesOut old moment) (TimesOut new moment)
        (λ told one stage job event there. but.timeouts moment told one stage job event),
    (
      same_in (JobIsPassedOver old) (JobIsPassedOver new)
          (λ told one stage job event there. but.jobs told one stage job event),
      (
        same_in (IsDone old) (IsDone new)
            (λ told one stage job event there. but.done told one stage job event),
        (
          same_in (IsPassedOver old) (IsPassedOver new)
              (λ told one stage job event there. but.conditions told one stage job event),
          (
            same_in (Fails old moment) (Fails new moment)
                (λ told one stage job event there. checked.fails moment told one stage job event
                (alike told one stage there)),
            tt,
          ),
        ),
      ),
    ),
  )

  -- ---- contenders

  still : (P Q : InRun) → ((told : QueuedRun) (one : PlanStage) (stage : ℕ) →
      IsStageOf old run stage told one → (P told one run stage ↔ Q told one run stage)) →
      StillThose old new run P Q
  still P Q each = record {
    ahead = λ told one stage there holds. (
      (but.stages stage told one).0 there,
      (each told one stage there).0 holds,
      checked.contender told one stage (alike told one stage there),
    );
    back = λ told one stage there holds. let here = (but.stages stage told one).1 there in
        (here, (each told one stage here).1 holds);
  }

  still_eligible : (moment : ℕ) →
      StillThose old new run (IsEligible old moment) (IsEligible new moment)
  still_eligible moment = still (IsEligible old moment) (IsEligible new moment)
      (λ told one stage there. checked.eligible moment told one stage
      (alike told one stage there))

  still_holds : StillThose old new run (Holds old) (Holds new)
  still_holds = still (Holds old) (Holds new) (λ told one stage there. but.runs told one stage)

  -- ---- jobs

  places_are : of_run new (runs new) run ≡ of_run old (runs old) run
  places_are = λ i. option_map_or (λ (told : QueuedRun). map (at_place run)
      (filter (λ stage. running_is run old new same stage i)
      (range_with_len 0 (length told.compiled.plan.stages)))) (by run_told (same.queued i)) []

  told_are : {X : Type 0} (telling : Telling X) → ((one : PlanStage) (stage job : ℕ) →
      telling new one run stage job ≡ telling old one run stage job) →
      told_jobs telling run new ≡ told_jobs telling run old
  told_are telling each = λ i. flat_map (λ at. option_map_or (λ (told : QueuedRun). option_map_or
      (λ (one : PlanStage). filter_map (λ job. each one at.stage job i)
      (range_with_len 0 (length one.jobs))) (slice_get told.compiled.plan.stages at.stage) [])
      (by run_told (same.queued i)) []) (places_are i)

  ready_are : ready_jobs run new ≡ ready_jobs run old
  ready_are = told_are ready_job (λ one stage job. λ i. option_and_then
      (λ planned. if awaits_is run old new same one stage job i
      then Some (record { pool = planned.pool; stage = stage; job = job }) else None)
      (slice_get one.jobs job))

  taken_are : taken_jobs run new ≡ taken_jobs run old
  taken_are = told_are taken_job (λ one stage job. λ i. option_map
      (λ agent. record { agent = agent; stage = stage; job = job })
      (by taker_told (holding_is run old new same stage job i)))

  -- ---- all

  stands : (moment : ℕ) (look : Look) → Stands old moment run look → Stands new moment run look
  stands moment look is = record {
    first = first_moved old new run 0 (kinds old moment) (kinds new moment) _ (all_same moment)
        is.first;
    eligible = λ none. those_moved old new run (IsEligible old moment) (IsEligible new moment)
        (still_eligible moment) look.eligible (is.eligible none);
    holders = those_moved old new run (Holds old) (Holds new) still_holds look.holders is.holders;
    ready = is.ready ∙ sym ready_are;
    taken = is.taken ∙ sym taken_are;
  }

  pub untouched : (moment : ℕ) (look : Look) → IsLook old moment run look →
      IsLook new moment run look
  untouched moment look is = record {
    now = stands moment look is.now;
    wakes = is.wakes;
    until = λ later behind before. stands later look (is.until later behind before);
  }
