-- What is found in a run stays found while no job of it gets out of time and its checks say the same.
use Rattle.std.proofs.Common.{◌≡◌, ◌≤◌, ◌<◌, ◌↔◌, ℕ, true, false}
use Rattle.std.proofs.Common.{List, Option, Some, None, refl, sym, ◌∙◌, arith, slice_get}
use Rattle.std.specs.List.{All}
use Rattle.std.specs.Option.{IfSome, option_map_or}
use Rattle.pl_due.specs.Below.pl_journal.specs.Runs.{holding}
use Rattle.pl_due.specs.Checked.{all_checks}
use Rattle.pl_due.specs.Contention.{AreThose, Holds, IsEligible}
use Rattle.pl_due.specs.Kinds.{Fails, IsDone, IsPassedOver, JobIsPassedOver, TimesOut}
use Rattle.pl_due.specs.Least.{InStage}
use Rattle.pl_due.specs.Nodes.{IsStageOf, has_had, is_out_of_time, is_waiting}
use Rattle.pl_due.specs.Below.pl_views.specs.CheckViews.{check_view}
use Rattle.pl_facts.specs.declared.fact.Event.{Event}
use Rattle.pl_facts.specs.declared.fact.Fact.{Fact}
use Rattle.pl_facts.specs.declared.fact.QueuedRun.{QueuedRun}
use Rattle.pl_facts.specs.Below.pl_plan.specs.declared.plan.PlanJob.{PlanJob}
use Rattle.pl_facts.specs.Below.pl_plan.specs.declared.plan.PlanStage.{PlanStage}
use Rattle.pl_locks.specs.declared.contender.Contender.{Contender}
use Rattle.pl_run_laws.specs.ByRuns.{FirstIn, kinds}
use Rattle.pl_wakes.proofs.Staying.{says_ahead, says_back}
use Rattle.pl_wakes.specs.Steady.{SaysSame}
use Rattle.pl_looks.specs.declared.types.First.{First}
use Rattle.pl_looks.specs.declared.types.Look.{Look}
use Rattle.pl_looks.specs.declared.types.ReadyJob.{ReadyJob}
use Rattle.pl_looks.specs.declared.types.TakenJob.{TakenJob}
use Rattle.pl_looks.specs.Jobs.{ready_jobs, taken_jobs}
use Rattle.pl_looks.specs.Looks.{IsLook, OfRun, Stands, found_of}
use Rattle.pl_looks.specs.Quiet.{IsQuiet, StaysUntil}
use Rattle.pl_looks.proofs.Moved.{AllSameIn, SameIn, StillThose, first_moved, those_moved}

-- what has had its minutes has had them later too
had_later : (minutes taken moment later : ℕ) → moment ≤ later →
    has_had minutes taken moment ≡ true → has_had minutes taken later ≡ true
had_later minutes taken moment later behind had = grind arith

module _ (facts : List Fact) (moment later run : ℕ) (behind : moment ≤ later)
    (quiet : IsQuiet facts moment run later) where
  over_later : (one : PlanStage) (stage job : ℕ) →
      is_out_of_time moment one run stage job facts ≡ true →
      is_out_of_time later one run stage job facts ≡ true
  over_later one stage job = go (slice_get one.jobs job) (holding run stage job facts)
    where
      go : (planned : Option PlanJob) (fact : Option Fact) →
          option_map_or (λ (p : PlanJob). option_map_or
          (λ (f : Fact). has_had p.timeout f.moment moment) fact false) planned false ≡ true →
          option_map_or (λ (p : PlanJob). option_map_or
          (λ (f : Fact). has_had p.timeout f.moment later) fact false) planned false ≡ true
      go None fact over = over
      go (Some planned) None over = over
      go (Some planned) (Some fact) over =
          had_later planned.timeout fact.moment moment later behind over

  -- ---- kinds

  alike : (kind other : InStage) → ((told : QueuedRun) (one : PlanStage) (stage job : ℕ)
      (event : Event) → IsStageOf facts run stage told one →
      (kind told one run stage job event ↔ other told one run stage job event)) →
      SameIn facts facts run kind other
  alike kind other each stage job event = (
    λ (told, one, there, k). (told, one, there, (each told one stage job event there).0 k),
    λ (told, one, there, k). (told, one, there, (each told one stage job event there).1 k),
  )

  itself : (kind : InStage) → SameIn facts facts run kind kind
  itself kind = alike kind kind (λ told one stage job event there. (λ k. k, λ k. k))

  times_out : SameIn facts facts run (TimesOut facts moment) (TimesOut facts later)
  times_out = alike (TimesOut facts moment) (TimesOut facts later)
      (λ told one stage job event there. (
        λ k. record { runs = k.runs; over = over_later one stage job k.over; gets = k.gets },
        λ k. record {
          runs = k.runs;
          over = (quiet told one stage there).jobs k.runs job k.over;
          gets = k.gets;
        },
      ))

  module _ (told : QueuedRun) (one : PlanStage) (stage : ℕ)
      (there : IsStageOf facts run stage told one) where
    say : (waits : is_waiting one run stage facts ≡ true) →
        All (λ check. SaysSame check (check_view told one run stage facts) moment later)
        (all_checks facts one.uses)
    say waits = (quiet told one stage there).checks waits

    fails_ahead : (job : ℕ) (event : Event) → Fails facts moment told one run stage job event →
        Fails facts later told one run stage job event
    fails_ahead job event k =
        let then = says_ahead (all_checks facts one.uses) (check_view told one run stage facts)
        moment later (say k.waits) k.verdicts k.are in
        record {
          itself = k.itself;
          waits = k.waits;
          verdicts = then.0;
          are = then.1;
          rule = k.rule;
          first = sym then.2 ∙ k.first;
          gets = k.gets;
        }

    fails_back : (job : ℕ) (event : Event) → Fails facts later told one run stage job event →
        Fails facts moment told one run stage job event
    fails_back job event k =
        let then = says_back (all_checks facts one.uses) (check_view told one run stage facts)
        moment later (say k.waits) k.verdicts k.are in
        record {
          itself = k.itself;
          waits = k.waits;
          verdicts = then.0;
          are = then.1;
          rule = k.rule;
          first = sym then.2 ∙ k.first;
          gets = k.gets;
        }

    eligible_ahead : IsEligible facts moment told one run stage →
        IsEligible facts later told one run stage
    eligible_ahead k =
        let then = says_ahead (all_checks facts one.uses) (check_view told one run stage facts)
        moment later (say k.waits) k.verdicts k.are in
        record {
          waits = k.waits;
          says = k.says;
          permitted = k.permitted;
          verdicts = then.0;
          are = then.1;
          pass = sym then.3 ∙ k.pass;
        }

    eligible_back : IsEligible facts later told one run stage →
        IsEligible facts moment told one run stage
    eligible_back k =
        let then = says_back (all_checks facts one.uses) (check_view told one run stage facts)
        moment later (say k.waits) k.verdicts k.are in
        record {
          waits = k.waits;
          says = k.says;
          permitted = k.permitted;
          verdicts = then.0;
          are = then.1;
          pass = sym then.3 ∙ k.pass;
        }

  all_alike : AllSameIn facts facts run (kinds facts moment) (kinds facts later)
  all_alike = (
    times_out,
    (
      itself (JobIsPassedOver facts),
      (
        itself (IsDone facts),
        (
          itself (IsPassedOver facts),
          (
            alike (Fails facts moment) (Fails facts later) (λ told one stage job event there.
                (fails_ahead told one stage there job event, fails_back told one stage there job event)),
            tt,
          ),
        ),
      ),
    ),
  )

  still_eligible : StillThose facts facts run (IsEligible facts moment) (IsEligible facts later)
  still_eligible = record {
    ahead = λ told one stage there k. (there, eligible_ahead told one stage there k, refl);
    back = λ told one stage there k. (there, eligible_back told one stage there k);
  }

  pub still_stands : (look : Look) → Stands facts moment run look → Stands facts later run look
  still_stands look is = record {
    first = first_moved facts facts run 0 (kinds facts moment) (kinds facts later) _ all_alike
        is.first;
    eligible = λ none. those_moved facts facts run (IsEligible facts moment)
        (IsEligible facts later) still_eligible look.eligible (is.eligible none);
    holders = is.holders;
    ready = is.ready;
    taken = is.taken;
  }

-- what is found, and until when it stays
pub looked : (facts : List Fact) (moment run : ℕ) (first : Option First)
    (eligible holders : List Contender) (ready : List ReadyJob) (taken : List TakenJob)
    (wakes : Option ℕ) → FirstIn facts 0 (kinds facts moment) run (found_of first) →
    (first ≡ None → AreThose facts (OfRun run (IsEligible facts moment)) eligible) →
    AreThose facts (OfRun run (Holds facts)) holders → ready ≡ ready_jobs run facts →
    taken ≡ taken_jobs run facts → IfSome wakes (λ at. moment < at) →
    StaysUntil (IsQuiet facts moment run) moment wakes →
    IsLook facts moment run (record {
      first = first;
      eligible = eligible;
      holders = holders;
      ready = ready;
      taken = taken;
      wakes = wakes;
    })
looked facts moment run first eligible holders ready taken wakes is may hold waits has later quiet =
    let look : Look = record {
      first = first;
      eligible = eligible;
      holders = holders;
      ready = ready;
      taken = taken;
      wakes = wakes;
    } in
    let stands : Stands facts moment run (record {
      first = first;
      eligible = eligible;
      holders = holders;
      ready = ready;
      taken = taken;
      wakes = wakes;
    }) =
    record { first = is; eligible = may; holders = hold; ready = waits; taken = has } in
    record {
      now = stands;
      wakes = later;
      until = λ at behind before.
          still_stands facts moment at run behind (quiet at behind before) look stands;
    }
