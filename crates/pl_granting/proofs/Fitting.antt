-- What is known of the plans of queued runs, and of places in them.
use Rattle.std.proofs.Common.{◌≡◌, ◌<◌, ◌^◌, ◌&&◌, ℕ, List, [], ◌∷◌, Option, Some, None, IfSome}
use Rattle.std.proofs.Common.{length, subst, arith}
use Rattle.std.proofs.lemmas.List.Quantifiers.{position-Some}
use Rattle.pl_base.specs.Texts.{is}
use Rattle.pl_facts.specs.declared.fact.Fact.{Fact}
use Rattle.pl_facts.specs.declared.fact.QueuedRun.{QueuedRun}
use Rattle.pl_journal.specs.About.{is_about}
use Rattle.pl_journal.specs.Kinds.{is_queueing}
use Rattle.pl_journal.specs.Runs.{queueing, run_told}
use Rattle.pl_journal.specs.Settings.{by}
use Rattle.pl_log.specs.Keys.{Run}
use Rattle.pl_plan.specs.declared.plan.PlanStage.{PlanStage}
use Rattle.pl_due.specs.Below.pl_results.specs.Nodes.{CanRun}
use Rattle.pl_due.specs.Fit.{AreFit, CanRunIf, IsFit}
use Rattle.pl_granting.specs.Named.{stage_named}
use Rattle.pl_views.proofs.Moments.{latest_holds}

pub can_run : (facts : List Fact) (run : ℕ) (queued : QueuedRun) → AreFit facts →
    by run_told (queueing run facts) ≡ Some queued → CanRun queued.compiled.plan
can_run facts run queued fit told_so = go (queueing run facts)
    (latest_holds IsFit (λ fact. is_about (Run run) fact && is_queueing fact.event) facts fit)
    told_so
  where
    go : (o : Option Fact) → IfSome o IsFit → by run_told o ≡ Some queued →
        CanRun queued.compiled.plan
    go None none told = absurd (cc)
    go (Some fact) fits told = subst CanRunIf told fits.plan

pub small_place : (name : List ℕ) (stages : List PlanStage) (stage : ℕ) →
    length stages < 2 ^ 32 → stage_named name stages ≡ Some stage → stage < 2 ^ 32
small_place name [] stage few told = absurd (cc)
small_place name (first ∷ stages) stage few told =
    let (within, passes, before) = position-Some (λ (one : PlanStage). is one.name name)
    (first ∷ stages) stage first told in
    omega (arith, within, few)
