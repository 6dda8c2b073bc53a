-- What is known of a stage that is there, where the facts are fit.
use Rattle.std.proofs.Common.{◌≡◌, ◌<◌, ◌≤◌, ◌^◌, ◌⊎◌, ℕ, Bool, true, false, List, [], ◌∷◌, length}
use Rattle.std.proofs.Common.{◌&&◌, Option, Some, None, if◌then◌else◌, refl, ap, subst}
use Rattle.std.proofs.Common.{inl, inr, ⊎_elim}
use Rattle.std.specs.List.{All}
use Rattle.std.specs.Option.{option_map_or, option_or}
use Rattle.std.proofs.lemmas.List.Elements.{All-head, All-tail}
use Rattle.std.proofs.lemmas.Option.{get_or_from_slice_get, slice_get_within}
use Rattle.pl_facts.specs.declared.fact.Fact.{Fact}
use Rattle.pl_facts.specs.declared.fact.QueuedRun.{QueuedRun}
use Rattle.pl_journal.specs.About.{is_about}
use Rattle.pl_journal.specs.Kinds.{is_queueing}
use Rattle.pl_journal.specs.Runs.{queueing, run_told}
use Rattle.pl_journal.specs.Settings.{by}
use Rattle.pl_log.specs.Keys.{Run}
use Rattle.pl_log.specs.Latest.{latest}
use Rattle.pl_plan.specs.declared.plan.PlanStage.{PlanStage}
use Rattle.pl_results.specs.Nodes.{CanRun, jobs_of}
use Rattle.pl_due.specs.declared.stage_at.StageAt.{StageAt}
use Rattle.pl_due.specs.Asked.{IsAsked, facts_of}
use Rattle.pl_due.specs.Fit.{AreFit, CanRunIf, IsFit, last_moment}
use Rattle.pl_due.specs.Nodes.{IsStageOf}

-- ---- what holds of all facts holds of the latest

or_cases : {X : Type 0} (o : Option X) (b : Bool) (y x : X) →
    option_or o (if b then Some y else None) ≡ Some x → (o ≡ Some x) ⊎ (Some y ≡ Some x)
or_cases (Some z) b y x is = inl is
or_cases None true y x is = inr is
or_cases None false y x is = absurd (cc)

holds_of_latest : {X : Type 0} (P : X → Type 0) (test : X → Bool) (xs : List X) → All P xs →
    (x : X) → latest test xs ≡ Some x → P x
holds_of_latest P test [] all x is = absurd (cc)
holds_of_latest P test (y ∷ ys) all x is =
    ⊎_elim (λ later. holds_of_latest P test ys (All-tail P y ys all) x later)
    (λ here. let e : y ≡ x = cc in subst P e (All-head P y ys all))
    (or_cases (latest test ys) (test y) y x is)

-- ---- moments

pub moments_within : (facts : List Fact) → AreFit facts →
    All (λ fact. fact.moment ≤ last_moment) facts
moments_within facts fit = λ k d below. (fit k d below).moment

-- ---- plans

told_runs : (facts : List Fact) (run : ℕ) (told : QueuedRun) → AreFit facts →
    by run_told (queueing run facts) ≡ Some told → CanRun told.compiled.plan
told_runs facts run told fit = go (queueing run facts)
    (holds_of_latest IsFit (λ fact. is_about (Run run) fact && is_queueing fact.event) facts fit)
  where
    go : (o : Option Fact) → ((fact : Fact) → o ≡ Some fact → IsFit fact) →
        by run_told o ≡ Some told → CanRun told.compiled.plan
    go None each is = absurd (cc)
    go (Some fact) each is = subst CanRunIf is (each fact refl).plan

module _ (facts : List Fact) (run stage : ℕ) (told : QueuedRun) (one : PlanStage)
    (fit : AreFit facts) (there : IsStageOf facts run stage told one) where
  pub runs : CanRun told.compiled.plan
  runs = told_runs facts run told fit there.queued

  pub within : stage < length told.compiled.plan.stages
  within = slice_get_within told.compiled.plan.stages stage one there.planned

  pub few_jobs : length one.jobs < 2 ^ 32
  few_jobs =
      let is = get_or_from_slice_get told.compiled.plan.stages stage one one there.planned in
      subst (λ (o : PlanStage). length o.jobs < 2 ^ 32) is (runs.jobs stage one within)

  pub jobs_are : jobs_of told.compiled.plan stage ≡ one.jobs
  jobs_are = ap (λ (o : Option PlanStage). option_map_or (λ (x : PlanStage). x.jobs) o [])
      there.planned

pub few_stages : (facts : List Fact) (run : ℕ) (told : QueuedRun) → AreFit facts →
    by run_told (queueing run facts) ≡ Some told → length told.compiled.plan.stages < 2 ^ 32
few_stages facts run told fit is = (told_runs facts run told fit is).stages

-- ---- of a stage that is asked about

module _ (at : StageAt) (asked : IsAsked at) where
  pub asked_runs : CanRun at.queued.now.compiled.plan
  asked_runs = told_runs (facts_of at) at.run at.queued.now asked.fit asked.there.queued

  pub asked_within : at.stage < length at.queued.now.compiled.plan.stages
  asked_within = within (facts_of at) at.run at.stage at.queued.now at.planned.now asked.fit
      asked.there

  pub asked_jobs : jobs_of at.queued.now.compiled.plan at.stage ≡ at.planned.now.jobs
  asked_jobs = jobs_are (facts_of at) at.run at.stage at.queued.now at.planned.now asked.fit
      asked.there

  pub few_jobs_at : length at.planned.now.jobs < 2 ^ 32
  few_jobs_at = few_jobs (facts_of at) at.run at.stage at.queued.now at.planned.now asked.fit
      asked.there
