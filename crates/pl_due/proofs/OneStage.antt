-- A run and a place name one stage.
use Rattle.std.proofs.Common.{◌≡◌, ℕ, List, Some, None, sym, ap, ◌∙◌}
use Rattle.std.proofs.Common.{subst}
use Rattle.std.specs.Prelude.{slice_get}
use Rattle.pl_facts.specs.declared.fact.Fact.{Fact}
use Rattle.pl_facts.specs.declared.fact.QueuedRun.{QueuedRun}
use Rattle.pl_journal.specs.Runs.{queueing, run_told}
use Rattle.pl_journal.specs.Settings.{by}
use Rattle.pl_plan.specs.declared.plan.PlanStage.{PlanStage}
use Rattle.pl_due.specs.Nodes.{IsStageOf}

module _ (facts : List Fact) (run stage : ℕ) (t told : QueuedRun) (o one : PlanStage) where
  pub one_told : IsStageOf facts run stage t o → IsStageOf facts run stage told one → t ≡ told
  one_told a b = let e : Some t ≡ Some told = sym a.queued ∙ b.queued in cc

  pub one_planned : IsStageOf facts run stage t o → IsStageOf facts run stage told one → o ≡ one
  one_planned a b =
      let e : Some o ≡ Some one = sym a.planned ∙ ap (λ (x : QueuedRun).
      slice_get x.compiled.plan.stages stage) (one_told a b) ∙ b.planned in cc

  -- what holds of it holds of it by whatever it is told
  pub moved : (P : QueuedRun → PlanStage → Type 0) → IsStageOf facts run stage t o →
      IsStageOf facts run stage told one → P t o → P told one
  moved P a b k = subst (λ x. P told x) (one_planned a b) (subst (λ x. P x o) (one_told a b) k)

-- no run was queued so, or its plan has no such stage
pub no_run : (facts : List Fact) (run stage : ℕ) → by run_told (queueing run facts) ≡ None →
    (told : QueuedRun) (one : PlanStage) → IsStageOf facts run stage told one → ⊥
no_run facts run stage none told one there =
    let e : None ≡ Some told = sym none ∙ there.queued in absurd (cc)

pub no_stage : (facts : List Fact) (run stage : ℕ) (t : QueuedRun) →
    by run_told (queueing run facts) ≡ Some t → slice_get t.compiled.plan.stages stage ≡ None →
    (told : QueuedRun) (one : PlanStage) → IsStageOf facts run stage told one → ⊥
no_stage facts run stage t queued none told one there =
    let e : Some t ≡ Some told = sym queued ∙ there.queued in
    let same : t ≡ told = cc in
    let f : None ≡ Some one = sym none
    ∙ ap (λ (x : QueuedRun). slice_get x.compiled.plan.stages stage) same ∙ there.planned in
    absurd (cc)
