use Rattle.std.proofs.Common.{◌≡◌, ℕ, ◌+◌, Bool, true, false, List, ◌∷◌, refl, sym, ◌∙◌, arith}
use Rattle.std.specs.Prelude.{◌||◌, is_none}
use Rattle.pl_plan.specs.declared.plan.PlanStage.{PlanStage}
use Rattle.pl_torn.specs.Looking.{stage_place}
use Rattle.pl_torn.specs.Plans as spec
use Rattle.pl_torn.specs.Seen.{seen_at}
use Rattle.pl_torn.specs.declared.seen.Seen.{Seen}
use Rattle.pl_torn.proofs.Turns.{hit_place, miss_place, no_place}
use Rattle.pl_torn.proofs.plans.lack_stage.Goals as goal

abbrev test : List Seen → ℕ → ℕ → PlanStage → Bool
test all run n stage =
    is_none (seen_at (stage_place run n) all) || spec.lack_job all run n 0 stage.jobs

either : (a b c : Bool) → (a || (b || c)) ≡ ((a || b) || c)
either true b c = refl
either false b c = refl

more : (all : List Seen) (run n : ℕ) (stage : PlanStage) (rest : List PlanStage) →
    spec.lack_stage all run n (stage ∷ rest) ≡
    (test all run n stage || spec.lack_stage all run (n + 1) rest)
more all run n stage rest = either (is_none (seen_at (stage_place run n) all))
    (spec.lack_job all run n 0 stage.jobs) (spec.lack_stage all run (n + 1) rest)

pub returns-then-branch : goal.returns-then-branch
returns-then-branch c =
    sym (hit_place (spec.lack_stage c.args.all.now c.args.run) (test c.args.all.now c.args.run)
    (λ n. refl) (more c.args.all.now c.args.run) c.args.stages.now c.loop-stage.stage-index
    c.loop-stage.at c.loop-stage.invariant.here c.stage-item.result c.loop-stage-test.true
    c.stage-item.is (sym c.in_ok-lacks_stage.ensures ∙ c.if-branch.true)) ∙
    c.loop-stage.invariant.left

pub loop-stage-preserved : goal.loop-stage-preserved
loop-stage-preserved c = record {
  here = omega (arith, c.in_ok-at.ensures, c.loop-stage.invariant.here);
  left = miss_place (spec.lack_stage c.args.all.now c.args.run) (test c.args.all.now c.args.run)
      (λ n. refl) (more c.args.all.now c.args.run) c.args.stages.now c.loop-stage.stage-index
      c.loop-stage.at c.loop-stage.invariant.here c.stage-item.result c.loop-stage-test.true
      c.stage-item.is (sym c.in_ok-lacks_stage.ensures ∙ c.if-branch.false) ∙
      c.loop-stage.invariant.left;
}

pub returns : goal.returns
returns c =
    sym (no_place (spec.lack_stage c.args.all.now c.args.run) (test c.args.all.now c.args.run)
    (λ n. refl) (more c.args.all.now c.args.run) c.args.stages.now c.loop-stage.stage-index
    c.loop-stage-test.false) ∙ c.loop-stage.invariant.left
