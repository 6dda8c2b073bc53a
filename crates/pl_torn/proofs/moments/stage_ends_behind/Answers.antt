use Rattle.std.proofs.Common.{ℕ, Bool, List, refl, sym, ◌∙◌, arith}
use Rattle.std.specs.List.{list_any}
use Rattle.std.specs.Prelude.{◌&&◌, nat_eq, nat_lt}
use Rattle.pl_keeper.specs.declared.records.KeptStage.{KeptStage}
use Rattle.pl_plan.specs.declared.plan.PlanStage.{PlanStage}
use Rattle.pl_torn.specs.Moments as spec
use Rattle.pl_torn.specs.declared.seen.Seen.{Seen}
use Rattle.pl_torn.proofs.Turns.{hit_place, miss_place, no_place}
use Rattle.pl_torn.proofs.moments.stage_ends_behind.Goals as goal

abbrev test : List Seen → KeptStage → ℕ → PlanStage → Bool
test all told n other = nat_lt n told.position && (list_any (nat_eq told.position) other.depends &&
    spec.starts_early (spec.started_at all told.run n) (spec.stage_ended told))

pub returns-then-branch : goal.returns-then-branch
returns-then-branch c =
    sym (hit_place (spec.stage_ends_behind c.args.all.now c.args.told.now)
    (test c.args.all.now c.args.told.now) (λ n. refl) (λ n x rest. refl)
    c.args.stages.now c.loop-other.other-index c.loop-other.at c.loop-other.invariant.here
    c.other-item.result c.loop-other-test.true c.other-item.is
    (sym c.in_ok-other_stage_is_early.ensures ∙ c.if-branch.true)) ∙ c.loop-other.invariant.left

pub loop-other-preserved : goal.loop-other-preserved
loop-other-preserved c = record {
  here = omega (arith, c.in_ok-at.ensures, c.loop-other.invariant.here);
  left = miss_place (spec.stage_ends_behind c.args.all.now c.args.told.now)
      (test c.args.all.now c.args.told.now) (λ n. refl) (λ n x rest. refl)
      c.args.stages.now c.loop-other.other-index c.loop-other.at c.loop-other.invariant.here
      c.other-item.result c.loop-other-test.true c.other-item.is
      (sym c.in_ok-other_stage_is_early.ensures ∙ c.if-branch.false) ∙ c.loop-other.invariant.left;
}

pub returns : goal.returns
returns c =
    sym (no_place (spec.stage_ends_behind c.args.all.now c.args.told.now)
    (test c.args.all.now c.args.told.now) (λ n. refl) (λ n x rest. refl)
    c.args.stages.now c.loop-other.other-index c.loop-other-test.false) ∙ c.loop-other.invariant.left
