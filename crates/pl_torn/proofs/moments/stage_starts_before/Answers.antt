use Rattle.std.proofs.Common.{ℕ, Bool, List, get_or, refl, sym, ◌∙◌}
use Rattle.std.specs.Prelude.{◌&&◌, nat_lt}
use Rattle.pl_keeper.specs.declared.records.KeptStage.{KeptStage}
use Rattle.pl_torn.specs.Moments as spec
use Rattle.pl_torn.specs.declared.seen.Seen.{Seen}
use Rattle.pl_torn.proofs.Turns.{hit, miss, none}
use Rattle.pl_torn.proofs.moments.stage_starts_before.Goals as goal

abbrev test : List Seen → KeptStage → ℕ → Bool
test all told other = nat_lt other told.position &&
    spec.starts_early told.started (spec.stage_ended_at all told.run other)

pub returns-then-branch : goal.returns-then-branch
returns-then-branch c =
    sym (hit (test c.args.all.now c.args.told.now) c.args.depends.now c.loop-other.other-index
    (get_or c.args.depends.now c.loop-other.other-index 0) 0 c.loop-other-test.true refl
    (sym c.in_ok-stage_is_early.ensures ∙ c.if-branch.true)) ∙ c.loop-other.invariant

pub loop-other-preserved : goal.loop-other-preserved
loop-other-preserved c =
    miss (test c.args.all.now c.args.told.now) c.args.depends.now c.loop-other.other-index
    (get_or c.args.depends.now c.loop-other.other-index 0) 0 c.loop-other-test.true refl
    (sym c.in_ok-stage_is_early.ensures ∙ c.if-branch.false) ∙ c.loop-other.invariant

pub returns : goal.returns
returns c =
    sym (none (test c.args.all.now c.args.told.now) c.args.depends.now c.loop-other.other-index
    c.loop-other-test.false) ∙ c.loop-other.invariant
