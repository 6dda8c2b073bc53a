use Rattle.std.proofs.Common.{is_some, sym, ap, ◌∙◌}
use Rattle.std.specs.Option.{option_copied}
use Rattle.pl_journal.specs.Runs.{stage_end}
use Rattle.pl_open_runs.proofs.Looking.{copied_some, none_by, none_more, one_open}
use Rattle.pl_open_runs.proofs.openness.has_open_stage.Goals as goal

pub returns-then-is_none : goal.returns-then-is_none
returns-then-is_none c = sym (one_open c.args.run c.loop-stage.stage c.args.stages
    c.args.journal.now.facts c.loop-stage-test.true
    (none_by (is_some c.stage_end.result)
    (stage_end c.args.run c.loop-stage.stage c.args.journal.now.facts) c.is_none.result
    (sym (ap is_some c.stage_end.ensures) ∙ copied_some c.stage_end.result) c.is_none.ensures
    ∙ c.if-is_none.true))

pub loop-stage-preserved : goal.loop-stage-preserved
loop-stage-preserved c = none_more c.args.run c.loop-stage.stage c.args.journal.now.facts
    c.loop-stage.invariant
    (none_by (is_some c.stage_end.result)
    (stage_end c.args.run c.loop-stage.stage c.args.journal.now.facts) c.is_none.result
    (sym (ap is_some c.stage_end.ensures) ∙ copied_some c.stage_end.result) c.is_none.ensures
    ∙ c.if-is_none.false)
