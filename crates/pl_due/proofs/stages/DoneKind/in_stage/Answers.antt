use Rattle.std.proofs.Common.{None, ap, sym, ◌∙◌}
use Rattle.pl_facts.specs.declared.fact.Event.TheVariants.{StageEnded}
use Rattle.pl_results.specs.Combining.{combined}
use Rattle.pl_due.specs.Asked.{facts_of}
use Rattle.pl_due.proofs.Judged.{done_idle, done_some, not_done}
use Rattle.pl_due.proofs.stages.DoneKind.in_stage.Goals as goal

pub returns-then-not-is_running : goal.returns-then-not-is_running
returns-then-not-is_running c =
    let at = c.args.at.now in
    done_idle (facts_of at) at.moment at.queued.now at.planned.now at.run at.stage
    (sym c.is_running.ensures ∙ c.if-not-is_running.true)

pub returns-then-not-has_done_all : goal.returns-then-not-has_done_all
returns-then-not-has_done_all c =
    let at = c.args.at.now in
    not_done (facts_of at) at.moment at.queued.now at.planned.now at.run at.stage
    (sym c.has_done_all.ensures ∙ c.if-not-has_done_all.true)

pub returns : goal.returns
returns c =
    let at = c.args.at.now in
    done_some (facts_of at) at.moment at.queued.now at.planned.now at.run at.stage _
    (sym c.is_running.ensures ∙ c.if-not-is_running.false)
    (sym c.has_done_all.ensures ∙ c.if-not-has_done_all.false)
    (ap (λ outcome. StageEnded at.run at.stage outcome None)
    (c.combined.ensures ∙ ap combined (c.as_slice.ensures ∙ c.in_ok-outcomes.ensures)))
