use Rattle.std.proofs.Common.{sym, ◌∙◌}
use Rattle.pl_open_runs.proofs.Keeping.{after_ended, after_still}
use Rattle.pl_open_runs.proofs.index.push_ended.Goals as goal

pub returns-then-not-is_open-clause-index : goal.returns-then-not-is_open-clause-index
returns-then-not-is_open-clause-index c = after_ended c.args.journal.now c.push.new.self c.args.fact
    c.args.known.now c.args.runs.now.items c.take_out.new.runs.items c.args.run c.requires.index
    c.requires.ended c.in_ok-push.ensures.ok (sym c.is_open.ensures ∙ c.if-not-is_open.true)
    c.take_out.ensures.items

pub returns-else-not-is_open-clause-index : goal.returns-else-not-is_open-clause-index
returns-else-not-is_open-clause-index c = after_still c.args.journal.now c.push.new.self c.args.fact
    c.args.known.now c.args.runs.now.items c.args.run c.requires.index c.requires.ended
    c.in_ok-push.ensures.ok (sym c.is_open.ensures ∙ c.if-not-is_open.false)
