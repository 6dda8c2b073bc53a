use Rattle.std.proofs.Common.{◌==◌, ap, filter, not, subst, sym, ◌∙◌}
use Rattle.std.specs.BTreeSet.{insert_key}
use Rattle.std.specs.Ordering.{nat_cmp}
use Rattle.pl_open_runs.specs.Index.{Ascends}
use Rattle.pl_open_runs.proofs.Keeping.{after_known, after_opened, after_shut, runs_ascend}
use Rattle.pl_open_runs.proofs.index.push_queued.Goals as goal

pub returns-in_err-push-clause-index : goal.returns-in_err-push-clause-index
returns-in_err-push-clause-index c = after_known c.args.journal.now c.push.new.self
    c.args.known.now.items c.put_in.new.numbers.items c.args.runs.now.items
    c.reserve.new.self.items c.args.run c.requires.index c.in_err-push.ensures.err
    c.in_ok-put_in.ensures.ok c.reserve.ensures.items

pub put_in_room-requires-clause-ascends : goal.put_in_room-requires-clause-ascends
put_in_room-requires-clause-ascends c = subst Ascends (sym c.reserve.ensures.items)
    (runs_ascend c.args.journal.now c.args.known.now.items c.args.runs.now.items c.requires.index)

pub returns-then-is_open-clause-index : goal.returns-then-is_open-clause-index
returns-then-is_open-clause-index c = after_opened c.args.journal.now c.push.new.self c.args.fact
    c.args.known.now.items c.put_in.new.numbers.items c.args.runs.now.items
    c.put_in_room.new.numbers.items c.args.run c.requires.index c.requires.queued c.requires.few
    c.in_ok-push.ensures.ok c.in_ok-put_in.ensures.ok (sym c.is_open.ensures ∙ c.if-is_open.true)
    (c.put_in_room.ensures.items ∙ ap (λ xs. insert_key nat_cmp xs c.args.run) c.reserve.ensures.items)

pub returns-else-is_open-clause-index : goal.returns-else-is_open-clause-index
returns-else-is_open-clause-index c = after_shut c.args.journal.now c.push.new.self c.args.fact
    c.args.known.now.items c.put_in.new.numbers.items c.args.runs.now.items
    c.take_out.new.runs.items c.args.run c.requires.index c.requires.queued c.requires.few
    c.in_ok-push.ensures.ok c.in_ok-put_in.ensures.ok (sym c.is_open.ensures ∙ c.if-is_open.false)
    (c.take_out.ensures.items ∙ ap (filter (λ one. not (one == c.args.run)))
    c.reserve.ensures.items)
