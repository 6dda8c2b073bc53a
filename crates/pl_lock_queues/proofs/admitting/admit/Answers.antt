use Rattle.std.proofs.Common.{refl}
use Rattle.pl_lines.specs.Lines.{stands}
use Rattle.pl_lock_queues.specs.Queues.{key_cmp, place_cmp, wants}
use Rattle.pl_lock_queues.proofs.Bools.{on_err}
use Rattle.pl_lock_queues.proofs.Changed.{admitted, again, as_before, nobody_free, nobody_waits}
use Rattle.pl_lock_queues.proofs.admitting.admit.Goals as goal

pub wait_all-requires : goal.wait_all-requires
wait_all-requires c =
    nobody_waits c.args.eligible.now c.args.lines.now.lines c.args.free.now c.args.superseded.now
    c.args.stage.now c.requires.queues c.requires.absent

pub add_others-requires-clause-absent : goal.add_others-requires-clause-absent
add_others-requires-clause-absent c =
    nobody_free c.args.eligible.now c.args.lines.now.lines c.args.free.now c.args.superseded.now
    c.args.stage.now c.requires.queues c.requires.absent

pub add_others-requires-clause-giving_way : goal.add_others-requires-clause-giving_way
add_others-requires-clause-giving_way c = c.requires.queues.giving_way

pub returns-in_err-wait_all-clause-err : goal.returns-in_err-wait_all-clause-err
returns-in_err-wait_all-clause-err c = on_err c.from_residual.result _ (
    as_before c.args.eligible.now c.args.lines.now.lines c.args.free.now c.args.superseded.now
    c.requires.queues c.wait_all.new.lines.lines c.args.free.now c.args.superseded.now
    c.in_err-wait_all.ensures.err (λ p. refl) c.requires.queues.giving_way)

pub returns-in-Ok-clause-ok : goal.returns-in-Ok-clause-ok
returns-in-Ok-clause-ok c = λ more put.
    admitted c.args.eligible.now c.args.lines.now.lines c.args.free.now c.args.superseded.now
    c.requires.queues c.args.stage.now more c.wait_all.new.lines.lines c.add_others.new.free
    c.add_others.new.superseded c.in_ok-wait_all.ensures.ok c.in-Ok.ensures.free
    c.in-Ok.ensures.giving_way put

pub returns-in-Err-clause-err : goal.returns-in-Err-clause-err
returns-in-Err-clause-err c =
    as_before c.args.eligible.now c.args.lines.now.lines c.args.free.now c.args.superseded.now
    c.requires.queues c.leave_all.new.lines.lines c.add_others.new.free c.add_others.new.superseded
    (λ key. again (stands key_cmp place_cmp c.args.lines.now.lines key)
    (stands key_cmp place_cmp c.wait_all.new.lines.lines key)
    (stands key_cmp place_cmp c.leave_all.new.lines.lines key) (wants key c.args.stage.now)
    c.args.stage.now (nobody_waits c.args.eligible.now c.args.lines.now.lines c.args.free.now
    c.args.superseded.now c.args.stage.now c.requires.queues c.requires.absent key)
    (c.in_ok-wait_all.ensures.ok key) (c.leave_all.ensures key))
    c.in-Err.ensures.free_err c.in-Err.ensures.giving_way_err
