use Rattle.std.proofs.Common.{◌==◌, length}
use Rattle.std.specs.BTreeSet.{contains}
use Rattle.pl_lock_queues.specs.Queues.{place_cmp}
use Rattle.pl_lock_queues.proofs.Changed.{again}
use Rattle.pl_lock_queues.proofs.admitting.add_others.Goals as goal

pub returns-in-Err-clause-free_err : goal.returns-in-Err-clause-free_err
returns-in-Err-clause-free_err c =
    again (contains place_cmp c.args.free.now) (contains place_cmp c.add_free.new.free)
    (contains place_cmp c.take_free.new.free) (length c.args.stage.now.resources == 0)
    c.args.stage.now c.requires.absent c.in_ok-add_free.ensures.ok c.take_free.ensures
