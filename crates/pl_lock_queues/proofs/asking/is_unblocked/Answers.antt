use Rattle.std.proofs.Common.{refl}
use Rattle.std.specs.List.{All}
use Rattle.pl_locks.specs.declared.contender.Contender.{Contender}
use Rattle.pl_lock_queues.specs.Asked.{IsClear}
use Rattle.pl_lock_queues.proofs.Finding.{at_place, nobody}
use Rattle.pl_lock_queues.proofs.asking.is_unblocked.Goals as goal

pub returns-in-Some : goal.returns-in-Some
returns-in-Some c =
    at_place c.args.eligible.now c.args.place.0 c.args.place.1 c.in-Some.at
    c.index-eligible-at.result c.requires c.in-Some.ensures c.index-eligible-at.is
    (λ (stage : Contender). All (IsClear c.args.lines.now.lines c.args.marks.now c.args.place)
    stage.resources) c.are_clear.result
    (rw (c.as_slice.ensures, ← c.index-eligible-at.is) at c.are_clear.ensures)

pub returns-in-None : goal.returns-in-None
returns-in-None c =
    nobody (λ (stage : Contender). All (IsClear c.args.lines.now.lines c.args.marks.now c.args.place)
    stage.resources) c.args.eligible.now c.args.place.0 c.args.place.1 c.in-None.ensures _ refl
