use Rattle.pl_compile.proofs.Whole.{tree_planned}
use Rattle.pl_compile.proofs.compiling.tree_planned.Goals as goal

pub returns-in-Ok : goal.returns-in-Ok
returns-in-Ok c =
    tree_planned c.args.whole.now c.in-Ok.pipeline c.planned.result c.in-Ok.ensures
    c.planned.ensures
