use Rattle.pl_cond.proofs.Inside.{in_atom_else}
use Rattle.pl_cond.proofs.paths.atom_along.Goals as goal

pub returns-else-is_empty : goal.returns-else-is_empty
returns-else-is_empty c = λ here. in_atom_else here c.args.value c.args.names.now c.requires
    c.if-is_empty.ensures
