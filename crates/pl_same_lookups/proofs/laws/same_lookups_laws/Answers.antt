use Rattle.pl_same_lookups.proofs.More.{alike_behind}
use Rattle.pl_same_lookups.proofs.laws.same_lookups_laws.Goals as goal

pub returns : goal.returns
returns c = alike_behind
