use Rattle.std.proofs.Common.{◌≡◌, map, take}
use Rattle.pl_frame.specs.Members.{made_pair}
use Rattle.pl_frame.proofs.contexts.variables_at.Given as goal

abbrev pub invariant-loop-variable : goal.invariant-loop-variable
invariant-loop-variable l =
    l.pairs ≡ map (made_pair l.origin) (take l.variable-index l.variable-items)
