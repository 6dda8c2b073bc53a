use Rattle.std.proofs.Common.{◌≡◌, ◌++◌, drop}
use Rattle.pl_depends.specs.Cycles.{names_on}
use Rattle.pl_depends.proofs.cycles.names_on.Given as goal

abbrev pub invariant-loop-node : goal.invariant-loop-node
invariant-loop-node l =
    l.names ++ names_on l.graph (drop l.node-index l.nodes) ≡ names_on l.graph l.nodes
