use Rattle.std.proofs.Common.{◌≡◌, ◌++◌, drop}
use Rattle.pl_depends.specs.Graph.{waiting_stages}
use Rattle.pl_depends.specs.Places.{under}
use Rattle.pl_depends.proofs.graph.waiting_stages.Given as goal

abbrev pub invariant-loop-at : goal.invariant-loop-at
invariant-loop-at l = l.graph ++ waiting_stages (under l.places) l.at (drop l.at l.stages) ≡
    waiting_stages (under l.places) 0 l.stages
