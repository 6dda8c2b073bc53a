-- What is borrowed from a file's node, by what is meant.
use Rattle.std.specs.Prelude.{◌≡◌, List, Result, Ok, Err}
use denote.Ref.{Bor}
use Rattle.pl_base.specs.declared.node.Node.{Node}
use Rattle.pl_base.specs.declared.node.NodePair.{NodePair}
use Rattle.pl_directives.specs.declared.fault.ExpandFault.{ExpandFault}
use Rattle.pl_directives.specs.Gives.{Refuses}

abbrev pub GivesNode : Result (Bor Node) ExpandFault → Result Node ExpandFault → Type 0
GivesNode (Ok node) meant = meant ≡ Ok node.now
GivesNode (Err fault) meant = Refuses fault meant

abbrev pub GivesPairs :
    Result (Bor (List NodePair)) ExpandFault → Result (List NodePair) ExpandFault → Type 0
GivesPairs (Ok pairs) meant = meant ≡ Ok pairs.now
GivesPairs (Err fault) meant = Refuses fault meant
