use Rattle.std.proofs.Common.{◌≡◌, map, take}
use Rattle.pl_root.specs.Resources.{repository_at}
use Rattle.pl_root.proofs.repositories.repositories_at.Given as goal

abbrev pub invariant-loop-item : goal.invariant-loop-item
invariant-loop-item l = l.all ≡ map repository_at (take l.item-index l.items)
