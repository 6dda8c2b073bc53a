use Rattle.std.proofs.Common.{◌≡◌, drop}
use Rattle.pl_uses.specs.Uses.{repository_named}
use Rattle.pl_uses.proofs.uses.repository_named.Given as goal

abbrev pub invariant-loop-repository : goal.invariant-loop-repository
invariant-loop-repository l = repository_named l.repositories l.text ≡
    repository_named (drop l.repository-index l.repositories) l.text
