use Rattle.std.proofs.Common.{Option, drop}
use Rattle.pl_locks.specs.declared.contender.Contender.{Contender}
use Rattle.pl_granting.specs.Locked.{FirstHeld}
use Rattle.pl_granting.proofs.locked.held_by.Given as goal

-- what is found for the resources that are left is found for all
abbrev pub invariant-loop-key : goal.invariant-loop-key
invariant-loop-key l = (found : Option Contender) →
    FirstHeld l.holders (drop l.key-index l.keys) found → FirstHeld l.holders l.keys found
