use Rattle.std.proofs.Common.{◌≡◌, find, drop}
use Rattle.pl_literal.specs.Booleans.{spells}
use Rattle.pl_root.proofs.arguments.kind_for.Given as goal

abbrev pub invariant-loop-param : goal.invariant-loop-param
invariant-loop-param l =
    find (λ param. spells l.name param.name) l.declared
    ≡ find (λ param. spells l.name param.name) (drop l.param-index l.param-items)
