use Rattle.std.proofs.Common.{◌≡◌, drop}
use Rattle.std.specs.Prelude.{chars}
use Rattle.pl_line.proofs.taking.first_of.Given as goal

abbrev pub invariant-loop : goal.invariant-loop
invariant-loop l = chars l.rest.text.now ≡ drop l.counter (chars l.text)
