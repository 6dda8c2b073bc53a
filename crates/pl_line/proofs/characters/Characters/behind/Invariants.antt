use Rattle.std.proofs.Common.{◌≡◌, drop}
use Rattle.std.specs.Prelude.{chars}
use Rattle.pl_line.proofs.characters.Characters.behind.Given as goal

abbrev pub invariant-loop : goal.invariant-loop
invariant-loop l = chars l.rest.text.now ≡ drop l.counter (chars l.self.text.now)
