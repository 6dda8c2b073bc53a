use Rattle.std.proofs.Common.{rules}
use Rattle.std.proofs.lemmas.Str.{chars_past_char}
use Rattle.pl_line.proofs.characters.Characters.next.Goals as goal

pub invariant_of-self : goal.invariant_of-self
invariant_of-self c = search (rules, chars_past_char)

pub returns : goal.returns
returns c = search (rules, chars_past_char)
