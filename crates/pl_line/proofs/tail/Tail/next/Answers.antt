use Rattle.std.proofs.Common.{rules}
use Rattle.std.proofs.lemmas.Str.{chars_past_char}
use Rattle.pl_line.proofs.tail.Tail.next.Goals as goal

pub returns : goal.returns
returns c = search (rules, chars_past_char)
