use Rattle.std.proofs.Common.{refl}
use Rattle.pl_log.specs.Keys.{Token, Taker, Queue}
use Rattle.pl_log.proofs.second_rows.SecondRows.new.Goals as goal

pub returns : goal.returns
returns c (Token token) = c.new.ensures token
returns c (Taker name) = c.new-2.ensures name
returns c Queue = refl
