use Rattle.std.proofs.Common.{sym}
use Rattle.pl_cond.proofs.Segments.{last_of, without_slash}
use Rattle.pl_cond.proofs.written.last_segment.Goals as goal

pub returns-in-Some : goal.returns-in-Some
returns-in-Some c = sym (last_of _ _ _ c.in-Some.ensures.cases)

pub returns-in-None : goal.returns-in-None
returns-in-None c = sym (without_slash _ c.in-None.ensures.cases)
