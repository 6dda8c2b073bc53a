use Rattle.pl_texts.proofs.Matches.{begins_at_front}
use Rattle.pl_texts.proofs.matching.begins.Goals as goal

pub returns : goal.returns
returns c = begins_at_front _ _ _ c.eq_ignore_ascii_case.ensures.test
