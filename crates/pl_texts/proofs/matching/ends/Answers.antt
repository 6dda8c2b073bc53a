use Rattle.pl_texts.proofs.Matches.{ends_at_end}
use Rattle.pl_texts.proofs.matching.ends.Goals as goal

pub returns : goal.returns
returns c = ends_at_end _ _ _ _ c.split_at.ensures.back c.eq_ignore_ascii_case.ensures.test
