use Rattle.pl_checks.proofs.OneVerdict.{one_verdict}
use Rattle.pl_checks.proofs.laws.verdict_laws.Goals as goal

pub returns : goal.returns
returns c = record { one = one_verdict c.zone_laws.ensures.one }
