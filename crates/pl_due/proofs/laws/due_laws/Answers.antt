use Rattle.pl_due.proofs.OneDue.{one_due}
use Rattle.pl_due.proofs.laws.due_laws.Goals as goal

pub returns : goal.returns
returns c = record {
  one = λ facts moment left right. one_due c.verdict_laws.ensures.one facts moment left right;
}
