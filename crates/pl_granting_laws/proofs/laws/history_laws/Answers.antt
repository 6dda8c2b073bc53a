use Rattle.pl_granting_laws.proofs.Keeping.{keeps, none_yet, settling_keeps}
use Rattle.pl_granting_laws.proofs.laws.history_laws.Goals as goal

pub returns-clause-first : goal.returns-clause-first
returns-clause-first c = none_yet

pub returns-clause-settling : goal.returns-clause-settling
returns-clause-settling c = settling_keeps

pub returns-clause-next : goal.returns-clause-next
returns-clause-next c = λ facts one may orderly. keeps facts one orderly may
