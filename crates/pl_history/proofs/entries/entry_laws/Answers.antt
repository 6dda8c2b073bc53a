use Rattle.pl_history.proofs.Fresh.{all_new}
use Rattle.pl_history.proofs.Within.{all_within}
use Rattle.pl_history.proofs.entries.entry_laws.Goals as goal

pub returns-clause-numbers : goal.returns-clause-numbers
returns-clause-numbers c = all_within

pub returns-clause-fresh : goal.returns-clause-fresh
returns-clause-fresh c = all_new c.history_laws.ensures.settling c.history_laws.ensures.next
