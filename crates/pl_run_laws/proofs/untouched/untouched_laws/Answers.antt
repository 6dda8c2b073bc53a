use Rattle.pl_run_laws.proofs.Behind.{same_run_behind, same_uses_behind}
use Rattle.pl_run_laws.proofs.Due.{same_but, same_checked}
use Rattle.pl_run_laws.proofs.Same.{turned, turned_uses}
use Rattle.pl_run_laws.proofs.untouched.untouched_laws.Goals as goal

pub returns-clause-elsewhere : goal.returns-clause-elsewhere
returns-clause-elsewhere c = same_run_behind

pub returns-clause-unset : goal.returns-clause-unset
returns-clause-unset c = same_uses_behind

pub returns-clause-turned : goal.returns-clause-turned
returns-clause-turned c = turned

pub returns-clause-turned_uses : goal.returns-clause-turned_uses
returns-clause-turned_uses c = turned_uses

pub returns-clause-due : goal.returns-clause-due
returns-clause-due c = same_but

pub returns-clause-checked : goal.returns-clause-checked
returns-clause-checked c = same_checked
