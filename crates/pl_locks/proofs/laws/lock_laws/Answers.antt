use Rattle.pl_locks.proofs.Ordered.{neither_precedes}
use Rattle.pl_locks.proofs.laws.lock_laws.Goals as goal

pub returns-clause-one : goal.returns-clause-one
returns-clause-one c = λ eligible holders left right next_left next_right.
    neither_precedes left right
    (next_right.least left next_left.is_eligible next_left.may_start)
    (next_left.least right next_right.is_eligible next_right.may_start)
