use Rattle.pl_wakes.proofs.Staying.{before_first, before_second, says_ahead, says_back}
use Rattle.pl_wakes.proofs.laws.steady_laws.Goals as goal

pub returns-clause-ahead : goal.returns-clause-ahead
returns-clause-ahead c = says_ahead

pub returns-clause-back : goal.returns-clause-back
returns-clause-back c = says_back

pub returns-clause-first : goal.returns-clause-first
returns-clause-first c = before_first

pub returns-clause-second : goal.returns-clause-second
returns-clause-second c = before_second
