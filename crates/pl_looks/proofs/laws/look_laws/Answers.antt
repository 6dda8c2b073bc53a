use Rattle.pl_looks.proofs.Among.{ready_among, taken_among}
use Rattle.pl_looks.proofs.Closed.{closed_look}
use Rattle.pl_looks.proofs.Together.{at_later, contend, due_by_looks}
use Rattle.pl_looks.proofs.Untouched.{untouched}
use Rattle.pl_looks.proofs.laws.look_laws.Goals as goal

pub returns-clause-untouched : goal.returns-clause-untouched
returns-clause-untouched c = untouched

pub returns-clause-later : goal.returns-clause-later
returns-clause-later c = λ facts moment run look. at_later facts moment run look

pub returns-clause-closed : goal.returns-clause-closed
returns-clause-closed c = closed_look

pub returns-clause-due : goal.returns-clause-due
returns-clause-due c = due_by_looks

pub returns-clause-contention : goal.returns-clause-contention
returns-clause-contention c = contend

pub returns-clause-ready : goal.returns-clause-ready
returns-clause-ready c = ready_among

pub returns-clause-taken : goal.returns-clause-taken
returns-clause-taken c = taken_among
