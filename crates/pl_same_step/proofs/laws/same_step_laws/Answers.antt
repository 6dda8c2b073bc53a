use Rattle.pl_same_step.proofs.Dueing.{settles_same}
use Rattle.pl_same_step.proofs.Stepping.{same_step}
use Rattle.pl_same_step.proofs.laws.same_step_laws.Goals as goal

pub returns-clause-settles : goal.returns-clause-settles
returns-clause-settles c = settles_same

pub returns-clause-steps : goal.returns-clause-steps
returns-clause-steps c = λ held its log other call same made stepped also room rooms is is_also.
    same_step c.step_laws.ensures.one held its log other call same made stepped also room rooms
    is_also is
