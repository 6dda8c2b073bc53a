use Rattle.pl_granting.proofs.LeastJob.{one_drawn}
use Rattle.pl_granting.proofs.Exactly.{grantable, not_broken}
use Rattle.pl_granting.proofs.OneRule.{one_broken}
use Rattle.pl_granting.proofs.laws.granting_laws.Goals as goal

pub returns-clause-exactly : goal.returns-clause-exactly
returns-clause-exactly c = λ facts moment agent at there done none. (
  grantable facts moment agent at there done
      (c.settling_laws.ensures.no_gap moment facts none at.run at.stage),
  not_broken facts moment agent at,
)

pub returns-clause-one : goal.returns-clause-one
returns-clause-one c = λ facts moment agent at left right.
    one_broken c.verdict_laws.ensures.one facts moment at agent left right

pub returns-clause-one_drawn : goal.returns-clause-one_drawn
returns-clause-one_drawn c = λ facts agent left right. one_drawn facts agent left right
