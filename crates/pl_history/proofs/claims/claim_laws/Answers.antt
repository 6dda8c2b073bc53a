use Rattle.pl_history.proofs.Claiming.{claim_all, why_all}
use Rattle.pl_history.proofs.Orderly.{new_orderly}
use Rattle.pl_history.proofs.claims.claim_laws.Goals as goal

pub returns-clause-answered : goal.returns-clause-answered
returns-clause-answered c = λ opening entries orderly legal call made stepped steps. record {
  claims =
      claim_all c.history_laws.ensures.settling c.history_laws.ensures.next
      c.granting_laws.ensures.exactly c.granting_laws.ensures.one c.settling_laws.ensures.one
      opening entries orderly legal call made stepped steps;
  why =
      why_all c.history_laws.ensures.settling c.history_laws.ensures.next
      c.granting_laws.ensures.exactly c.granting_laws.ensures.one c.settling_laws.ensures.one
      opening entries orderly legal call made stepped steps;
}

pub returns-clause-orderly : goal.returns-clause-orderly
returns-clause-orderly c = λ admin. new_orderly c.history_laws.ensures.first admin
