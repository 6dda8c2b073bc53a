use Rattle.pl_step_laws.proofs.Chosen.{one_step}
use Rattle.pl_step_laws.proofs.laws.step_laws.Goals as goal

pub returns : goal.returns
returns c = record {
  one =
      one_step c.granting_laws.ensures.one c.granting_laws.ensures.one_drawn
      c.settling_laws.ensures.one;
}
