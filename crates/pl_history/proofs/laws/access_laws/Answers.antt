use Rattle.pl_history.proofs.Settled.{settles_all}
use Rattle.pl_history.proofs.Standing.{holds_all, new_sound, starts_all}
use Rattle.pl_history.proofs.laws.access_laws.Goals as goal

pub returns-clause-guarded : goal.returns-clause-guarded
returns-clause-guarded c = λ opening entries legal. record {
  next = starts_all opening c.settling_laws.ensures.next entries legal;
  one_holder = λ sound. holds_all opening entries sound legal;
  no_gap = settles_all c.settling_laws.ensures.no_gap opening entries legal;
}

pub returns-clause-sound : goal.returns-clause-sound
returns-clause-sound c = new_sound
