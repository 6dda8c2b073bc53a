use Rattle.std.proofs.Common.{inl, ⊎_elim}
use Rattle.std.proofs.lemmas.Option.{MatchOption-at_none}
use Rattle.pl_lock_queues.proofs.superseded.add_earlier.Goals as goal

pub returns-in-None-clause-ok : goal.returns-in-None-clause-ok
returns-in-None-clause-ok c = λ p. (
  λ h. inl h,
  λ h. ⊎_elim (λ was. was)
      (λ gives. absurd (MatchOption-at_none _ _ c.in-None.is c.requires.named p gives)) h,
)
