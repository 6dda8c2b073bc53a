-- What is due among contenders.
use Rattle.std.proofs.Common.{◌≡◌, ℕ, List, [], ◌∷◌, Option, Some, drop, sym, ap, ◌∙◌}
use Rattle.std.proofs.Common.{inl, inr}
use Rattle.pl_base.specs.declared.outcome.Outcome.TheVariants.{Skipped}
use Rattle.pl_facts.specs.declared.fact.Event.{Event}
use Rattle.pl_facts.specs.declared.fact.Event.TheVariants.{StageEnded, StageStarted}
use Rattle.pl_facts.specs.declared.fact.Fact.{Fact}
use Rattle.pl_locks.specs.Locks.{IsAt, IsLeastLaterRun, IsLeastSuperseded, IsNext}
use Rattle.pl_locks.specs.declared.contender.Contender.{Contender}
use Rattle.pl_rules.specs.declared.rule.Rule.TheVariants as rules
use Rattle.pl_due.specs.Contention.{IsContention, locks}
use Rattle.pl_due.specs.Due.{Next, Superseded, findings}
use Rattle.pl_due.specs.Least.{FirstOf}

abbrev end_at : ℕ → ℕ → ℕ → Event
end_at later run stage = StageEnded run stage Skipped (Some (rules.LockSuperseded later))

module _ (eligible holders : List Contender) (run stage : ℕ) (one : Contender)
    (at : IsAt run stage one) (event : Event) where
  pub given_up : (later : ℕ) → IsLeastSuperseded eligible one →
      IsLeastLaterRun eligible one later → event ≡ end_at later run stage →
      Superseded (locks eligible holders) (Some event)
  given_up later is least gets = record {
    stage = one;
    is = is;
    run = later;
    later = least;
    gets = gets ∙ ap (λ r. end_at later r stage) (sym at.0)
        ∙ ap (end_at later one.run) (sym at.1);
  }

  pub started : IsNext eligible holders one → event ≡ StageStarted run stage →
      Next (locks eligible holders) (Some event)
  started is gets = record {
    stage = one;
    is = is;
    gets = gets ∙ ap (λ r. StageStarted r stage) (sym at.0) ∙ ap (StageStarted one.run) (sym at.1);
  }

pub by_these : (facts : List Fact) (moment : ℕ) (eligible holders : List Contender)
    (found : Option Event) → IsContention facts moment (locks eligible holders) →
    FirstOf (Superseded (locks eligible holders) ∷ Next (locks eligible holders) ∷ []) found →
    FirstOf (drop 5 (findings facts moment)) found
by_these facts moment eligible holders found is (inl (event, some, gives)) =
    inl (event, some, (locks eligible holders, is, gives))
by_these facts moment eligible holders found is (inr (none, inl (event, some, starts))) = inr (
  (locks eligible holders, is, none),
  inl (event, some, (locks eligible holders, is, starts)),
)
by_these facts moment eligible holders found is (inr (none, inr (nothing, too))) = inr (
  (locks eligible holders, is, none),
  inr ((locks eligible holders, is, nothing), too),
)
