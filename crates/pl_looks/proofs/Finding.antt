-- What is found first in a run, kind after kind.
use Rattle.std.proofs.Common.{◌≡◌, ℕ, List, [], ◌∷◌, Option, Some, None, refl, ap, inl, inr}
use Rattle.std.proofs.Common.{Result, Ok, Err}
use Rattle.std.specs.Result.{IfOk}
use Rattle.pl_base.specs.declared.memory.Memory.{Memory}
use Rattle.pl_due.specs.Contention.{Holds}
use Rattle.pl_due.specs.Kinds.{Fails, IsDone, IsPassedOver, JobIsPassedOver, TimesOut}
use Rattle.pl_due.specs.Scans.{FirstStage, Waits}
use Rattle.pl_due.specs.declared.open_stages.Place.{Place}
use Rattle.pl_facts.specs.declared.fact.Event.{Event}
use Rattle.pl_facts.specs.declared.fact.Fact.{Fact}
use Rattle.pl_run_laws.proofs.ByRuns.{clash}
use Rattle.pl_run_laws.specs.ByRuns.{FirstIn, Found, LeastIn, kinds}
use Rattle.pl_looks.specs.declared.types.First.{First}
use Rattle.pl_looks.specs.Looks.{found_of}
use Rattle.pl_looks.specs.OneRun.{HasOfRun}
use Rattle.pl_looks.proofs.OneRun.{least_in}

-- what is due isn't nothing
pub due_some : {X : Type 0} (first : Option First) (number : ℕ) (event : Event) →
    found_of first ≡ Some (number, event) → first ≡ None → X
due_some first number event some none =
    absurd (clash (found_of first) number event (ap found_of none) some)

pub if_all : {X : Type 0} (P Q : X → Type 0) (result : Result X Memory) → ((x : X) → P x → Q x) →
    IfOk result P → IfOk result Q
if_all P Q (Ok x) more is = more x is
if_all P Q (Err wanting) more is = tt

module _ (facts : List Fact) (moment run : ℕ) where
  abbrev AllFirst : Found → Type 0
  AllFirst = FirstIn facts 0 (kinds facts moment) run

  module _ (running : List Place) (has : HasOfRun facts run (Holds facts) running) where
    abbrev Timed : Option Event → Type 0
    Timed = FirstStage facts (TimesOut facts moment) running

    abbrev Passed : Option Event → Type 0
    Passed = FirstStage facts (JobIsPassedOver facts) running

    abbrev Done : Option Event → Type 0
    Done = FirstStage facts (IsDone facts) running

    timed : (found : Option Event) → Timed found → LeastIn facts (TimesOut facts moment) run found
    timed found is = least_in facts (TimesOut facts moment) run (Holds facts) running found has
        (λ told one stage job event k. k.runs) is

    passed : (found : Option Event) → Passed found → LeastIn facts (JobIsPassedOver facts) run found
    passed found is = least_in facts (JobIsPassedOver facts) run (Holds facts) running found has
        (λ told one stage job event k. k.runs) is

    done : (found : Option Event) → Done found → LeastIn facts (IsDone facts) run found
    done found is = least_in facts (IsDone facts) run (Holds facts) running found has
        (λ told one stage job event k. k.runs) is

    pub first_timed : (event : Event) → Timed (Some event) → AllFirst (Some (0, event))
    first_timed event is = inl (event, refl, timed (Some event) is)

    pub first_passed : Timed None → (event : Event) → Passed (Some event) →
        AllFirst (Some (1, event))
    first_passed none event is = inr (timed None none, inl (event, refl, passed (Some event) is))

    pub first_done : Timed None → Passed None → (event : Event) → Done (Some event) →
        AllFirst (Some (2, event))
    first_done none no_job event is = inr (
      timed None none,
      inr (
        passed None no_job,
        inl (event, refl, done (Some event) is),
      ),
    )

    module _ (waiting : List Place) (waits : HasOfRun facts run (Waits facts) waiting) where
      abbrev Over : Option Event → Type 0
      Over = FirstStage facts (IsPassedOver facts) waiting

      over : (found : Option Event) → Over found → LeastIn facts (IsPassedOver facts) run found
      over found is = least_in facts (IsPassedOver facts) run (Waits facts) waiting found waits
          (λ told one stage job event k. k.waits) is

      pub first_over : Timed None → Passed None → Done None → (event : Event) →
          Over (Some event) → AllFirst (Some (3, event))
      first_over none no_job not_done event is = inr (
        timed None none,
        inr (
          passed None no_job,
          inr (done None not_done, inl (event, refl, over (Some event) is)),
        ),
      )

      pub first_checked : Timed None → Passed None → Done None → Over None → (found : Found) →
          FirstIn facts 4 (Fails facts moment ∷ []) run found → AllFirst found
      first_checked none no_job not_done no_stage found is = inr (
        timed None none,
        inr (passed None no_job, inr (done None not_done, inr (over None no_stage, is))),
      )

  module _ (waiting : List Place) (waits : HasOfRun facts run (Waits facts) waiting) where
    failing : (found : Option Event) → FirstStage facts (Fails facts moment) waiting found →
        LeastIn facts (Fails facts moment) run found
    failing found is = least_in facts (Fails facts moment) run (Waits facts) waiting found waits
        (λ told one stage job event k. k.waits) is

    pub some_fails : (event : Event) → FirstStage facts (Fails facts moment) waiting (Some event) →
        FirstIn facts 4 (Fails facts moment ∷ []) run (Some (4, event))
    some_fails event is = inl (event, refl, failing (Some event) is)

    pub none_fails : FirstStage facts (Fails facts moment) waiting None →
        FirstIn facts 4 (Fails facts moment ∷ []) run None
    none_fails none = inr (failing None none, refl)
