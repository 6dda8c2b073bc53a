-- Stages that are judged once.
use Rattle.std.proofs.Common.{◌≡◌, ◌<◌, ◌≤◌, ◌+◌, ℕ, false, List, [], ◌∷◌, ◌++◌, length}
use Rattle.std.proofs.Common.{get_or, drop, Option, Some, None, refl, sym, subst}
use Rattle.std.proofs.lemmas.List.{append-nil, drop_all}
use Rattle.pl_facts.specs.declared.fact.Event.{Event}
use Rattle.pl_facts.specs.declared.fact.Fact.{Fact}
use Rattle.pl_facts.specs.declared.fact.QueuedRun.{QueuedRun}
use Rattle.pl_locks.specs.declared.contender.Contender.{Contender}
use Rattle.pl_plan.specs.declared.plan.PlanStage.{PlanStage}
use Rattle.pl_due.specs.declared.open_stages.Place.{Place}
use Rattle.pl_due.specs.Contention.{IsEligible}
use Rattle.pl_due.specs.Kinds.{Fails}
use Rattle.pl_due.specs.Least.{OfStages}
use Rattle.pl_due.specs.Nodes.{IsStageOf, is_waiting}
use Rattle.pl_due.specs.Scans.{AllJudged, FirstJob, FirstStage, IsPicked, OneJudged, Picked}
use Rattle.pl_due.proofs.Judged.{clash, fails_idle}
use Rattle.pl_due.proofs.Picking.{not_picked, picked_none, picked_some}
use Rattle.pl_due.proofs.Scanned.{lifted, nowhere, turn_none, turn_some}

module _ (facts : List Fact) (moment : ℕ) where
  abbrev First : ℕ → ℕ → Option Event → Type 0
  First run stage found = FirstJob (OfStages facts (Fails facts moment) run stage) found

  abbrev Whether : ℕ → ℕ → Option Contender → Type 0
  Whether run stage picked = IsPicked facts (IsEligible facts moment) run stage picked

  -- ---- one stage

  module _ (run stage : ℕ) (fails : Option Event) (picked : Option Contender) where
    pub some_told : (event : Event) → fails ≡ Some event → First run stage (Some event) →
        OneJudged facts moment run stage fails picked
    some_told event is first = (
      subst (First run stage) (sym is) first,
      λ none. let e : Some event ≡ None = cc in absurd (cc),
    )

    pub none_told : fails ≡ None → First run stage None → Whether run stage picked →
        OneJudged facts moment run stage fails picked
    none_told is none whether = (subst (First run stage) (sym is) none, λ same. whether)

    pub nothing_there : ((told : QueuedRun) (one : PlanStage) → IsStageOf facts run stage told one →
        ⊥) → fails ≡ None → picked ≡ None → OneJudged facts moment run stage fails picked
    nothing_there none is lacks = none_told is
        (nowhere facts (Fails facts moment) run stage none)
        (subst (Whether run stage) (sym lacks) (λ told one there holds. none told one there))

    pub nothing_waits : (told : QueuedRun) (one : PlanStage) → IsStageOf facts run stage told one →
        is_waiting one run stage facts ≡ false → fails ≡ None → picked ≡ None →
        OneJudged facts moment run stage fails picked
    nothing_waits told one there idle is lacks = none_told is
        (lifted facts (Fails facts moment) run stage told one None there
        (fails_idle facts moment told one run stage idle))
        (subst (Whether run stage) (sym lacks) (not_picked facts (IsEligible facts moment) told one
        run stage there (λ h. clash (is_waiting one run stage facts) idle h.waits)))

  -- ---- stage after stage

  pub record SoFar (places : List Place) (i : ℕ) (picked : List Contender) : Type 0 where
    pub fails : (found : Option Event) → FirstStage facts (Fails facts moment) (drop i places) found
        → FirstStage facts (Fails facts moment) places found
    pub picks : (rest : List Contender) →
        Picked facts (IsEligible facts moment) (drop i places) rest →
        Picked facts (IsEligible facts moment) places (picked ++ rest)

  pub at_first : (places : List Place) (picked : List Contender) → picked ≡ [] →
      SoFar places 0 picked
  at_first places picked is = record {
    fails = λ found first. first;
    picks = λ rest all. subst (λ front. Picked facts (IsEligible facts moment) places
        (front ++ rest)) (sym is) all;
  }

  module _ (places : List Place) (i : ℕ) (at : Place) (within : i < length places)
      (is : at ≡ get_or places i at) (old : List Contender) (so_far : SoFar places i old)
      (fails : Option Event) (picked : Option Contender)
      (told : OneJudged facts moment at.run at.stage fails picked) where
    pub some_fails : (event : Event) (kept : List Contender) → fails ≡ Some event →
        AllJudged facts moment places (Some event) kept
    some_fails event kept some = (
      turn_some facts (Fails facts moment) places i at event within is
          (subst (First at.run at.stage) some told.0) so_far.fails,
      λ none. absurd (cc),
    )

    pub none_fails : (new : List Contender) → fails ≡ None →
        ((rest : List Contender) → Picked facts (IsEligible facts moment) (drop (i + 1) places) rest
        → Picked facts (IsEligible facts moment) places (new ++ rest)) → SoFar places (i + 1) new
    none_fails new none picks = record {
      fails = turn_none facts (Fails facts moment) places i at within is
          (subst (First at.run at.stage) none told.0) so_far.fails;
      picks = picks;
    }

    pub one_more : (stage : Contender) (new : List Contender) → fails ≡ None →
        picked ≡ Some stage → new ≡ old ++ stage ∷ [] → SoFar places (i + 1) new
    one_more stage new none some put = none_fails new none
        (picked_some facts (IsEligible facts moment) places i at stage old new within is
        (subst (Whether at.run at.stage) some (told.1 none)) put so_far.picks)

    pub no_more : (new : List Contender) → fails ≡ None → picked ≡ None → new ≡ old →
        SoFar places (i + 1) new
    no_more new none lacks same = none_fails new none
        (picked_none facts (IsEligible facts moment) places i at old new within is
        (subst (Whether at.run at.stage) lacks (told.1 none)) same so_far.picks)

  pub at_last : (places : List Place) (i : ℕ) (picked : List Contender) → length places ≤ i →
      SoFar places i picked → AllJudged facts moment places None picked
  at_last places i picked past so_far = (
    so_far.fails None (subst (λ left. FirstStage facts (Fails facts moment) left None)
        (sym (drop_all i places past)) refl),
    λ none. subst (Picked facts (IsEligible facts moment) places) (append-nil picked)
        (so_far.picks [] (subst (λ left. Picked facts (IsEligible facts moment) left [])
        (sym (drop_all i places past)) refl)),
  )
