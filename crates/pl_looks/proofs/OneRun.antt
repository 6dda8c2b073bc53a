-- What is found in the places of one run's stages.
use Rattle.std.proofs.Common.{◌≡◌, ℕ, true, false, List, [], ◌∷◌, Option, Some, None, refl, sym}
use Rattle.std.proofs.Common.{ap, subst, ◌∙◌, inl, inr, flat_map}
use Rattle.std.specs.List.{All, Contains}
use Rattle.std.specs.Option.{option_map_or}
use Rattle.std.proofs.lemmas.List.{append-nil}
use Rattle.std.proofs.lemmas.List.Elements.{All-head, All-tail}
use Rattle.pl_due.proofs.Members.{all_from}
use Rattle.pl_due.proofs.Opened.{in_its_run, in_run, run_pairs}
use Rattle.pl_due.proofs.Picking.{are_those}
use Rattle.pl_due.proofs.Scanned.{least_of_all}
use Rattle.pl_due.specs.Contention.{AreThose, Holds, InRun}
use Rattle.pl_due.specs.Least.{InStage, Least, OfStages}
use Rattle.pl_due.specs.Nodes.{IsStageOf, is_waiting}
use Rattle.pl_due.specs.Open.{Test, of_run, runs, waits}
use Rattle.pl_due.specs.Scans.{FirstStage, IsPicked, Picked, Waits}
use Rattle.pl_due.specs.declared.open_stages.Place.{Place}
use Rattle.pl_facts.specs.declared.fact.Event.{Event}
use Rattle.pl_facts.specs.declared.fact.Fact.{Fact}
use Rattle.pl_facts.specs.declared.fact.QueuedRun.{QueuedRun}
use Rattle.pl_facts.specs.Below.pl_plan.specs.declared.plan.PlanStage.{PlanStage}
use Rattle.pl_locks.specs.declared.contender.Contender.{Contender}
use Rattle.pl_run_laws.specs.ByRuns.{LeastIn}
use Rattle.pl_looks.specs.Looks.{OfRun}
use Rattle.pl_looks.specs.OneRun.{HasOfRun}

-- what is due in the stages of one run
abbrev DueOf : ℕ → InStage → InStage
DueOf run kind told one r stage job event = (r ≡ run) × kind told one r stage job event

-- ---- the least

module _ (facts : List Fact) (kind : InStage) (run : ℕ) where
  first_own : (places : List Place) → All (λ at. at.run ≡ run) places → (found : Option Event) →
      FirstStage facts kind places found → FirstStage facts (DueOf run kind) places found
  first_own [] own found is = is
  first_own (at ∷ places) own found (inl (event, is, (job, k, least))) =
      let here = All-head (λ (p : Place). p.run ≡ run) at places own in
      inl (
        event,
        is,
        (
          job,
          (k.0, k.1, k.2, (here, k.3)),
          λ j other h. least j other (h.0, h.1, h.2, h.3.1),
        ),
      )
  first_own (at ∷ places) own found (inr (none, rest)) =
      inr (
        λ job event h. none job event (h.0, h.1, h.2, h.3.1),
        first_own places (All-tail (λ (p : Place). p.run ≡ run) at places own) found rest,
      )

  least_own : (found : Option Event) → Least facts (DueOf run kind) found →
      LeastIn facts kind run found
  least_own None none = λ stage job event is.
      none run stage job event (is.0, is.1, is.2, (refl, is.3))
  least_own (Some event) least =
      let at = least.is.3.0 in
      record {
        stage = least.stage;
        job = least.job;
        is = subst (λ r. OfStages facts kind r least.stage least.job event) at
            (least.is.0, least.is.1, least.is.2, least.is.3.1);
        least = λ s j other is before. least.least run s j other
            (is.0, is.1, is.2, (refl, is.3)) (inr (sym at, before));
      }

  pub least_in : (P : InRun) (places : List Place) (found : Option Event) →
      HasOfRun facts run P places →
      ((told : QueuedRun) (one : PlanStage) (stage job : ℕ) (event : Event) →
      kind told one run stage job event → P told one run stage) →
      FirstStage facts kind places found → LeastIn facts kind run found
  least_in P places found all stays is = least_own found
      (least_of_all facts (DueOf run kind) (OfRun run P) places found all.has
      (λ told one r stage job event k. (
        k.0,
        subst (λ x. P told one x stage) (sym k.0) (stays told one stage job event
            (subst (λ x. kind told one x stage job event) k.0 k.1)),
      ))
      (first_own places all.own found is))

-- ---- contenders

module _ (facts : List Fact) (P : InRun) (run : ℕ) where
  picked_own : (at : Place) → at.run ≡ run → (picked : Option Contender) →
      IsPicked facts P at.run at.stage picked → IsPicked facts (OfRun run P) at.run at.stage picked
  picked_own at own None none = λ told one there holds. none told one there holds.1
  picked_own at own (Some stage) is = (
    record {
      told = is.0.told;
      one = is.0.one;
      there = is.0.there;
      holds = (is.1.0 ∙ own, is.0.holds);
      is = is.0.is;
    },
    is.1,
  )

  all_own : (places : List Place) → All (λ at. at.run ≡ run) places → (picked : List Contender) →
      Picked facts P places picked → Picked facts (OfRun run P) places picked
  all_own [] own picked is = is
  all_own (at ∷ places) own picked (inl (stage, rest, is, one, others)) =
      inl (
        stage,
        rest,
        is,
        picked_own at (All-head (λ (p : Place). p.run ≡ run) at places own) (Some stage) one,
        all_own places (All-tail (λ (p : Place). p.run ≡ run) at places own) rest others,
      )
  all_own (at ∷ places) own picked (inr (none, others)) =
      inr (
        picked_own at (All-head (λ (p : Place). p.run ≡ run) at places own) None none,
        all_own places (All-tail (λ (p : Place). p.run ≡ run) at places own) picked others,
      )

  pub those_in : (Q : InRun) (places : List Place) (picked : List Contender) →
      HasOfRun facts run Q places →
      ((told : QueuedRun) (one : PlanStage) (r stage : ℕ) → P told one r stage →
      Q told one r stage) → Picked facts P places picked →
      AreThose facts (OfRun run P) picked
  those_in Q places picked all stays is =
      are_those facts (OfRun run P) (OfRun run Q) places picked all.has
      (λ told one r stage holds. (holds.0, stays told one r stage holds.1))
      (all_own places all.own picked is)

-- ---- the stages of one run

module _ (facts : List Fact) (test : Test) (run : ℕ) (P : InRun)
    (tells : (told : QueuedRun) (one : PlanStage) (stage : ℕ) →
    IsStageOf facts run stage told one → P told one run stage →
    test told.compiled.plan.stages run stage ≡ true) where
  pub has_of_run : (places : List Place) →
      places ≡ flat_map (of_run facts test) (run ∷ []) → HasOfRun facts run P places
  has_of_run places is =
      let same : places ≡ of_run facts test run =
      is ∙ append-nil (of_run facts test run) in
      subst (HasOfRun facts run P) (sym same) (record {
        has = record {
          ordered = run_pairs facts test run;
          all = λ told one r stage there holds.
              subst (λ x. Contains (of_run facts test run) (record { run = x; stage = stage }))
              (sym holds.0) (in_run facts test told one run stage
              (subst (λ x. IsStageOf facts x stage told one) holds.0 there)
              (tells told one stage (subst (λ x. IsStageOf facts x stage told one) holds.0 there)
              (subst (λ x. P told one x stage) holds.0 holds.1)));
        };
        own = all_from (λ (at : Place). at.run ≡ run) (of_run facts test run)
            (λ at among. in_its_run facts test run at among);
      })

pub has_running : (facts : List Fact) (run : ℕ) (places : List Place) →
    places ≡ flat_map (of_run facts (runs facts)) (run ∷ []) →
    HasOfRun facts run (Holds facts) places
has_running facts run places is = has_of_run facts (runs facts) run (Holds facts)
    (λ told one stage there holds. holds) places is

pub has_waiting : (facts : List Fact) (run : ℕ) (places : List Place) →
    places ≡ flat_map (of_run facts (waits facts)) (run ∷ []) →
    HasOfRun facts run (Waits facts) places
has_waiting facts run places is = has_of_run facts (waits facts) run (Waits facts)
    (λ told one stage there holds. ap (λ (o : Option PlanStage). option_map_or
    (λ (p : PlanStage). is_waiting p run stage facts) o false) there.planned ∙ holds) places is
