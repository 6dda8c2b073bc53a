-- What is found first in stages in order is the least of its kind.
use Rattle.std.proofs.Common.{◌≡◌, ◌<◌, ◌+◌, ◌⊎◌, ℕ, List, [], ◌∷◌, length, get_or, drop, Option}
use Rattle.std.proofs.Common.{Some, None, refl, sym, ap, ◌∙◌, subst, arith, inl, inr, ⊎_elim}
use Rattle.std.specs.List.{AllPairs, Contains}
use Rattle.std.proofs.lemmas.List.{drop_more}
use Rattle.pl_facts.specs.declared.fact.Event.{Event}
use Rattle.pl_facts.specs.declared.fact.Fact.{Fact}
use Rattle.pl_facts.specs.declared.fact.QueuedRun.{QueuedRun}
use Rattle.pl_plan.specs.declared.plan.PlanStage.{PlanStage}
use Rattle.pl_due.specs.declared.open_stages.Place.{Place}
use Rattle.pl_due.specs.Least.{InStage, Least, OfStages}
use Rattle.pl_due.specs.Nodes.{IsStageOf}
use Rattle.pl_due.specs.Open.{at_place}
use Rattle.pl_due.specs.Contention.{InRun}
use Rattle.pl_due.specs.Scans.{FirstJob, FirstStage, HasStages, IsBefore}
use Rattle.pl_due.proofs.Members.{cons_cases, head_before, here, tail_pairs, there}
use Rattle.pl_due.proofs.OneStage.{moved}

module _ (facts : List Fact) (kind : InStage) where
  -- ---- in one stage

  pub lifted : (run stage : ℕ) (told : QueuedRun) (one : PlanStage) (found : Option Event) →
      IsStageOf facts run stage told one → FirstJob (kind told one run stage) found →
      FirstJob (OfStages facts kind run stage) found
  lifted run stage told one None is none = λ job event (t, o, also, k).
      none job event (moved facts run stage t told o one (λ x y. kind x y run stage job event) also
      is k)
  lifted run stage told one (Some event) is (job, k, least) = (
    job,
    (told, one, is, k),
    λ j other (t, o, also, h).
        least j other (moved facts run stage t told o one (λ x y. kind x y run stage j other) also
        is h),
  )

  pub nowhere : (run stage : ℕ) →
      ((told : QueuedRun) (one : PlanStage) → IsStageOf facts run stage told one → ⊥) →
      FirstJob (OfStages facts kind run stage) None
  nowhere run stage none = λ job event (told, one, is, k). none told one is

  -- ---- one stage after the other

  pub turn_some : (places : List Place) (i : ℕ) (at : Place) (event : Event) → i < length places →
      at ≡ get_or places i at → FirstJob (OfStages facts kind at.run at.stage) (Some event) →
      ((found : Option Event) → FirstStage facts kind (drop i places) found →
      FirstStage facts kind places found) → FirstStage facts kind places (Some event)
  turn_some places i at event within is first so_far =
      let e : at ∷ drop (i + 1) places ≡ drop i places =
      ap (λ x. x ∷ drop (i + 1) places) is ∙ sym (drop_more places i at within) in
      so_far (Some event) (subst (λ rest. FirstStage facts kind rest (Some event)) e
      (inl (event, refl, first)))

  pub turn_none : (places : List Place) (i : ℕ) (at : Place) → i < length places →
      at ≡ get_or places i at → FirstJob (OfStages facts kind at.run at.stage) None →
      ((found : Option Event) → FirstStage facts kind (drop i places) found →
      FirstStage facts kind places found) →
      (found : Option Event) → FirstStage facts kind (drop (i + 1) places) found →
      FirstStage facts kind places found
  turn_none places i at within is none so_far found rest =
      let e : at ∷ drop (i + 1) places ≡ drop i places =
      ap (λ x. x ∷ drop (i + 1) places) is ∙ sym (drop_more places i at within) in
      so_far found (subst (λ left. FirstStage facts kind left found) e (inr (none, rest)))

  -- ---- of all stages

  pub none_among : (places : List Place) → FirstStage facts kind places None → (at : Place) →
      Contains places at → (job : ℕ) (event : Event) →
      OfStages facts kind at.run at.stage job event → ⊥
  none_among [] found at (k, below, is) job event h = absurd (omega arith)
  none_among (first ∷ places) (inl (other, is, rest)) at in_places job event h = absurd (cc)
  none_among (first ∷ places) (inr (none, rest)) at in_places job event h =
      ⊎_elim
      (λ e. none job event
      (subst (λ x. OfStages facts kind x.run x.stage job event) (sym e) h))
      (λ behind. none_among places rest at behind job event h)
      (cons_cases at first places in_places)

  record IsFoundAt (places : List Place) (event : Event) (at : Place) : Type 0 where
    pub among : Contains places at
    pub first : FirstJob (OfStages facts kind at.run at.stage) (Some event)
    pub least : (other : Place) → Contains places other → (job : ℕ) (e : Event) →
        OfStages facts kind other.run other.stage job e → IsBefore other at → ⊥

  irreflexive : (at : Place) → IsBefore at at → ⊥
  irreflexive at h = ⊎_elim (λ run. omega arith) (λ same. omega arith) h

  one_way : (a b : Place) → IsBefore a b → IsBefore b a → ⊥
  one_way a b h k = grind arith

  found_among : (places : List Place) (event : Event) → AllPairs IsBefore places →
      FirstStage facts kind places (Some event) → (at : Place) × IsFoundAt places event at
  found_among [] event ordered found = absurd (cc)
  found_among (at ∷ places) event ordered (inl (other, is, first)) =
      let e : event ≡ other = cc in (
        at,
        record {
          among = here at places;
          first = subst (λ x. FirstJob (OfStages facts kind at.run at.stage) (Some x)) (sym e)
              first;
          least = λ one in_places job x h before. ⊎_elim
              (λ same. irreflexive at (subst (λ p. IsBefore p at) (sym same) before))
              (λ behind. one_way at one (head_before IsBefore at one places ordered behind) before)
              (cons_cases one at places in_places);
        },
      )
  found_among (first ∷ places) event ordered (inr (none, rest)) =
      let (at, found) =
      found_among places event (tail_pairs IsBefore first places ordered) rest in (
        at,
        record {
          among = there at first places found.among;
          first = found.first;
          least = λ one in_places job x h before. ⊎_elim
              (λ same. none job x
              (subst (λ p. OfStages facts kind p.run p.stage job x) (sym same) h))
              (λ behind. found.least one behind job x h before)
              (cons_cases one first places in_places);
        },
      )

  -- where what is of the kind is of one of these stages
  pub least_of_all : (P : InRun) (places : List Place) (found : Option Event) →
      HasStages facts P places →
      ((told : QueuedRun) (one : PlanStage) (run stage job : ℕ) (event : Event) →
      kind told one run stage job event → P told one run stage) →
      FirstStage facts kind places found → Least facts kind found
  least_of_all P places None has_open stays found = λ run stage job event (told, one, is, k).
      none_among places found (at_place run stage)
      (has_open.all told one run stage is (stays told one run stage job event k))
      job event (told, one, is, k)
  least_of_all P places (Some event) has_open stays found =
      let (at, there) = found_among places event has_open.ordered found in
      let (job, k, least) = there.first in
      record {
        run = at.run;
        stage = at.stage;
        job = job;
        is = k;
        least = λ r s j other (told, one, is, h) before.
            let in_places = has_open.all told one r s is (stays told one r s j other h) in
            let aside = there.least (at_place r s) in_places j other (told, one, is, h) in
            ⊎_elim (λ run. aside (inl run))
            (λ (same_run, rest). ⊎_elim (λ stage. aside (inr (same_run, stage)))
            (λ (same_stage, earlier). least j other
            (subst (λ x. OfStages facts kind at.run x j other) same_stage
            (subst (λ x. OfStages facts kind x s j other) same_run (told, one, is, h))) earlier)
            rest) before;
      }
