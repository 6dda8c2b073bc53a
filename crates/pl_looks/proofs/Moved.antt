-- What is found in a run stays found where the same is due in its stages.
use Rattle.std.proofs.Common.{◌≡◌, ◌↔◌, ℕ, suc, List, [], ◌∷◌, Option, Some, None, sym}
use Rattle.std.proofs.Common.{subst, ◌∙◌, inl, inr}
use Rattle.std.proofs.lemmas.List.Elements.{All-weaker}
use Rattle.pl_due.specs.Contention.{AreThose, InRun, IsOne, contender_of}
use Rattle.pl_due.specs.Least.{InStage, OfStages}
use Rattle.pl_due.specs.Nodes.{IsStageOf}
use Rattle.pl_facts.specs.declared.fact.Event.{Event}
use Rattle.pl_facts.specs.declared.fact.Fact.{Fact}
use Rattle.pl_facts.specs.declared.fact.QueuedRun.{QueuedRun}
use Rattle.pl_locks.specs.declared.contender.Contender.{Contender}
use Rattle.pl_facts.specs.Below.pl_plan.specs.declared.plan.PlanStage.{PlanStage}
use Rattle.pl_run_laws.specs.ByRuns.{FirstIn, Found, LeastIn}
use Rattle.pl_looks.specs.Looks.{OfRun}

-- ---- what is due first

-- the same of a kind is due in each stage of the run
abbrev pub SameIn : List Fact → List Fact → ℕ → InStage → InStage → Type 0
SameIn old new run kind other = (stage job : ℕ) (event : Event) →
    (OfStages old kind run stage job event ↔ OfStages new other run stage job event)

abbrev pub AllSameIn : List Fact → List Fact → ℕ → List InStage → List InStage → Type 0
AllSameIn old new run [] [] = Unit {0}
AllSameIn old new run (kind ∷ kinds) (other ∷ others) =
    SameIn old new run kind other × AllSameIn old new run kinds others
AllSameIn old new run _ _ = ⊥

module _ (old new : List Fact) (run : ℕ) where
  least_moved : (kind other : InStage) (found : Option Event) → SameIn old new run kind other →
      LeastIn old kind run found → LeastIn new other run found
  least_moved kind other None same none = λ stage job event is.
      none stage job event ((same stage job event).1 is)
  least_moved kind other (Some event) same least = record {
    stage = least.stage;
    job = least.job;
    is = (same least.stage least.job event).0 least.is;
    least = λ s j e is. least.least s j e ((same s j e).1 is);
  }

  pub first_moved : (number : ℕ) (all others : List InStage) (found : Found) →
      AllSameIn old new run all others → FirstIn old number all run found →
      FirstIn new number others run found
  first_moved number [] [] found same is = is
  first_moved number [] (other ∷ others) found same is = absurd same
  first_moved number (kind ∷ kinds) [] found same is = absurd same
  first_moved number (kind ∷ kinds) (other ∷ others) found same (inl first) =
      inl (first.0, first.1, least_moved kind other (Some first.0) same.0 first.2)
  first_moved number (kind ∷ kinds) (other ∷ others) found same (inr later) =
      inr (
        least_moved kind other None same.0 later.0,
        first_moved (suc number) kinds others found same.1 later.1,
      )

-- ---- contenders

-- stages of the run of which something holds are those of which something else does, and contend
-- for the same
pub record StillThose (old new : List Fact) (run : ℕ) (P Q : InRun) : Type 0 where
  pub ahead : (told : QueuedRun) (one : PlanStage) (stage : ℕ) → IsStageOf old run stage told one →
      P told one run stage → IsStageOf new run stage told one × Q told one run stage
      × (contender_of new told one run stage ≡ contender_of old told one run stage)
  pub back : (told : QueuedRun) (one : PlanStage) (stage : ℕ) → IsStageOf new run stage told one →
      Q told one run stage → IsStageOf old run stage told one × P told one run stage

module _ (old new : List Fact) (run : ℕ) (P Q : InRun) (still : StillThose old new run P Q) where
  one_moved : (stage : Contender) → IsOne old (OfRun run P) stage → IsOne new (OfRun run Q) stage
  one_moved stage is =
      let told = is.told in
      let one = is.one in
      let at = is.holds.0 in
      let now = still.ahead told one stage.position
      (subst (λ r. IsStageOf old r stage.position told one) at is.there)
      (subst (λ r. P told one r stage.position) at is.holds.1) in
      record {
        told = told;
        one = one;
        there = subst (λ r. IsStageOf new r stage.position told one) (sym at) now.0;
        holds = (at, subst (λ r. Q told one r stage.position) (sym at) now.1);
        is = is.is ∙ subst (λ r. contender_of old told one r stage.position
            ≡ contender_of new told one r stage.position) (sym at) (sym now.2);
      }

  pub those_moved : (stages : List Contender) → AreThose old (OfRun run P) stages →
      AreThose new (OfRun run Q) stages
  those_moved stages those = record {
    ordered = those.ordered;
    only = All-weaker (IsOne old (OfRun run P)) (IsOne new (OfRun run Q)) one_moved stages
        those.only;
    all = λ told one r stage there holds.
        let at = holds.0 in
        let then = still.back told one stage
        (subst (λ x. IsStageOf new x stage told one) at there)
        (subst (λ x. Q told one x stage) at holds.1) in
        those.all told one r stage
        (subst (λ x. IsStageOf old x stage told one) (sym at) then.0)
        (at, subst (λ x. P told one x stage) (sym at) then.1);
  }
