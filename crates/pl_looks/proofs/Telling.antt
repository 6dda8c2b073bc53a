-- What is told of the jobs of stages, one after the other.
use Rattle.std.proofs.Common.{◌≡◌, ◌+◌, ◌++◌, ℕ, zero, suc, List, [], ◌∷◌, Option, Some, None, refl}
use Rattle.std.proofs.Common.{sym, ap, ◌∙◌, arith, slice_get}
use Rattle.std.specs.List.{cons_option, filter_map, range_with_len}
use Rattle.std.specs.Option.{option_and_then, option_map_or, option_to_list}
use Rattle.std.specs.Prelude.{if◌then◌else◌}
use Rattle.std.proofs.lemmas.List.{append_assoc, append-nil}
use Rattle.std.proofs.lemmas.List.Elements.{filter_map-append}
use Rattle.pl_due.specs.Below.pl_journal.specs.Runs.{queueing, run_told}
use Rattle.pl_due.specs.Below.pl_journal.specs.Settings.{by}
use Rattle.pl_facts.specs.declared.fact.Fact.{Fact}
use Rattle.pl_facts.specs.declared.fact.QueuedRun.{QueuedRun}
use Rattle.pl_facts.specs.Below.pl_plan.specs.declared.plan.PlanJob.{PlanJob}
use Rattle.pl_facts.specs.Below.pl_plan.specs.declared.plan.PlanStage.{PlanStage}
use Rattle.pl_due.specs.Nodes.{awaits_agent}
use Rattle.pl_looks.specs.Jobs.{Telling, of_place, of_stage, ready_job}
use Rattle.pl_looks.specs.declared.types.ReadyJob.{ReadyJob}

range_more : (a n : ℕ) → range_with_len a (suc n) ≡ range_with_len a n ++ (a + n) ∷ []
range_more a zero = ap (λ k. k ∷ []) (omega arith)
range_more a (suc n) = ap (λ l. a ∷ l) (range_more (a + 1) n
    ∙ ap (λ k. range_with_len (a + 1) n ++ k ∷ []) (omega arith))

next_range : (n : ℕ) → range_with_len 0 (n + 1) ≡ range_with_len 0 n ++ n ∷ []
next_range n =
    let next : n + 1 ≡ suc n = omega arith in
    let same : 0 + n ≡ n = omega arith in
    ap (range_with_len 0) next ∙ range_more 0 n ∙ ap (λ k. range_with_len 0 n ++ k ∷ []) same

one_told : {X : Type 0} (told : Option X) → cons_option told [] ≡ option_to_list told
one_told None = refl
one_told (Some x) = refl

-- one job more
pub told_more : {X : Type 0} (h : ℕ → Option X) (n : ℕ) (before old new : List X) →
    old ≡ before ++ filter_map h (range_with_len 0 n) → new ≡ old ++ option_to_list (h n) →
    new ≡ before ++ filter_map h (range_with_len 0 (n + 1))
told_more h n before old new so_far grown =
    let here : filter_map h (range_with_len 0 (n + 1))
    ≡ filter_map h (range_with_len 0 n) ++ option_to_list (h n) =
    ap (filter_map h) (next_range n) ∙ filter_map-append h (range_with_len 0 n) (n ∷ [])
    ∙ ap (λ last. filter_map h (range_with_len 0 n) ++ last) (one_told (h n)) in
    grown ∙ ap (λ front. front ++ option_to_list (h n)) so_far
    ∙ append_assoc before (filter_map h (range_with_len 0 n)) (option_to_list (h n))
    ∙ ap (λ all. before ++ all) (sym here)

-- the stage at a place
module _ {X : Type 0} (telling : Telling X) (facts : List Fact) (run stage : ℕ) where
  abbrev of_told : Option QueuedRun → List X
  of_told queued = option_map_or (λ (told : QueuedRun). option_map_or
      (λ (one : PlanStage). of_stage telling facts one run stage)
      (slice_get told.compiled.plan.stages stage) []) queued []

  pub place_told : (told : QueuedRun) (one : PlanStage) →
      by run_told (queueing run facts) ≡ Some told →
      slice_get told.compiled.plan.stages stage ≡ Some one →
      of_place telling facts run stage ≡ of_stage telling facts one run stage
  place_told told one queued planned = ap of_told queued
      ∙ ap (λ (o : Option PlanStage). option_map_or
      (λ (p : PlanStage). of_stage telling facts p run stage) o []) planned

  pub place_none : (told : QueuedRun) (items : List X) →
      by run_told (queueing run facts) ≡ Some told →
      slice_get told.compiled.plan.stages stage ≡ None →
      items ≡ items ++ of_place telling facts run stage
  place_none told items queued none = sym (append-nil items)
      ∙ ap (λ more. items ++ more) (sym (ap of_told queued
      ∙ ap (λ (o : Option PlanStage). option_map_or
      (λ (p : PlanStage). of_stage telling facts p run stage) o []) none))

  pub place_lacks : (items : List X) → by run_told (queueing run facts) ≡ None →
      items ≡ items ++ of_place telling facts run stage
  place_lacks items none =
      sym (append-nil items) ∙ ap (λ more. items ++ more) (sym (ap of_told none))

-- a job that waits for an agent, by what the plan says of it
module _ (facts : List Fact) (one : PlanStage) (run stage job : ℕ) where
  abbrev ready_by : Option PlanJob → Option ReadyJob
  ready_by planned = option_and_then (λ (p : PlanJob). if awaits_agent one run stage job facts
      then Some (record { pool = p.pool; stage = stage; job = job }) else None) planned

  pub ready_is : (planned : PlanJob) → slice_get one.jobs job ≡ Some planned →
      ready_job facts one run stage job ≡ ready_by (Some planned)
  ready_is planned is = ap ready_by is

  pub ready_none : slice_get one.jobs job ≡ None → ready_job facts one run stage job ≡ None
  ready_none is = ap ready_by is
