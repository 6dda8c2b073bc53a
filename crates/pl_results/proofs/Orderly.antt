-- What holds of a plan that can run.
use Rattle.std.proofs.Common.{◌≡◌, ℕ, zero, suc, ◌<◌, List, [], ◌∷◌, length, Result, Ok, Err, subst}
use Rattle.std.proofs.Common.{sym}
use Rattle.std.proofs.Common.{arith}
use Rattle.std.specs.Prelude.{All, IfOk, slice_get}
use Rattle.std.specs.List.{AllByRecursion}
use Rattle.std.specs.Option.{option_map_or}
use Rattle.std.proofs.lemmas.List.Elements.{recursion_from_All}
use Rattle.pl_graph.specs.Graph.{AreAncestors, AreEdges}
use Rattle.pl_graph.specs.Waits.{edges_by}
use Rattle.pl_plan.specs.Laws.{IsOrderly, waits_of_jobs}
use Rattle.pl_plan.specs.declared.plan.Plan.{Plan}
use Rattle.pl_plan.specs.declared.plan.PlanJob.{PlanJob}
use Rattle.pl_plan.specs.declared.plan.PlanStage.{PlanStage}
use Rattle.pl_results.specs.declared.members.PlanNode.{PlanNode}
use Rattle.pl_results.specs.declared.members.PlanNode.TheVariants.{Job}
use Rattle.pl_results.specs.Nodes.{CanRun, IsNodeOf, jobs_of}
use Rattle.pl_results.specs.Transitive.{transitive}
use Rattle.pl_results.proofs.Transitivity.{ancestors_are}

at_stage : (P : List PlanJob → Type 0) (stages : List PlanStage) (at : ℕ) → at < length stages →
    AllByRecursion (λ stage. P stage.jobs) stages →
    P (option_map_or (λ one. one.jobs) (slice_get stages at) [])
at_stage P [] at within all = absurd (omega (arith, within))
at_stage P (stage ∷ stages) zero within all = all.0
at_stage P (stage ∷ stages) (suc at) within all =
    at_stage P stages at (omega (arith, within)) all.1

pub jobs_orderly : (plan : Plan) (node : PlanNode) (stage job : ℕ) (jobs : List PlanJob) →
    CanRun plan → IsNodeOf plan node → node ≡ Job stage job → jobs ≡ jobs_of plan stage →
    IsOrderly (waits_of_jobs jobs)
jobs_orderly plan node stage job jobs runs within is same =
    let inside = subst (IsNodeOf plan) is within in
    let P : List PlanJob → Type 0 = λ js. IsOrderly (waits_of_jobs js) in
    subst P (sym same) (at_stage P plan.stages stage inside.0
    (recursion_from_All (λ (one : PlanStage). P one.jobs) plan.stages runs.sound.jobs))

pub found_all : {E : Type 0} (r : Result (List ℕ) E) (waits : List (List ℕ)) (edges : List (ℕ × ℕ))
    (at : ℕ) → edges ≡ edges_by 0 waits → AreEdges (length waits) (edges_by 0 waits) →
    IfOk r (λ nodes. AreAncestors edges at nodes) →
    IfOk r (λ nodes. nodes ≡ transitive waits at)
found_all (Ok nodes) waits edges at is are found =
    ancestors_are waits at nodes are (subst (λ es. AreAncestors es at nodes) is found)
found_all (Err fault) waits edges at is are found = tt
