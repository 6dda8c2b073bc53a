-- A pipeline has one plan, or one first fault.
use Rattle.std.proofs.Common.{◌≡◌, ℕ, List, [], ◌∷◌, length, Option, Some, None, Result, Ok, Err}
use Rattle.std.proofs.Common.{refl, sym, ap, subst, ◌∙◌, inl, inr}
use Rattle.std.specs.Option.{option_or}
use Rattle.pl_graph.proofs.Walks.{canonical_is_cycle}
use Rattle.pl_graph_laws.proofs.OneCycle.{one_cycle}
use Rattle.pl_graph.specs.Waits.{edges_by}
use Rattle.pl_schema_parts.specs.declared.pipeline.JobSpec.{JobSpec}
use Rattle.pl_schema_parts.specs.declared.pipeline.Pipeline.{Pipeline}
use Rattle.pl_schema_parts.specs.declared.pipeline.StageSpec.{StageSpec}
use Rattle.pl_depends.specs.declared.graph.Waiting.{Waiting}
use Rattle.pl_depends.specs.Cycles.{fault_of, stages_before, FirstCycle, Goes, IsCycleOf, JobCycle}
use Rattle.pl_depends.specs.Cycles.{JobCycles}
use Rattle.pl_depends.specs.Gives.{Fault}
use Rattle.pl_depends.specs.Graph.{waits_of, job_graph, stage_graph}
use Rattle.pl_plan.specs.Plans.{IsPlanOf}
use Rattle.pl_plan.specs.declared.plan.Plan.{Plan}

one_cycle_of : (graph : List Waiting) (f g : Option (List ℕ)) → IsCycleOf graph f →
    IsCycleOf graph g → f ≡ g
one_cycle_of graph None None a b = refl
one_cycle_of graph None (Some c) a b =
    absurd (a.none c (canonical_is_cycle (length graph) (edges_by 0 (waits_of graph)) c b))
one_cycle_of graph (Some c) None a b =
    absurd (b.none c (canonical_is_cycle (length graph) (edges_by 0 (waits_of graph)) c a))
one_cycle_of graph (Some c) (Some d) a b =
    ap (λ (nodes : List ℕ). let found : Option (List ℕ) = Some nodes in found)
    (one_cycle (length graph) (edges_by 0 (waits_of graph)) c d a b)

one_of_jobs : (jobs : List JobSpec) (f g : Option Fault) → JobCycle jobs f → JobCycle jobs g → f ≡ g
one_of_jobs jobs f g a b =
    a.told ∙ (ap (fault_of (job_graph jobs))
    (one_cycle_of (job_graph jobs) a.found b.found a.is b.is)
    ∙ sym b.told)

one_going : (own : Option Fault) (later : Option Fault → Type 0) (f g : Option Fault) →
    (later f → later g → f ≡ g) → Goes own (later f) f → Goes own (later g) g → f ≡ g
one_going None later f g one a b = one a b
one_going (Some fault) later f g one a b = a ∙ sym b

one_of_stages : (stages : List StageSpec) (f g : Option Fault) → JobCycles stages f →
    JobCycles stages g → f ≡ g
one_of_stages [] f g a b = a ∙ sym b
one_of_stages (stage ∷ stages) f g a b =
    let P : Option Fault → Type 0 = λ own. Goes own (JobCycles stages g) g in
    one_going a.0 (JobCycles stages) f g (one_of_stages stages f g) a.2
    (subst P (one_of_jobs stage.jobs b.0 a.0 b.1 a.1) b.2)

one_first : (stages : List StageSpec) (f g : Option Fault) → FirstCycle stages f →
    FirstCycle stages g → f ≡ g
one_first stages f g a b =
    let graph = stage_graph stages in
    let found : a.found ≡ b.found = one_cycle_of graph a.found b.found a.is b.is in
    let P : Option (List ℕ) → Type 0 = λ nodes. JobCycles (stages_before nodes stages) b.of_jobs in
    let jobs : a.of_jobs ≡ b.of_jobs =
    one_of_stages (stages_before a.found stages) a.of_jobs b.of_jobs a.before
    (subst P (sym found) b.before) in
    a.told ∙ (ap (λ (own : Option Fault). option_or own (fault_of graph a.found)) jobs
    ∙ (ap (λ (nodes : Option (List ℕ)). option_or b.of_jobs (fault_of graph nodes)) found
    ∙ sym b.told))

pub one_answer : (pipeline : Pipeline) (r s : Result Plan Fault) → IsPlanOf pipeline r →
    IsPlanOf pipeline s → r ≡ s
one_answer pipeline (Ok left) (Ok right) a b =
    ap (λ (plan : Plan). let made : Result Plan Fault = Ok plan in made) (a.2 ∙ sym b.2)
one_answer pipeline (Ok left) (Err fault) a (inl b) = absurd (let e = sym a.0 ∙ b in cc)
one_answer pipeline (Ok left) (Err fault) a (inr b) =
    absurd (let e = one_first pipeline.stages None (Some fault) a.1 b.1 in cc)
one_answer pipeline (Err fault) (Ok right) (inl a) b = absurd (let e = sym b.0 ∙ a in cc)
one_answer pipeline (Err fault) (Ok right) (inr a) b =
    absurd (let e = one_first pipeline.stages None (Some fault) b.1 a.1 in cc)
one_answer pipeline (Err fault) (Err other) (inl a) (inl b) =
    let e = sym a ∙ b in let same : fault ≡ other = cc in ap (λ (one : Fault). Err one) same
one_answer pipeline (Err fault) (Err other) (inl a) (inr b) = absurd (let e = sym b.0 ∙ a in cc)
one_answer pipeline (Err fault) (Err other) (inr a) (inl b) = absurd (let e = sym a.0 ∙ b in cc)
one_answer pipeline (Err fault) (Err other) (inr a) (inr b) =
    let e = one_first pipeline.stages (Some fault) (Some other) a.1 b.1 in
    let same : fault ≡ other = cc in ap (λ (one : Fault). Err one) same
