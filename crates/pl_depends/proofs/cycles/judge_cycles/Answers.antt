use Rattle.std.proofs.Common.{◌≡◌, ℕ, List, Option, Some, length, ap, sym, subst, ◌∙◌}
use Rattle.std.specs.Prelude.{Result, Err}
use Rattle.std.specs.Option.{option_or}
use Rattle.pl_schema_parts.specs.declared.fault.PlacedFault.{PlacedFault}
use Rattle.pl_schema_parts.specs.declared.fault.PlacedFault.TheVariants.{Refused, Memory}
use Rattle.pl_schema_parts.specs.declared.pipeline.StageSpec.{StageSpec}
use Rattle.pl_depends.specs.declared.fault.PlanCode.{PlanCode}
use Rattle.pl_depends.specs.declared.graph.Waiting.{Waiting}
use Rattle.pl_depends.specs.Cycles.{FirstCycle, IsBefore, IsCycleOf, cycle_fault}
use Rattle.pl_depends.specs.Gives.{FaultIs, Judges}
use Rattle.pl_depends.specs.Graph.{stage_graph}
use Rattle.pl_depends.proofs.Within.{cycle_on, graph_by, stages_are_graph, length_stages}
use Rattle.pl_depends.proofs.cycles.judge_cycles.Goals as goal

pub cycle_in-requires : goal.cycle_in-requires
cycle_in-requires c = graph_by c.as_slice.result.now (stage_graph c.args.stages.now)
    (c.as_slice.ensures ∙ c.in_ok-graph.ensures) (stages_are_graph c.args.stages.now)

pub fault_before-requires-clause-on : goal.fault_before-requires-clause-on
fault_before-requires-clause-on c = cycle_on c.as_slice.result.now c.as_slice-in-Some.result.now
    c.in_ok-graph.graph c.in-Some.nodes c.as_slice-in-Some-2.result.now c.in_ok-cycle_in.field-0
    c.as_slice.ensures c.as_slice-in-Some.ensures c.in-Some.is c.as_slice-in-Some-2.ensures
    c.in_ok-cycle_in.ensures.within

pub fault_before-requires-clause-len : goal.fault_before-requires-clause-len
fault_before-requires-clause-len c =
    ap length (c.as_slice-in-Some.ensures ∙ c.in_ok-graph.ensures)
    ∙ length_stages c.args.stages.now

-- the fault of a cycle of stages, or of jobs before it, is that of the first cycle
first_at : (U : Type 0) (stages : List StageSpec) (graph : List Waiting) (found : Option (List ℕ))
    (nodes : List ℕ) (fault : PlacedFault PlanCode) → graph ≡ stage_graph stages →
    found ≡ Some nodes → IsCycleOf (stage_graph stages) found →
    FaultIs fault (IsBefore stages graph nodes) →
    (let answer : Result U (PlacedFault PlanCode) = Err fault in Judges answer (FirstCycle stages))
first_at U stages graph found nodes Memory here is cycle before = tt
first_at U stages graph found nodes (Refused code place) here is cycle before =
    let On : Option (List ℕ) → Type 0 = λ some. IsCycleOf (stage_graph stages) some in
    record {
      found = Some nodes;
      is = subst On is cycle;
      of_jobs = before.of_jobs;
      before = before.before;
      told = before.told ∙ ap (λ graph. option_or before.of_jobs (cycle_fault graph nodes)) here;
    }

pub returns-clause-first : goal.returns-clause-first
returns-clause-first c =
    let Of : List Waiting → Type 0 = λ graph. IsCycleOf graph c.in_ok-cycle_in.field-0 in
    first_at (Unit {0}) c.args.stages.now c.as_slice-in-Some.result.now c.in_ok-cycle_in.field-0
    c.as_slice-in-Some-2.result.now c.fault_before.result
    (c.as_slice-in-Some.ensures ∙ c.in_ok-graph.ensures)
    (c.in-Some.is ∙ ap Some (sym c.as_slice-in-Some-2.ensures))
    (subst Of (c.as_slice.ensures ∙ c.in_ok-graph.ensures) c.in_ok-cycle_in.ensures.is)
    c.fault_before.ensures
