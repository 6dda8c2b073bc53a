use Rattle.std.proofs.Common.{◌∙◌}
use Rattle.pl_depends.specs.Graph.{job_graph}
use Rattle.pl_depends.proofs.Within.{cycle_on, graph_by, jobs_are_graph}
use Rattle.pl_depends.proofs.cycles.judge_jobs.Goals as goal

pub cycle_in-requires : goal.cycle_in-requires
cycle_in-requires c = graph_by c.as_slice.result.now (job_graph c.args.jobs.now)
    (c.as_slice.ensures ∙ c.in_ok-graph.ensures) (jobs_are_graph c.args.jobs.now)

pub cycle_fault-requires : goal.cycle_fault-requires
cycle_fault-requires c = cycle_on c.as_slice.result.now c.as_slice-in-Some.result.now
    c.in_ok-graph.graph c.in-Some.nodes c.as_slice-in-Some-2.result.now c.in_ok-cycle_in.field-0
    c.as_slice.ensures c.as_slice-in-Some.ensures c.in-Some.is c.as_slice-in-Some-2.ensures
    c.in_ok-cycle_in.ensures.within
