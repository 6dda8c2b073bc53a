use Rattle.pl_depends.proofs.FirstCycles.{goes_on, job_cycle_at, acyclic_at, none_more, none_in_all}
use Rattle.pl_depends.proofs.cycles.judge_stages.Goals as goal

pub loop-stage-preserved : goal.loop-stage-preserved
loop-stage-preserved c =
    let loop = c.loop-stage in
    let item = c.stage-item.result in
    let own = c.in_ok-judge_jobs.ensures in
    record {
      first = goes_on c.args.stages.now loop.stage-index item loop.invariant.first
          c.loop-stage-test.true c.stage-item.is
          (job_cycle_at c.as_slice.result.now item.jobs _ c.as_slice.ensures own.first);
      none = none_more c.args.stages.now loop.stage-index item loop.invariant.none
          c.loop-stage-test.true c.stage-item.is
          (acyclic_at c.as_slice.result.now item.jobs c.as_slice.ensures own.acyclic);
    }

pub returns-clause-acyclic : goal.returns-clause-acyclic
returns-clause-acyclic c = none_in_all c.args.stages.now c.loop-stage.stage-index
    c.loop-stage.invariant.none c.loop-stage-test.false
