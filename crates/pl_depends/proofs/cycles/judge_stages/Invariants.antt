use Rattle.std.proofs.Common.{drop, take, Option}
use Rattle.pl_depends.specs.Cycles.{HaveNoCycle, JobCycles}
use Rattle.pl_depends.specs.Gives.{Fault}
use Rattle.pl_depends.proofs.cycles.judge_stages.Given as goal

abbrev pub invariant-loop-stage : goal.invariant-loop-stage
invariant-loop-stage l = record {
  first : (there_is : Option Fault) → JobCycles (drop l.stage-index l.stages) there_is →
      JobCycles l.stages there_is;
  none : HaveNoCycle (take l.stage-index l.stages);
}
