-- What is written of a stage's end, of a taking and of a job's end.
use Rattle.std.specs.Prelude.{ℕ, List, Option}
use Rattle.pl_base.specs.declared.outcome.Outcome.{Outcome}
use Rattle.pl_keeper.specs.declared.records.JobEnd.{JobEnd}
use Rattle.pl_keeper.specs.declared.records.StageEnd.{StageEnd}
use Rattle.pl_keeper.specs.declared.records.Taking.{Taking}
use Rattle.pl_kept.specs.declared.ends.JobEnded.{JobEnded}
use Rattle.pl_kept.specs.declared.ends.JobTaken.{JobTaken}
use Rattle.pl_kept.specs.declared.ends.StageEnded.{StageEnded}

abbrev pub stage_ended : StageEnded → StageEnd
stage_ended told = record {
  moment = told.moment;
  outcome = told.outcome;
  rule = told.rule.rule.now;
}

abbrev pub job_taken : JobTaken → Taking
job_taken told = record { agent = told.agent.now; moment = told.moment }

abbrev pub job_ended : JobEnded → JobEnd
job_ended told = record {
  moment = told.moment;
  outcome = told.outcome;
  rule = told.rule.rule.now;
  reported = told.reported;
  outputs = told.outputs.now;
}
