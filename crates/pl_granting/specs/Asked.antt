-- A job that code tells, as contracts see it.
use Rattle.std.specs.Prelude.{Option}
use Rattle.std.specs.Option.{option_map}
use Rattle.pl_granting.specs.Named.{JobOf}
use Rattle.pl_granting.specs.declared.job_at.JobAt.{JobAt}

abbrev pub of : JobAt → JobOf
of at = record {
  run = at.run;
  stage = at.stage;
  job = at.job;
  queued = at.queued.now;
  staged = at.staged.now;
  planned = at.planned.now;
}

abbrev pub seen : Option JobAt → Option JobOf
seen found = option_map of found
