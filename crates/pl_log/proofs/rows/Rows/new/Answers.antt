use Rattle.pl_log.specs.Keys.{File, Pipeline, Resource, Principal, Agent, Run, Stage, Job}
use Rattle.pl_log.proofs.rows.Rows.new.Goals as goal

pub returns : goal.returns
returns c (File key) = c.new.ensures key
returns c (Pipeline name) = c.new-2.ensures name
returns c (Resource key) = c.new-3.ensures key
returns c (Principal name) = c.new-4.ensures name
returns c (Agent name) = c.new-5.ensures name
returns c (Run run) = c.new-6.ensures run
returns c (Stage run stage) = c.new-7.ensures (run, stage)
returns c (Job run stage job) = c.new-8.ensures (run, stage, job)
