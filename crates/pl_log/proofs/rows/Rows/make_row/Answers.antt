use Rattle.std.proofs.Common.{refl}
use Rattle.pl_log.specs.Keys.{File, Stage, Job}
use Rattle.pl_log.proofs.rows.Rows.make_row.Goals as goal

pub returns-in-File-clause-same : goal.returns-in-File-clause-same
returns-in-File-clause-same c (File key) = c.make_copied.ensures.same key
returns-in-File-clause-same c _ = refl

pub returns-in-Stage-clause-same : goal.returns-in-Stage-clause-same
returns-in-Stage-clause-same c (Stage run stage) = c.make_row-in-Stage.ensures.same (run, stage)
returns-in-Stage-clause-same c _ = refl

pub returns-in-Stage-clause-ok : goal.returns-in-Stage-clause-ok
returns-in-Stage-clause-ok c = rw c.in-Stage.is c.make_row-in-Stage.ensures.ok

pub returns-in-Job-clause-same : goal.returns-in-Job-clause-same
returns-in-Job-clause-same c (Job run stage job) = c.make_row-in-Job.ensures.same (run, stage, job)
returns-in-Job-clause-same c _ = refl

pub returns-in-Job-clause-ok : goal.returns-in-Job-clause-ok
returns-in-Job-clause-ok c = rw c.in-Job.is c.make_row-in-Job.ensures.ok
