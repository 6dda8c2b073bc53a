use Rattle.std.proofs.Common.{◌∙◌, refl, ap}
use Rattle.std.specs.Prelude.{cond}
use Rattle.pl_log.specs.Keys.{Run, Stage, Job}
use Rattle.pl_log.specs.Rows.{number_at}
use Rattle.pl_log.proofs.Naming.{run_eq, stage_eq, job_eq}
use Rattle.pl_log.proofs.rows.Rows.set.Goals as goal

pub returns-in-Run : goal.returns-in-Run
returns-in-Run c (Run run) = rw c.in-Run.is (c.set-in-Run.ensures run
    ∙ ap (λ same. cond same c.args.number (number_at c.args.self.now (Run run)))
    (run_eq c.in-Run.run' run))
returns-in-Run c _ = rw c.in-Run.is refl

pub returns-in-Stage : goal.returns-in-Stage
returns-in-Stage c (Stage run stage) = rw c.in-Stage.is (c.set-in-Stage.ensures (run, stage)
    ∙ ap (λ same. cond same c.args.number (number_at c.args.self.now (Stage run stage)))
    (stage_eq (c.in-Stage.run', c.in-Stage.stage) (run, stage)))
returns-in-Stage c _ = rw c.in-Stage.is refl

pub returns-in-Job : goal.returns-in-Job
returns-in-Job c (Job run stage job) = rw c.in-Job.is (c.set-in-Job.ensures (run, stage, job)
    ∙ ap (λ same. cond same c.args.number (number_at c.args.self.now (Job run stage job)))
    (job_eq (c.in-Job.run', c.in-Job.stage, c.in-Job.job) (run, stage, job)))
returns-in-Job c _ = rw c.in-Job.is refl
