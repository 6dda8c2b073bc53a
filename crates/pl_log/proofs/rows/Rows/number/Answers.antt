use Rattle.std.proofs.Common.{◌∙◌, ap, sym}
use Rattle.pl_log.specs.Keys.{seen}
use Rattle.pl_log.specs.Rows.{number_at}
use Rattle.pl_log.proofs.rows.Rows.number.Goals as goal

pub returns-in-Stage : goal.returns-in-Stage
returns-in-Stage c = c.number-in-Stage.ensures
    ∙ ap (λ key. number_at c.args.self.now (seen key)) (sym c.in-Stage.is)

pub returns-in-Job : goal.returns-in-Job
returns-in-Job c = c.number-in-Job.ensures
    ∙ ap (λ key. number_at c.args.self.now (seen key)) (sym c.in-Job.is)
