use Rattle.std.proofs.Common.{drop, sym}
use Rattle.pl_row_changes.proofs.Behind.{on_err}
use Rattle.pl_step.proofs.Behind.{whole}
use Rattle.pl_step.proofs.entering.enter.Goals as goal

pub returns-in_err-added-clause-err : goal.returns-in_err-added-clause-err
returns-in_err-added-clause-err c =
    let log = c.args.journal.now in
    on_err c.from_residual.result _ (drop log.installed log.facts, sym (whole log))
