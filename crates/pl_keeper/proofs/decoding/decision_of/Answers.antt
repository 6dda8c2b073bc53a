use Rattle.std.proofs.lemmas.Result.{err_from_is_err_and}
use Rattle.pl_keeper.proofs.Tables.{IsDecisionBody, IsDecisionKey, decision_body, decision_key}
use Rattle.pl_keeper.proofs.Tables.{decision_parts, misses}
use Rattle.pl_keeper.proofs.decoding.decision_of.Goals as goal

pub returns-in_err-run : goal.returns-in_err-run
returns-in_err-run c =
    let p = err_from_is_err_and c.from_residual.result c.from_residual.ensures.1 in
    rw (p.1, p.2) (misses decision_key IsDecisionKey decision_body IsDecisionBody 9 c.args.row.now
    (decision_parts c.args.row.now) c.in_err-run.field-0.0
    c.in_err-run.ensures.torn)
