use Rattle.std.proofs.lemmas.Result.{err_from_is_err_and}
use Rattle.pl_keeper.proofs.Tables.{IsStageBody, IsStageKey, misses, stage_body, stage_key}
use Rattle.pl_keeper.proofs.Tables.{stage_parts}
use Rattle.pl_keeper.proofs.decoding.stage_of.Goals as goal

pub returns-in_err-run : goal.returns-in_err-run
returns-in_err-run c =
    let p = err_from_is_err_and c.from_residual.result c.from_residual.ensures.1 in
    rw (p.1, p.2) (misses stage_key IsStageKey stage_body IsStageBody 7 c.args.row.now
    (stage_parts c.args.row.now) c.in_err-run.field-0.0
    c.in_err-run.ensures.torn)
