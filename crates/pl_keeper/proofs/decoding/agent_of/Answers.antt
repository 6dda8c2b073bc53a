use Rattle.std.proofs.lemmas.Result.{err_from_is_err_and}
use Rattle.pl_fields.specs.Fields.{IsText, text}
use Rattle.pl_keeper.proofs.Tables.{IsAgentBody, agent_body, agent_parts, misses}
use Rattle.pl_keeper.proofs.decoding.agent_of.Goals as goal

pub returns-in_err-name : goal.returns-in_err-name
returns-in_err-name c =
    let p = err_from_is_err_and c.from_residual.result c.from_residual.ensures.1 in
    rw (p.1, p.2) (misses text IsText agent_body IsAgentBody 5 c.args.row.now
    (agent_parts c.args.row.now) c.in_err-name.field-0.0
    c.in_err-name.ensures.torn)
