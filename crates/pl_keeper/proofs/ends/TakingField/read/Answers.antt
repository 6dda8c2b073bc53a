use Rattle.std.proofs.Common.{ℕ, List, Option}
use Rattle.std.proofs.lemmas.Result.{err_from_is_err_and}
use Rattle.pl_fields.proofs.Misses.{via_misses}
use Rattle.pl_keeper.specs.declared.records.Taking.{Taking}
use Rattle.pl_keeper.proofs.ends.TakingField.read.Goals as goal

pub returns-in_err-agent : goal.returns-in_err-agent
returns-in_err-agent c =
    let p = err_from_is_err_and c.from_residual.result c.from_residual.ensures.1 in
    rw (p.1, p.2) (via_misses {X = Taking} {Y = List ℕ × ℕ} (λ told. (told.agent, told.moment)) _ _
    c.args.bytes.now c.in_err-agent.field-0.0
    c.in_err-agent.ensures)
