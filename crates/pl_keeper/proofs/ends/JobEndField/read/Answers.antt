use Rattle.std.proofs.Common.{ℕ, List, Option}
use Rattle.std.proofs.lemmas.Result.{err_from_is_err_and}
use Rattle.pl_keeper.specs.WaysOfParts.{Told}
use Rattle.pl_fields.proofs.Misses.{via_misses}
use Rattle.pl_keeper.specs.declared.records.JobEnd.{JobEnd}
use Rattle.pl_keeper.proofs.ends.JobEndField.read.Goals as goal

pub returns-in_err-moment : goal.returns-in_err-moment
returns-in_err-moment c =
    let p = err_from_is_err_and c.from_residual.result c.from_residual.ensures.1 in
    rw (p.1, p.2) (via_misses {X = JobEnd} {Y = Told}
    (λ told. (told.moment, (told.outcome, (told.rule, (told.reported, told.outputs))))) _ _
    c.args.bytes.now c.in_err-moment.field-0.0
    c.in_err-moment.ensures)
