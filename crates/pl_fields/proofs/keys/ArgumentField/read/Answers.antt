use Rattle.std.proofs.Common.{ℕ, List}
use Rattle.std.proofs.lemmas.Result.{err_from_is_err_and}
use Rattle.pl_base.specs.declared.expanded.Argument.{Argument}
use Rattle.pl_fields.proofs.Misses.{via_misses}
use Rattle.pl_fields.proofs.keys.ArgumentField.read.Goals as goal

pub returns-in_err-name : goal.returns-in_err-name
returns-in_err-name c =
    let p = err_from_is_err_and c.from_residual.result c.from_residual.ensures.1 in
    rw (p.1, p.2) (via_misses {X = Argument} {Y = List ℕ × List ℕ}
    (λ given. (given.name, given.text)) _ _ c.args.bytes.now c.in_err-name.field-0.0
    c.in_err-name.ensures)
