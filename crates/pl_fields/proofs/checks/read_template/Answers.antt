use Rattle.std.proofs.lemmas.Result.{err_from_is_err_and}
use Rattle.pl_fields.proofs.Guards.{template_misses}
use Rattle.pl_fields.proofs.checks.read_template.Goals as goal

pub returns-in_err-templates : goal.returns-in_err-templates
returns-in_err-templates c =
    let p = err_from_is_err_and c.from_residual.result c.from_residual.ensures.1 in
    rw (p.1, p.2) (template_misses c.args.bytes.now c.in_err-templates.field-0.0
    c.in_err-templates.ensures)
