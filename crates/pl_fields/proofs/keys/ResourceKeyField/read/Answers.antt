use Rattle.std.proofs.Common.{ℕ, List}
use Rattle.std.proofs.lemmas.Result.{err_from_is_err_and}
use Rattle.pl_base.specs.declared.resource.Kind.{Kind}
use Rattle.pl_base.specs.declared.resource.ResourceKey.{ResourceKey}
use Rattle.pl_fields.proofs.Misses.{via_misses}
use Rattle.pl_fields.proofs.keys.ResourceKeyField.read.Goals as goal

pub returns-in_err-kind : goal.returns-in_err-kind
returns-in_err-kind c =
    let p = err_from_is_err_and c.from_residual.result c.from_residual.ensures.1 in
    rw (p.1, p.2) (via_misses {X = ResourceKey} {Y = Kind × List ℕ} (λ key. (key.kind, key.name)) _
    _
    c.args.bytes.now c.in_err-kind.field-0.0 c.in_err-kind.ensures)
