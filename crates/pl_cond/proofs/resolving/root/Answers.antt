use Rattle.std.proofs.Common.{refl}
use Rattle.pl_cond.proofs.Resolved.{resolved_root, root_gone}
use Rattle.pl_cond.proofs.resolving.root.Goals as goal

pub returns-in_ok-copy-in-None : goal.returns-in_ok-copy-in-None
returns-in_ok-copy-in-None c =
    resolved_root c.args.context.now c.args.variables.now c.in_ok-copy-in-None.field-0
    c.args.name.now c.in_ok-copy-in-None.ensures
    (root_gone c.args.context.now c.args.variables.now c.args.name.now _ _ c.in_ok-value.ensures
    c.in-None.is refl)
