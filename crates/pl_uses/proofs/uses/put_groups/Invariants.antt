use Rattle.std.proofs.Common.{◌≡◌, drop}
use Rattle.pl_base.specs.declared.resource.Kind.TheVariants.{Group}
use Rattle.pl_uses.specs.Uses.{kept, put_all, uses_by}
use Rattle.pl_uses.proofs.uses.put_groups.Given as goal

abbrev pub invariant-loop-group : goal.invariant-loop-group
invariant-loop-group l = put_all (kept l.uses) (uses_by Group (drop l.group-index l.groups)) ≡
    put_all (kept l.initial.uses) (uses_by Group l.groups)
