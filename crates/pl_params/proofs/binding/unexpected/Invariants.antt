use Rattle.std.proofs.Common.{◌≡◌, find, drop}
use Rattle.std.specs.Prelude.{not}
use Rattle.pl_params.specs.Names.{is_declared}
use Rattle.pl_params.proofs.binding.unexpected.Given as goal

abbrev pub invariant-loop-one : goal.invariant-loop-one
invariant-loop-one l = find (λ one. not (is_declared l.declared one.name)) l.given ≡
    find (λ one. not (is_declared l.declared one.name)) (drop l.one-index l.one-items)
