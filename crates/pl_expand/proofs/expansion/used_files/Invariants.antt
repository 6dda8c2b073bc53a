use Rattle.std.proofs.Common.{◌≡◌, ◌∷◌}
use Rattle.std.specs.Prelude.{filter, not}
use Rattle.pl_calls.specs.Reaching.{same_file}
use Rattle.pl_expand.proofs.expansion.used_files.Given as goal

abbrev pub invariant-loop-key : goal.invariant-loop-key
invariant-loop-key l =
    l.all ≡ l.root ∷ filter (λ key. not (same_file key l.root)) l.yielded
