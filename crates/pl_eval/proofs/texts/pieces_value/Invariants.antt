use Rattle.std.proofs.Common.{◌≡◌, map}
use Rattle.pl_base.specs.declared.value.Value.{Str}
use Rattle.pl_eval.specs.LookUps.{made}
use Rattle.pl_eval.proofs.texts.pieces_value.Given as goal

abbrev pub invariant-loop-piece : goal.invariant-loop-piece
invariant-loop-piece l = l.nodes ≡ map (λ text. made l.here (Str text)) l.yielded
