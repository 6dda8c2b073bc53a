use Rattle.std.proofs.Common.{◌≡◌, length, is_some}
use denote.Text.{Utf8}
use denote.Shadow.{shadow}
use Rattle.pl_texts.specs.Formatting.{filled}
use Rattle.pl_texts.proofs.formatting.is_pattern.Given as goal

abbrev pub invariant-loop-rest : goal.invariant-loop-rest
invariant-loop-rest l = record {
  text : shadow (Utf8 l.rest);
  same : is_some (filled l.arguments l.pattern) ≡ is_some (filled l.arguments l.rest);
}

abbrev pub decreases-loop-rest : goal.decreases-loop-rest
decreases-loop-rest l = length l.rest
