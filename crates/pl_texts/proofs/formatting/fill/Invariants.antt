use Rattle.std.proofs.Common.{◌≡◌, ◌≤◌, length}
use denote.Text.{Utf8}
use denote.Shadow.{shadow}
use Rattle.pl_texts.specs.Formatting.{filled, prefixed}
use Rattle.pl_texts.proofs.formatting.fill.Given as goal

abbrev pub invariant-loop-rest : goal.invariant-loop-rest
invariant-loop-rest l = record {
  text : shadow (Utf8 l.rest);
  made : filled l.arguments l.pattern ≡ prefixed l.made (filled l.arguments l.rest);
  within : length l.made ≤ 65536;
}

abbrev pub decreases-loop-rest : goal.decreases-loop-rest
decreases-loop-rest l = length l.rest
