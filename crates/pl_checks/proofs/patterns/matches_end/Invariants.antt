use Rattle.std.proofs.Common.{◌↔◌, length}
use denote.Text.{Utf8}
use denote.Shadow.{shadow}
use Rattle.pl_checks.specs.Patterns.{MatchesEnd}
use Rattle.pl_checks.proofs.patterns.matches_end.Given as goal

-- what is left of the pattern matches the end of what is left of the text just where the whole does
abbrev pub invariant-loop-piece : goal.invariant-loop-piece
invariant-loop-piece l = record {
  pattern_is_text : shadow (Utf8 l.wanted);
  text_is_text : shadow (Utf8 l.left);
  same : MatchesEnd l.fn.pattern l.fn.text ↔ MatchesEnd l.wanted l.left;
}

abbrev pub decreases-loop-piece : goal.decreases-loop-piece
decreases-loop-piece l = length l.wanted
