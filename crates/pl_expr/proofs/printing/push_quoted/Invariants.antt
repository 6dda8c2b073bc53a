use Rattle.std.proofs.Common.{◌≡◌, ◌++◌, length}
use denote.Shadow.{shadow}
use denote.Text.{Utf8}
use Rattle.pl_expr.specs.Trees.{quoted}
use Rattle.pl_expr.proofs.printing.push_quoted.Given as goal

abbrev pub invariant-loop-piece : goal.invariant-loop-piece
invariant-loop-piece l = record {
  utf8 : shadow (Utf8 l.rest);
  writing : l.text ++ quoted l.rest ≡ l.fn.text ++ quoted l.content;
}

abbrev pub decreases-loop-piece : goal.decreases-loop-piece
decreases-loop-piece l = length l.rest
