use Rattle.std.proofs.Common.{◌≡◌, length}
use denote.Shadow.{shadow}
use denote.Text.{Utf8}
use Rattle.pl_expr.specs.Grammar.{unquoted}
use Rattle.pl_expr.proofs.Quotes.{with_front}
use Rattle.pl_expr.proofs.scan.read_quoted.Given as goal

abbrev pub invariant-loop-piece : goal.invariant-loop-piece
invariant-loop-piece l = record {
  text : shadow (Utf8 l.rest);
  reading : with_front l.content (unquoted l.rest) ≡ unquoted l.text;
}

abbrev pub decreases-loop-piece : goal.decreases-loop-piece
decreases-loop-piece l = length l.rest
