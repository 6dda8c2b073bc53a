use Rattle.std.proofs.Common.{◌≡◌, length}
use denote.Text.{Utf8}
use denote.Shadow.{shadow}
use Rattle.pl_template.specs.Cutting.{pieces_of}
use Rattle.pl_template.specs.Splitting.{prefixed}
use Rattle.pl_template.proofs.cutting.pieces_of.Given as goal

abbrev pub invariant-loop-front : goal.invariant-loop-front
invariant-loop-front l = record {
  text : shadow (Utf8 l.rest);
  made : pieces_of l.text ≡ prefixed l.pieces (pieces_of l.rest);
}

abbrev pub decreases-loop-front : goal.decreases-loop-front
decreases-loop-front l = length l.rest
