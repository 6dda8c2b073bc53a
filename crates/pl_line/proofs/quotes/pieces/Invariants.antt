use Rattle.std.proofs.Common.{◌≡◌, ℕ, ◌+◌, ◌<◌, ◌≤◌, [], length, drop}
use Rattle.std.specs.Prelude.{string_bytes}
use Rattle.pl_line.specs.Characters.{all_of}
use Rattle.pl_line.specs.Lines.{row}
use Rattle.pl_line.specs.Quoted.{pieces_of}
use Rattle.pl_line.proofs.quotes.pieces.Given as goal

abbrev pub invariant-loop-character : goal.invariant-loop-character
invariant-loop-character l =
    (turns : ℕ) × (length (all_of l.line.text) < l.len + turns) × (1 ≤ l.len) ×
    (l.len + length (all_of l.rest) ≡ length (all_of l.line.text))
    × (all_of l.rest ≡ drop l.len (all_of l.line.text))
    × (pieces_of l.style (row l.line) turns (string_bytes l.text) l.len ≡
    pieces_of l.style (row l.line) (length (all_of l.line.text)) [] 1)

abbrev pub decreases-loop-character : goal.decreases-loop-character
decreases-loop-character l = length (all_of l.rest)
