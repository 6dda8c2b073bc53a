use Rattle.std.proofs.Common.{◌≡◌, ◌+◌, ◌-◌, ◌*◌, ◌≤◌, [], length}
use denote.Shadow.{shadow}
use denote.Text.{Utf8}
use Rattle.pl_expr.specs.Grammar.{inner_of, arguments_at, tails_at}
use Rattle.pl_expr.proofs.Reading.{Continues}
use Rattle.pl_expr.proofs.parser.+parser.Given as goal

abbrev pub decreases-read_text : goal.decreases-read_text
decreases-read_text l = 8 * l.depth + 7

abbrev pub decreases-read_primary : goal.decreases-read_primary
decreases-read_primary l = 8 * l.depth + 6

abbrev pub decreases-read_word : goal.decreases-read_word
decreases-read_word l = 8 * l.depth + 5

abbrev pub decreases-read_call : goal.decreases-read_call
decreases-read_call l = 8 * l.depth + 4

abbrev pub decreases-read_arguments : goal.decreases-read_arguments
decreases-read_arguments l = 8 * l.depth + 3

abbrev pub decreases-read_tails : goal.decreases-read_tails
decreases-read_tails l = 8 * l.depth + 6

abbrev pub decreases-read_tail : goal.decreases-read_tail
decreases-read_tail l = 8 * l.depth + 5

abbrev pub decreases-read_index : goal.decreases-read_index
decreases-read_index l = 8 * l.depth + 4

abbrev pub invariant-read_arguments-loop-turn : goal.invariant-read_arguments-loop-turn
invariant-read_arguments-loop-turn l = record {
  text : shadow (Utf8 l.rest);
  reading : arguments_at (inner_of l.mode l.depth) l.function (length l.text - l._turn)
      l.arguments.list l.rest ≡ arguments_at (inner_of l.mode l.depth) l.function (length l.text) []
      l.text;
  within : l.arguments.depth + 1 ≤ l.depth;
}

abbrev pub invariant-read_tails-tails : goal.invariant-read_tails-tails
invariant-read_tails-tails l = record {
  text : shadow (Utf8 l.rest);
  reading : Continues (inner_of l.mode l.depth) l.depth l.tree.expr l.rest
      (tails_at (inner_of l.mode l.depth) l.depth l.depth l.fn.tree.expr l.text);
  within : l.tree.depth ≤ l.depth;
}

abbrev pub decreases-read_tails-tails : goal.decreases-read_tails-tails
decreases-read_tails-tails l = l.depth - l.tree.depth
