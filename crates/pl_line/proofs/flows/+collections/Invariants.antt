use Rattle.std.proofs.Common.{◌≡◌, ℕ, ◌+◌, ◌*◌, ◌<◌, [], length}
use Rattle.pl_line.specs.Characters.{all_of}
use Rattle.pl_line.specs.Lines.{row}
use Rattle.pl_line.specs.Left.{behind}
use Rattle.pl_line.specs.Flow.{node, value, pair, entries}
use Rattle.pl_line.proofs.flows.+collections.Given as goal

abbrev pub decreases-collection : goal.decreases-collection
decreases-collection l = 8 * l.depth + 0

abbrev pub decreases-value : goal.decreases-value
decreases-value l = 8 * l.depth + 1

abbrev pub decreases-key : goal.decreases-key
decreases-key l = 8 * l.depth + 1

abbrev pub decreases-item : goal.decreases-item
decreases-item l = 8 * l.depth + 2

abbrev pub decreases-pair : goal.decreases-pair
decreases-pair l = 8 * l.depth + 3

abbrev pub decreases-sequence : goal.decreases-sequence
decreases-sequence l = 8 * l.depth + 4

abbrev pub decreases-mapping : goal.decreases-mapping
decreases-mapping l = 8 * l.depth + 4

abbrev pub invariant-sequence-loop-line : goal.invariant-sequence-loop-line
invariant-sequence-loop-line l =
    (turns : ℕ) × (length (all_of l.line.text) < turns) ×
    (length (all_of l.line.text) < length (all_of l.fn.line.text))
    × (entries 93 (λ _ left. value l.file (node l.file l.depth) left) turns l.items (row l.line)
    ≡ entries 93 (λ _ left. value l.file (node l.file l.depth) left)
    (length (all_of l.fn.line.text)) [] (behind 1 (row l.fn.line)))

abbrev pub decreases-sequence-loop-line : goal.decreases-sequence-loop-line
decreases-sequence-loop-line l = length (all_of l.line.text)

abbrev pub invariant-mapping-loop-pairs : goal.invariant-mapping-loop-pairs
invariant-mapping-loop-pairs l =
    (turns : ℕ) × (length (all_of l.line.text) < turns) ×
    (length (all_of l.line.text) < length (all_of l.fn.line.text))
    × (entries 125 (pair l.file (node l.file l.depth)) turns l.pairs.pairs (row l.line)
    ≡ entries 125 (pair l.file (node l.file l.depth)) (length (all_of l.fn.line.text)) []
    (behind 1 (row l.fn.line)))

abbrev pub decreases-mapping-loop-pairs : goal.decreases-mapping-loop-pairs
decreases-mapping-loop-pairs l = length (all_of l.line.text)
