use Rattle.std.proofs.Common.{◌≡◌, ℕ, ◌+◌, ◌*◌, ◌≤◌, length}
use Rattle.json.specs.Json.{items, members, value, parse_map}
use Rattle.pl_trees.specs.Views.{list_view}
use Rattle.pl_trees.proofs.Lists.{before, members_before}
use Rattle.pl_trees.proofs.reading.+reading.Given as goal

abbrev pub decreases-read_value : goal.decreases-read_value
decreases-read_value l = 3 * l.depth + 1

abbrev pub decreases-value_from : goal.decreases-value_from
decreases-value_from l = 3 * l.depth

abbrev pub decreases-read_item : goal.decreases-read_item
decreases-read_item l = 3 * l.depth + 1

abbrev pub decreases-read_items : goal.decreases-read_items
decreases-read_items l = 3 * l.depth + 2

abbrev pub decreases-read_members : goal.decreases-read_members
decreases-read_members l = 3 * l.depth + 2

abbrev pub invariant-read_items-items : goal.invariant-read_items-items
invariant-read_items-items l =
    (n : ℕ) × (length l.reader ≤ n) ×
    (items (value l.depth) (length l.initial.reader) l.initial.reader ≡
    parse_map (before (list_view l.texts.items l.rest.items)) (items (value l.depth) n l.reader)) ×
    (length l.reader ≤ length l.initial.reader)

abbrev pub decreases-read_items-items : goal.decreases-read_items-items
decreases-read_items-items l = length l.reader

abbrev pub invariant-read_members-members : goal.invariant-read_members-members
invariant-read_members-members l =
    (n : ℕ) × (length l.reader ≤ n) ×
    (members (value l.depth) (length l.initial.reader) l.initial.reader ≡
    parse_map (members_before l.found.items) (members (value l.depth) n l.reader)) ×
    (length l.reader ≤ length l.initial.reader)

abbrev pub decreases-read_members-members : goal.decreases-read_members-members
decreases-read_members-members l = length l.reader
