-- Counting a tree's nodes down from the most that there may be.
use Rattle.std.specs.Prelude.{ℕ, ◌-◌, Option, Some, None, nat_le, if◌then◌else◌}
use Rattle.pl_base.specs.declared.value.Value.{Value, fold-Value}
use Rattle.pl_base.specs.declared.value.MarkedPair.{MarkedPair, fold-MarkedPair}
use Rattle.pl_frame.specs.Trees.{nodes_below, nodes_step, nodes_pair}

-- the number of nodes below a value, and in the value of a pair
abbrev pub nodes_in_value : Value → ℕ
nodes_in_value = fold-Value ℕ ℕ ℕ nodes_below nodes_step nodes_pair

abbrev pub nodes_in_pair : MarkedPair → ℕ
nodes_in_pair = fold-MarkedPair ℕ ℕ ℕ nodes_below nodes_step nodes_pair

-- what is left of so many, where there are enough
abbrev pub left_of : ℕ → ℕ → Option ℕ
left_of left count = if nat_le count left then Some (left - count) else None
