-- Equality of values, wherever they come from.
use Rattle.std.specs.Prelude.{ℕ, Bool, true, false, ◌&&◌, List, [], ◌∷◌, nat_eq}
use Rattle.std.specs.Ordering.{int_eq}
use Rattle.std.specs.Cmp.Lexicographic.{pointwise}
use Rattle.std.proofs.Math.Bool.{beq}
use Rattle.pl_base.specs.declared.place.FileKey.{FileKey}
use Rattle.pl_base.specs.declared.origin.Origin.{Origin}
use Rattle.pl_base.specs.Places.{place_at}
use Rattle.pl_base.specs.declared.value.Value.{Value, fold-Value, out-Value}
use Rattle.pl_base.specs.declared.value.Value as value
use Rattle.pl_base.specs.declared.value.Value.TheOpen.{Value-F, MarkedNode-F, MarkedPair-F, Null}
use Rattle.pl_base.specs.declared.value.Value.TheOpen.{Bool as Truth, Number, Version, Str, Array}
use Rattle.pl_base.specs.declared.value.Value.TheOpen.{Object}
use Rattle.pl_base.specs.declared.value.MarkedNode.{MarkedNode, fold-MarkedNode}
use Rattle.pl_base.specs.declared.value.MarkedPair.{MarkedPair, fold-MarkedPair}
use Rattle.pl_literal.specs.Items.{Opened}

-- ---- a test for each value: whether another one is alike

-- tests and items, one after the other, and as many of these as of those
abbrev pub all_pass : {X : Type 0} → List (X → Bool) → List X → Bool
all_pass [] [] = true
all_pass [] (x ∷ xs) = false
all_pass (test ∷ tests) [] = false
all_pass (test ∷ tests) (x ∷ xs) = test x && all_pass tests xs

-- values are of one type and the same, texts in each letter
abbrev pub alike_step :
    Value-F (Value → Bool) (MarkedNode → Bool) (MarkedPair → Bool) → Opened → Bool
alike_step Null Null = true
alike_step (Truth left) (Truth right) = beq left right
alike_step (Number left) (Number right) = int_eq left right
alike_step (Version left) (Version right) = pointwise nat_eq left right
alike_step (Str left) (Str right) = pointwise nat_eq left right
alike_step (Array tests) (Array items) = all_pass tests items
alike_step (Object tests) (Object pairs) = all_pass tests pairs
alike_step left right = false

abbrev pub value_test :
    Value-F (Value → Bool) (MarkedNode → Bool) (MarkedPair → Bool) → Value → Bool
value_test left right = alike_step left (out-Value right)

abbrev pub node_test :
    MarkedNode-F (Value → Bool) (MarkedNode → Bool) (MarkedPair → Bool) → MarkedNode → Bool
node_test left right = left.value right.value

abbrev pub pair_test :
    MarkedPair-F (Value → Bool) (MarkedNode → Bool) (MarkedPair → Bool) → MarkedPair → Bool
pair_test left right = pointwise nat_eq left.key right.key && left.item right.item

abbrev pub alike : Value → Value → Bool
alike = fold-Value (Value → Bool) (MarkedNode → Bool) (MarkedPair → Bool) value_test node_test
    pair_test

abbrev pub nodes_alike : MarkedNode → MarkedNode → Bool
nodes_alike = fold-MarkedNode (Value → Bool) (MarkedNode → Bool) (MarkedPair → Bool) value_test
    node_test pair_test

abbrev pub pairs_alike : MarkedPair → MarkedPair → Bool
pairs_alike = fold-MarkedPair (Value → Bool) (MarkedNode → Bool) (MarkedPair → Bool) value_test
    node_test pair_test

-- ---- a value without its origins: each node and each key comes from one place

abbrev pub nowhere : Origin
nowhere = record {
  source = place_at (record { repo = []; git_ref = []; path = [] }) 1 1;
  crossings = [];
}

abbrev pub value_without : Value-F Value MarkedNode MarkedPair → Value
value_without Null = value.Null
value_without (Truth truth) = value.Bool truth
value_without (Number number) = value.Number number
value_without (Version segments) = value.Version segments
value_without (Str text) = value.Str text
value_without (Array items) = value.Array items
value_without (Object pairs) = value.Object pairs

abbrev pub node_without : MarkedNode-F Value MarkedNode MarkedPair → MarkedNode
node_without node = record { origin = nowhere; value = node.value }

abbrev pub pair_without : MarkedPair-F Value MarkedNode MarkedPair → MarkedPair
pair_without pair = record { key = pair.key; key_origin = nowhere; item = pair.item }

abbrev pub without_origins : Value → Value
without_origins = fold-Value Value MarkedNode MarkedPair value_without node_without pair_without
