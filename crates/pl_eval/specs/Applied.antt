-- What functions make of their arguments' values (Microsoft Learn, Azure Pipelines, "Expressions",
-- Functions).
use Rattle.std.specs.Prelude.{ℕ, Bool, true, false, not, List, length, drop, map, slice_get, Option}
use Rattle.std.specs.Prelude.{Some, None, Result, Ok, Err, pos}
use Rattle.std.specs.Option.{option_map_or}
use Rattle.std.specs.List.{list_any}
use Rattle.std.specs.Str.{chars}
use Rattle.std.specs.Ordering.{is_lt, is_le, is_gt, is_ge}
use Rattle.std.specs.declared.cmp.Ordering.{Ordering}
use Rattle.pl_base.specs.declared.origin.Origin.{Origin}
use Rattle.pl_base.specs.declared.value.Value.{Value, Null, Bool as Truth, Number, out-Value}
use Rattle.pl_base.specs.declared.value.Value.TheOpen as layer
use Rattle.pl_base.specs.declared.value.MarkedNode.{MarkedNode}
use Rattle.pl_expr.specs.Conversions.{bool_of, cast_text, order_of, equals}
use Rattle.pl_texts.specs.Matching.{begins, ends, holds}
use Rattle.pl_eval.specs.Texts.{searched, lower_of, upper_of, trim_of, join_of, split_of}
use Rattle.pl_eval.specs.Texts.{replace_of, format_of}
use Rattle.pl_eval.specs.LookUps.{Opened}
use Rattle.pl_reading.specs.Steps.{◌>>=◌}
use Rattle.pl_eval.specs.declared.fault.EvalCode.{EvalCode}
use Rattle.pl_eval.specs.declared.fault.EvalCode.TheVariants.{NotConvertible, NoLength}
use Rattle.pl_eval.specs.declared.manner.BinaryFunction.{BinaryFunction}
use Rattle.pl_eval.specs.declared.manner.BinaryFunction.TheVariants.{Xor, Eq, Ne, Lt, Le, Gt, Ge}
use Rattle.pl_eval.specs.declared.manner.BinaryFunction.TheVariants.{Contains, StartsWith, EndsWith}
use Rattle.pl_eval.specs.declared.manner.BinaryFunction.TheVariants.{ContainsValue, Join, Split}
use Rattle.pl_eval.specs.declared.manner.Operation.{Operation}
use Rattle.pl_eval.specs.declared.manner.Operation.TheVariants.{One, Two, Replace, Format}
use Rattle.pl_eval.specs.declared.manner.UnaryFunction.{UnaryFunction}
use Rattle.pl_eval.specs.declared.manner.UnaryFunction.TheVariants.{Not, Length, Lower, Upper, Trim}

-- how many scalar values a text has, or items an array
abbrev pub length_in : Opened → Result Value EvalCode
length_in (layer.Str text) = Ok (Number (pos (length (chars text))))
length_in (layer.Array items) = Ok (Number (pos (length items)))
length_in value = Err NoLength

abbrev pub length_of : Value → Result Value EvalCode
length_of value = length_in (out-Value value)

-- whether an item or a property value is equal to the value that is sought, which is on the left
abbrev pub value_in : Opened → Value → Bool
value_in (layer.Array items) sought = list_any (λ item. equals sought item.value) items
value_in (layer.Object pairs) sought = list_any (λ pair. equals sought pair.item.value) pairs
value_in value sought = false

abbrev pub holds_value : Value → Value → Bool
holds_value of sought = value_in (out-Value of) sought

-- whether just one of the two is true
abbrev pub differ : Bool → Bool → Bool
differ true right = not right
differ false right = right

-- the order of two values, which must have one
abbrev pub ordered_by : Option Ordering → Result Ordering EvalCode
ordered_by None = Err NotConvertible
ordered_by (Some order) = Ok order

abbrev pub ordered : Value → Value → Result Ordering EvalCode
ordered left right = ordered_by (order_of left right)

abbrev pub compared : (Ordering → Bool) → Value → Value → Result Value EvalCode
compared test left right = ordered left right >>= λ order. Ok (Truth (test order))

-- the functions of one argument
abbrev pub of_one : UnaryFunction → Value → Result Value EvalCode
of_one Not value = Ok (Truth (not (bool_of value)))
of_one Length value = length_of value
of_one Lower value = lower_of value
of_one Upper value = upper_of value
of_one Trim value = trim_of value

-- the functions of two arguments
abbrev pub of_two : Origin → BinaryFunction → Value → Value → Result Value EvalCode
of_two here Xor left right = Ok (Truth (differ (bool_of left) (bool_of right)))
of_two here Eq left right = Ok (Truth (equals left right))
of_two here Ne left right = Ok (Truth (not (equals left right)))
of_two here Lt left right = compared is_lt left right
of_two here Le left right = compared is_le left right
of_two here Gt left right = compared is_gt left right
of_two here Ge left right = compared is_ge left right
of_two here Contains text sought = Ok (Truth (searched holds text sought))
of_two here StartsWith text sought = Ok (Truth (searched begins text sought))
of_two here EndsWith text sought = Ok (Truth (searched ends text sought))
of_two here ContainsValue of sought = Ok (Truth (holds_value of sought))
of_two here Join separator value = join_of separator value
of_two here Split text separators = split_of here text separators

-- the value at a place from 0; a missing one is Null
abbrev pub value_at : List MarkedNode → ℕ → Value
value_at nodes at = option_map_or (λ node. node.value) (slice_get nodes at) Null

-- a function that looks at the values of all its arguments
abbrev pub applied : Origin → Operation → List MarkedNode → Result Value EvalCode
applied here (One function) nodes = of_one function (value_at nodes 0)
applied here (Two function) nodes = of_two here function (value_at nodes 0) (value_at nodes 1)
applied here Replace nodes = replace_of (value_at nodes 0) (value_at nodes 1) (value_at nodes 2)
applied here Format nodes = format_of (value_at nodes 0)
    (map (λ node. cast_text node.value) (drop 1 nodes))
