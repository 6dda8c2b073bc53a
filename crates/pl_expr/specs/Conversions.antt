-- The conversions of Microsoft Learn, Azure Pipelines, "Expressions", Type casting, on plain
-- values.
use Rattle.std.specs.Prelude.{ℕ, Bool, true, false, List, [], map, Option, Some, None, unwrap_or, ℤ}
use Rattle.std.specs.Prelude.{pos, codes, not, cond, nat_eq, zero}
use Rattle.std.specs.Option.{option_map, option_map_or}
use Rattle.std.specs.Ordering.{nat_cmp, int_cmp, bool_cmp, int_eq}
use Rattle.std.specs.Cmp.Lexicographic.{slice_cmp, pointwise}
use Rattle.std.specs.Fmt.{decimal, signed_decimal}
use Rattle.std.specs.List.{join_with_byte}
use Rattle.std.specs.declared.cmp.Ordering.{Ordering}
use Rattle.std.specs.declared.cmp.Ordering.TheVariants.{Equal}
use Rattle.pl_base.specs.Folding.{folded}
use Rattle.pl_base.specs.declared.value.Value.{Value, Null, Bool as Truth, Number, Version, Str}
use Rattle.pl_expr.specs.Numerals.{number_in, version_in}

-- to Boolean: each value has one
abbrev pub bool_of : Value → Bool
bool_of Null = false
bool_of (Truth truth) = truth
bool_of (Number (pos zero)) = false
bool_of (Str []) = false
bool_of value = true

-- to Number
abbrev pub number_of_value : Value → Option ℤ
number_of_value Null = Some (pos 0)
number_of_value (Truth false) = Some (pos 0)
number_of_value (Truth true) = Some (pos 1)
number_of_value (Number number) = Some number
number_of_value (Str text) = number_in text
number_of_value value = None

-- to Text
abbrev pub text_of : Value → Option (List ℕ)
text_of Null = Some []
text_of (Truth false) = Some (codes "False")
text_of (Truth true) = Some (codes "True")
text_of (Number number) = Some (signed_decimal number)
text_of (Version segments) = Some (join_with_byte 46 (map decimal segments))
text_of (Str text) = Some text
text_of value = None

-- casting to Text
abbrev pub cast_text : Value → List ℕ
cast_text value = unwrap_or (text_of value) []

-- to Version
abbrev pub version_of : Value → Option (List ℕ)
version_of (Version segments) = Some segments
version_of (Str text) = version_in text
version_of value = None

-- to Null
abbrev pub is_null : Value → Bool
is_null Null = true
is_null (Str []) = true
is_null value = false

-- The order of the left value and of the right one, which is converted to the left one's type:
-- False before True, versions by segments with a missing one first, texts by their folded bytes,
-- which is the order of their folded scalar values. None where the right one doesn't convert, or
-- the left one is an array or object.
abbrev pub order_of : Value → Value → Option Ordering
order_of Null right = cond (is_null right) (Some Equal) None
order_of (Truth left) right = Some (bool_cmp left (bool_of right))
order_of (Number left) right = option_map (int_cmp left) (number_of_value right)
order_of (Version left) right = option_map (slice_cmp nat_cmp left) (version_of right)
order_of (Str left) right = option_map (λ text. slice_cmp nat_cmp (folded left) (folded text))
    (text_of right)
order_of left right = None

-- Whether the right value, converted to the left one's type, is the left one, the case of texts
-- aside. An array or object is equal to nothing, and so is what doesn't convert.
abbrev pub equals : Value → Value → Bool
equals Null right = is_null right
equals (Truth true) right = bool_of right
equals (Truth false) right = not (bool_of right)
equals (Number left) right = option_map_or (int_eq left) (number_of_value right) false
equals (Version left) right = option_map_or (pointwise nat_eq left) (version_of right) false
equals (Str left) right = option_map_or (λ text. pointwise nat_eq (folded left) (folded text))
    (text_of right) false
equals left right = false
