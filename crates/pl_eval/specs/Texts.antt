-- What the functions on texts make (Microsoft Learn, Azure Pipelines, "Expressions", Functions).
-- Arguments are cast to text.
use Rattle.std.specs.Prelude.{ℕ, Bool, List, [], ◌∷◌, map, Result, Ok, Err}
use Rattle.std.specs.Str.{trim}
use Rattle.pl_base.specs.Folding.{folded}
use Rattle.pl_base.specs.declared.origin.Origin.{Origin}
use Rattle.pl_base.specs.declared.value.Value.{Value, Str, Array, out-Value}
use Rattle.pl_base.specs.declared.value.Value.TheOpen as layer
use Rattle.pl_expr.specs.Conversions.{cast_text}
use Rattle.pl_texts.specs.declared.fault.TextFault.{TextFault}
use Rattle.pl_texts.specs.declared.fault.TextFault.TheVariants.{Index}
use Rattle.pl_texts.specs.Bound.{bounded, all_bounded}
use Rattle.pl_texts.specs.Changing.{lowered, raised, replaced}
use Rattle.pl_texts.specs.Formatting.{formatted}
use Rattle.pl_texts.specs.Pieces.{joined, pieces}
use Rattle.pl_eval.specs.LookUps.{Opened, made}
use Rattle.pl_eval.specs.declared.fault.EvalCode.{EvalCode}
use Rattle.pl_eval.specs.declared.fault.EvalCode.TheVariants.{FormatIndex, TextTooLong}

-- a pattern that is refused, and a text that is too long
abbrev pub code_of : TextFault → EvalCode
code_of Index = FormatIndex
code_of fault = TextTooLong

-- a text that was made, as a value
abbrev pub text_value : Result (List ℕ) TextFault → Result Value EvalCode
text_value (Ok text) = Ok (Str text)
text_value (Err fault) = Err (code_of fault)

-- texts that were made, as an array: each is made here
abbrev pub texts_value : Origin → Result (List (List ℕ)) TextFault → Result Value EvalCode
texts_value here (Ok texts) = Ok (Array (map (λ text. made here (Str text)) texts))
texts_value here (Err fault) = Err (code_of fault)

-- a search ignores case
abbrev pub searched : (List ℕ → List ℕ → Bool) → Value → Value → Bool
searched test text sought = test (folded (cast_text text)) (folded (cast_text sought))

abbrev pub lower_of : Value → Result Value EvalCode
lower_of value = text_value (bounded (lowered (cast_text value)))

abbrev pub upper_of : Value → Result Value EvalCode
upper_of value = text_value (bounded (raised (cast_text value)))

abbrev pub trim_of : Value → Result Value EvalCode
trim_of value = text_value (bounded (trim (cast_text value)))

abbrev pub replace_of : Value → Value → Value → Result Value EvalCode
replace_of text sought new =
    text_value (bounded (replaced (cast_text text) (cast_text sought) (cast_text new)))

abbrev pub split_of : Origin → Value → Value → Result Value EvalCode
split_of here text separators =
    texts_value here (all_bounded (pieces (cast_text text) (cast_text separators)))

-- the casts of an array's items; what isn't an array counts as its only item
abbrev pub casts_in : Opened → Value → List (List ℕ)
casts_in (layer.Array items) value = map (λ item. cast_text item.value) items
casts_in opened value = cast_text value ∷ []

abbrev pub casts_of : Value → List (List ℕ)
casts_of value = casts_in (out-Value value) value

abbrev pub join_of : Value → Value → Result Value EvalCode
join_of separator value = text_value (bounded (joined (cast_text separator) (casts_of value)))

abbrev pub format_of : Value → List (List ℕ) → Result Value EvalCode
format_of pattern arguments = text_value (formatted arguments (cast_text pattern))
