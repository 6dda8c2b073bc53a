-- What each kind of expression and each function gives, in the terms of Microsoft Learn (Azure
-- Pipelines, "Expressions"). Arguments are evaluated in the order in which an equation names their
-- values, only where it does, and the first fault ends the call. What a function makes has the
-- origin `here`.
use Rattle.std.specs.Prelude.{◌≡◌, ◌||◌, ◌&&◌, ℕ, Bool, true, not, List, [], ◌∷◌, map}
use Rattle.std.specs.Prelude.{Result, Ok, Err, if◌then◌else◌}
use Rattle.std.specs.Option.{option_map_or}
use Rattle.std.specs.List.{list_all, list_any}
use Rattle.std.specs.Str.{trim}
use Rattle.std.specs.Ordering.{is_lt, is_le, is_gt, is_ge}
use Rattle.std.specs.declared.cmp.Ordering.{Ordering}
use Rattle.pl_base.specs.Folding.{folded}
use Rattle.pl_base.specs.declared.origin.Origin.{Origin}
use Rattle.pl_base.specs.declared.value.Value.{Value, Bool as Truth}
use Rattle.pl_expr.specs.Conversions.{bool_of, cast_text, equals, order_of}
use Rattle.pl_expr.specs.declared.expr.Expr.{Expr}
use Rattle.pl_expr.specs.declared.expr.Expr.TheVariants as expr
use Rattle.pl_expr.specs.declared.expr.Function.{Function as Functions}
use Rattle.pl_expr.specs.declared.expr.Function.TheVariants as function
use Rattle.pl_texts.specs.Bound.{bounded, all_bounded}
use Rattle.pl_texts.specs.Changing.{lowered, raised, replaced}
use Rattle.pl_texts.specs.Formatting.{formatted}
use Rattle.pl_texts.specs.Matching.{begins, ends, holds}
use Rattle.pl_texts.specs.Pieces.{joined, pieces}
use Rattle.pl_eval.specs.declared.fault.EvalCode.{EvalCode}
use Rattle.pl_eval.specs.declared.fault.EvalCode.TheVariants.{NotConvertible}
use Rattle.pl_eval.specs.Applied.{holds_value, length_of}
use Rattle.pl_eval.specs.Known.{Known, root_of}
use Rattle.pl_eval.specs.LookUps.{looked_up, projected}
use Rattle.pl_eval.specs.Means.{all_true, answer, any_true, called, first_filled, is_among, means}
use Rattle.pl_eval.specs.Means.{rooted, truth, values}
use Rattle.pl_eval.specs.Statuses.{results, went_well, went_wrong, was_run}
use Rattle.pl_reading.specs.Steps.{◌>>=◌}
use Rattle.pl_eval.specs.Texts.{casts_of, text_value, texts_value}

-- ---- the kinds of expression

-- a literal: the value that is written
abbrev pub Literal : Type 0
Literal = (known : Known) (here : Origin) (value : Value) →
    means known here (expr.Lit value) ≡ answer here value

-- a name by itself: what it stands for, handed on as it is
abbrev pub Root : Type 0
Root = (known : Known) (here : Origin) (name : List ℕ) →
    means known here (expr.Root name) ≡ rooted (root_of known name)

-- index syntax and property dereference syntax: what the index finds, handed on as it is, else Null
abbrev pub Index : Type 0
Index = (known : Known) (here : Origin) (of at : Expr) →
    means known here (expr.Index of at)
    ≡ (means known here of >>= λ node. means known here at >>= λ index.
    Ok (looked_up here node.value index.value))

-- a filtered array: an array of what the names give in each item
abbrev pub Projection : Type 0
Projection = (known : Known) (here : Origin) (of : Expr) (names : List (List ℕ)) →
    means known here (expr.Project of names)
    ≡ (means known here of >>= λ node. answer here (projected names node.value))

-- a call: what the function gives by the meanings of its arguments, which the equations below tell
abbrev pub Call : Type 0
Call = (known : Known) (here : Origin) (function : Functions) (arguments : List Expr) →
    means known here (expr.Call function arguments)
    ≡ called known here function (map (means known here) arguments)

-- ---- calls of one, two and three arguments, by the values of these

abbrev pub value_of : Known → Origin → Expr → Result Value EvalCode
value_of known here expr = means known here expr >>= λ node. Ok node.value

abbrev pub OfOne : Functions → (Value → Result Value EvalCode) → Type 0
OfOne function makes = (known : Known) (here : Origin) (one : Expr) →
    means known here (expr.Call function (one ∷ []))
    ≡ (value_of known here one >>= λ value. makes value >>= answer here)

abbrev pub OfTwo : Functions → (Origin → Value → Value → Result Value EvalCode) → Type 0
OfTwo function makes = (known : Known) (here : Origin) (left right : Expr) →
    means known here (expr.Call function (left ∷ right ∷ []))
    ≡ (value_of known here left >>= λ left. value_of known here right >>= λ right.
    makes here left right >>= answer here)

-- a test, which always has an answer
abbrev pub Tests : Functions → (Value → Value → Bool) → Type 0
Tests function test = OfTwo function (λ here left right. Ok (Truth (test left right)))

-- ---- logic

-- not: True if the parameter, cast to Boolean, is False
abbrev pub Not : Type 0
Not = OfOne function.Not (λ value. Ok (Truth (not (bool_of value))))

-- and: True if all parameters, two at least, are True; it short-circuits after the first False
abbrev pub And : Type 0
And = (known : Known) (here : Origin) (first second : Expr) (others : List Expr) →
    means known here (expr.Call function.And (first ∷ second ∷ others))
    ≡ (all_true (map (means known here) (first ∷ second ∷ others)) >>= truth here)

-- or: True if any parameter is True; it short-circuits after the first True
abbrev pub Or : Type 0
Or = (known : Known) (here : Origin) (arguments : List Expr) →
    means known here (expr.Call function.Or arguments)
    ≡ (any_true (map (means known here) arguments) >>= truth here)

-- xor: True if exactly one parameter is True
abbrev pub exactly_one : Bool → Bool → Bool
exactly_one left right = (left && not right) || (not left && right)

abbrev pub Xor : Type 0
Xor = Tests function.Xor (λ left right. exactly_one (bool_of left) (bool_of right))

-- iif: the second parameter if the first is True, and else the third; only that one is evaluated,
-- and it is handed on as it is
abbrev pub Iif : Type 0
Iif = (known : Known) (here : Origin) (condition left right : Expr) →
    means known here (expr.Call function.Iif (condition ∷ left ∷ right ∷ []))
    ≡ (value_of known here condition >>= λ condition.
    if bool_of condition then means known here left else means known here right)

-- coalesce: the parameters are evaluated in order, and the first that is neither Null nor the empty
-- text is handed on as it is; else Null
abbrev pub Coalesce : Type 0
Coalesce = (known : Known) (here : Origin) (arguments : List Expr) →
    means known here (expr.Call function.Coalesce arguments)
    ≡ first_filled here (map (means known here) arguments)

-- ---- equality: the right parameter is converted to match the type of the left one, and texts are
-- compared without case

-- eq: True if the parameters are equal; False if the conversion fails
abbrev pub Eq : Type 0
Eq = Tests function.Eq equals

-- ne: True if the parameters are not equal; True if the conversion fails
abbrev pub Ne : Type 0
Ne = Tests function.Ne (λ left right. not (equals left right))

-- in: True if the left parameter is equal to any right one; it short-circuits after the first
-- match
abbrev pub In : Type 0
In = (known : Known) (here : Origin) (left : Expr) (others : List Expr) →
    means known here (expr.Call function.In (left ∷ others))
    ≡ (value_of known here left >>= λ left.
    is_among left (map (means known here) others) >>= truth here)

-- notIn: True if the left parameter is not equal to any right one
abbrev pub NotIn : Type 0
NotIn = (known : Known) (here : Origin) (left : Expr) (others : List Expr) →
    means known here (expr.Call function.NotIn (left ∷ others))
    ≡ (value_of known here left >>= λ left.
    is_among left (map (means known here) others) >>= λ is. truth here (not is))

-- containsValue: True if the left parameter is an array, and any item equals the right parameter,
-- or an object, and the value of any property does
abbrev pub ContainsValue : Type 0
ContainsValue = Tests function.ContainsValue holds_value

-- ---- order: the right parameter is converted as for equality; if that fails it is a fault

abbrev pub Compares : Functions → (Ordering → Bool) → Type 0
Compares function test = OfTwo function (λ here left right.
    option_map_or (λ order. Ok (Truth (test order))) (order_of left right) (Err NotConvertible))

-- lt: True if the left parameter is less than the right one
abbrev pub Lt : Type 0
Lt = Compares function.Lt is_lt

-- le: less than or equal to it
abbrev pub Le : Type 0
Le = Compares function.Le is_le

-- gt: greater than it
abbrev pub Gt : Type 0
Gt = Compares function.Gt is_gt

-- ge: greater than or equal to it
abbrev pub Ge : Type 0
Ge = Compares function.Ge is_ge

-- ---- texts, to which the parameters are cast. A text that is made has at most 65,536 bytes.

-- a search, without case
abbrev pub Searches : Functions → (List ℕ → List ℕ → Bool) → Type 0
Searches function test =
    Tests function (λ left right. test (folded (cast_text left)) (folded (cast_text right)))

-- contains: True if the left parameter contains the right one
abbrev pub Contains : Type 0
Contains = Searches function.Contains holds

-- startsWith: True if the left parameter starts with the right one
abbrev pub StartsWith : Type 0
StartsWith = Searches function.StartsWith begins

-- endsWith: True if the left parameter ends with the right one
abbrev pub EndsWith : Type 0
EndsWith = Searches function.EndsWith ends

abbrev pub Makes : Functions → (List ℕ → List ℕ) → Type 0
Makes function make = OfOne function (λ value. text_value (bounded (make (cast_text value))))

-- lower: the text with lowercase characters alone
abbrev pub Lower : Type 0
Lower = Makes function.Lower lowered

-- upper: with uppercase characters alone
abbrev pub Upper : Type 0
Upper = Makes function.Upper raised

-- trim: without leading and trailing white-space characters
abbrev pub Trim : Type 0
Trim = Makes function.Trim trim

-- length: the length of a text, in scalar values, or of an array
abbrev pub Length : Type 0
Length = OfOne function.Length length_of

-- join: all elements of the right parameter, an array, with the left one between each two; what is
-- no array counts as its only element
abbrev pub Join : Type 0
Join = OfTwo function.Join (λ here separator value.
    text_value (bounded (joined (cast_text separator) (casts_of value))))

-- split: an array of the left parameter's pieces between the characters of the right one
abbrev pub Split : Type 0
Split = OfTwo function.Split (λ here text separators.
    texts_value here (all_bounded (pieces (cast_text text) (cast_text separators))))

-- replace: the first parameter with all instances of the second replaced by the third
abbrev pub Replace : Type 0
Replace = (known : Known) (here : Origin) (text sought new : Expr) →
    means known here (expr.Call function.Replace (text ∷ sought ∷ new ∷ []))
    ≡ (value_of known here text >>= λ text. value_of known here sought >>= λ sought.
    value_of known here new >>= λ new.
    text_value (bounded (replaced (cast_text text) (cast_text sought) (cast_text new)))
    >>= answer here)

-- format: the trailing parameters are evaluated and inserted into the leading one
abbrev pub Format : Type 0
Format = (known : Known) (here : Origin) (pattern : Expr) (arguments : List Expr) →
    means known here (expr.Call function.Format (pattern ∷ arguments))
    ≡ (value_of known here pattern >>= λ pattern.
    values (map (means known here) arguments) >>= λ nodes.
    text_value (formatted (map (λ node. cast_text node.value) nodes) (cast_text pattern))
    >>= answer here)

-- ---- job status check functions: the parameters, cast to texts, are names of dependencies, and
-- without names a function looks at all of them

abbrev pub Status : Functions → (Known → List (List ℕ) → Bool) → Type 0
Status function test = (known : Known) (here : Origin) (arguments : List Expr) →
    means known here (expr.Call function arguments)
    ≡ (values (map (means known here) arguments) >>= λ nodes.
    truth here (test known (map (λ node. cast_text node.value) nodes)))

-- always: True; it takes no parameter
abbrev pub Always : Type 0
Always = (known : Known) (here : Origin) →
    means known here (expr.Call function.Always []) ≡ truth here true

-- canceled: True if the run is canceled; it takes no parameter
abbrev pub Canceled : Type 0
Canceled = (known : Known) (here : Origin) →
    means known here (expr.Call function.Canceled []) ≡ truth here known.canceled

-- failed: True only if any of them failed
abbrev pub Failed : Type 0
Failed = Status function.Failed (λ known names. list_any went_wrong (results known names))

-- succeeded: True if all of them succeeded or partially succeeded, and the run isn't canceled
abbrev pub Succeeded : Type 0
Succeeded = Status function.Succeeded
    (λ known names. not known.canceled && list_all went_well (results known names))

-- succeededOrFailed: True if the run isn't canceled and, where there are names, any of them
-- succeeded, partially succeeded or failed
abbrev pub any_ran : Known → List (List ℕ) → Bool
any_ran known [] = true
any_ran known (name ∷ names) = list_any was_run (results known (name ∷ names))

abbrev pub SucceededOrFailed : Type 0
SucceededOrFailed =
    Status function.SucceededOrFailed (λ known names. not known.canceled && any_ran known names)
