-- The grammar as rules, one for each way to write a tree: which texts have which tree. The reader
-- of `Grammar` gives a tree exactly where these rules give it and it is at most 50 deep, and the
-- rules give no text two trees: both are laws of the crate pl_expr_laws. A name that stands right
-- behind a projection belongs to it, so that `a.*.b` is one tail; `a.* .b`, with a blank between,
-- is a projection and a member of what it gives.
use Rattle.std.specs.Prelude.{◌≡◌, ℕ, ◌<◌, ◌≤◌, true, false, List, [], ◌∷◌, ◌++◌, length, map, Some}
use Rattle.std.specs.Prelude.{ℤ}
use Rattle.std.specs.List.{list_all, join_with_byte}
use Rattle.std.specs.Char.{is_ascii_digit}
use Rattle.pl_base.specs.declared.value.Value.{Value, Number, Version, Str}
use Rattle.pl_expr.specs.declared.expr.Expr.{Expr}
use Rattle.pl_expr.specs.declared.expr.Expr.TheVariants.{Lit, Index, Project, Call}
use Rattle.pl_expr.specs.declared.expr.Function.{Function}
use Rattle.pl_expr.specs.declared.expr.Mode.{Mode}
use Rattle.pl_expr.specs.Numerals.{is_blank, signed, segments_of}
use Rattle.pl_reading.specs.Bytes.{number_of}
use Rattle.pl_expr.specs.Functions.{takes, named}
use Rattle.pl_expr.specs.Grammar.{word_tree}
use Rattle.pl_expr.specs.Given.{IsName, AreNames}
use Rattle.pl_expr.specs.Trees.{is_projection, quoted, dotted}

abbrev pub AreBlanks : List ℕ → Type 0
AreBlanks bytes = list_all is_blank bytes ≡ true

-- one digit or more
abbrev pub AreDigits : List ℕ → Type 0
AreDigits bytes = (0 < length bytes) × (list_all is_ascii_digit bytes ≡ true)

abbrev pub AreRuns : List (List ℕ) → Type 0
AreRuns [] = Unit {0}
AreRuns (digits ∷ runs) = AreDigits digits × AreRuns runs

-- number, version, string
pub data IsLiteralText : List ℕ → Value → Type 0 where
  number :
      (digits : List ℕ) (value : ℤ) → AreDigits digits →
      signed false (number_of digits) ≡ Some value → IsLiteralText digits (Number value)
  negative :
      (digits : List ℕ) (value : ℤ) → AreDigits digits →
      signed true (number_of digits) ≡ Some value → IsLiteralText (45 ∷ digits) (Number value)
  version :
      (runs : List (List ℕ)) (segments : List ℕ) → AreRuns runs → 2 < length runs →
      length runs ≤ 4 → segments_of (map number_of runs) ≡ Some segments →
      IsLiteralText (join_with_byte 46 runs) (Version segments)
  string : (text : List ℕ) → IsLiteralText (39 ∷ quoted text ++ 39 ∷ []) (Str text)

-- so many blanks behind a tree that a name behind them is a tail of its own
abbrev pub IsApart : Expr → List ℕ → Type 0
IsApart tree blanks = is_projection tree ≡ true → 0 < length blanks

mutual
  -- blanks expr blanks
  pub data IsText (mode : Mode) : List ℕ → Expr → Type 0 where
    text :
        (before spelling after : List ℕ) (tree : Expr) → AreBlanks before →
        IsExpression mode spelling tree → AreBlanks after →
        IsText mode (before ++ spelling ++ after) tree

  -- primary { blanks tail }
  pub data IsExpression (mode : Mode) : List ℕ → Expr → Type 0 where
    primary :
        (spelling : List ℕ) (tree : Expr) → IsPrimary mode spelling tree →
        IsExpression mode spelling tree
    member :
        (spelling blanks name : List ℕ) (tree : Expr) → IsExpression mode spelling tree →
        AreBlanks blanks → IsApart tree blanks → IsName name →
        IsExpression mode (spelling ++ (blanks ++ 46 ∷ name)) (Index tree (Lit (Str name)))
    indexed :
        (spelling blanks inside : List ℕ) (tree index : Expr) → IsExpression mode spelling tree →
        AreBlanks blanks → IsText mode inside index →
        IsExpression mode (spelling ++ (blanks ++ 91 ∷ inside ++ 93 ∷ [])) (Index tree index)
    projected :
        (spelling blanks : List ℕ) (members : List (List ℕ)) (tree : Expr) →
        IsExpression mode spelling tree → AreBlanks blanks → AreNames members →
        IsExpression mode (spelling ++ (blanks ++ 46 ∷ 42 ∷ dotted members)) (Project tree members)

  -- literal | function blanks "(" [ text { "," text } ] ")" | name
  pub data IsPrimary (mode : Mode) : List ℕ → Expr → Type 0 where
    literal :
        (spelling : List ℕ) (value : Value) → IsLiteralText spelling value →
        IsPrimary mode spelling (Lit value)
    name : (word : List ℕ) → IsName word → IsPrimary mode word (word_tree word)
    empty_call :
        (word blanks : List ℕ) (function : Function) → IsName word →
        named mode word ≡ Some function → AreBlanks blanks → takes function 0 ≡ true →
        IsPrimary mode (word ++ (blanks ++ 40 ∷ 41 ∷ [])) (Call function [])
    call :
        (word blanks inside : List ℕ) (function : Function) (trees : List Expr) → IsName word →
        named mode word ≡ Some function → AreBlanks blanks → AreArguments mode inside trees →
        takes function (length trees) ≡ true →
        IsPrimary mode (word ++ (blanks ++ 40 ∷ inside ++ 41 ∷ [])) (Call function trees)

  -- text { "," text }
  pub data AreArguments (mode : Mode) : List ℕ → List Expr → Type 0 where
    first :
        (inside : List ℕ) (tree : Expr) → IsText mode inside tree →
        AreArguments mode inside (tree ∷ [])
    next :
        (before inside : List ℕ) (trees : List Expr) (tree : Expr) →
        AreArguments mode before trees → IsText mode inside tree →
        AreArguments mode (before ++ 44 ∷ inside) (trees ++ tree ∷ [])
