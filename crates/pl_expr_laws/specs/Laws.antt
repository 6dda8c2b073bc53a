-- What the grammar's reader and the grammar by rules say of each other (Microsoft Learn, Azure
-- Pipelines, "Expressions").
use Rattle.std.specs.Prelude.{◌≡◌, ◌≢◌, ℕ, ◌+◌, ◌<◌, ◌≤◌, ◌↔◌, Bool, true, false, List, ◌++◌}
use Rattle.std.specs.Prelude.{length, take, Ok, Err}
use Rattle.pl_expr.specs.declared.expr.Expr.{Expr}
use Rattle.pl_expr.specs.declared.expr.Mode.{Mode}
use Rattle.pl_expr.specs.declared.fault.ExprCode.{ExprCode}
use Rattle.pl_expr.specs.declared.fault.ExprCode.TheVariants.{BadChar, Trailing, TooDeep}
use Rattle.pl_expr.specs.Grammar.{parses}
use Rattle.pl_expr.specs.Spelling.{IsText}
use Rattle.pl_expr.specs.Trees.{depth_of}

-- A text is read as a tree exactly where the rules spell it so and the tree is at most 50 deep.
abbrev pub ReadAsSpelled : Type 0
ReadAsSpelled =
    (mode : Mode) (bytes : List ℕ) (tree : Expr) →
    (parses mode bytes ≡ Ok tree) ↔ (IsText mode bytes tree × (depth_of tree ≤ 50))

-- The rules spell a text as one tree at most, however deep it is.
abbrev pub HasOneTree : Type 0
HasOneTree =
    (mode : Mode) (bytes : List ℕ) (tree other : Expr) →
    IsText mode bytes tree → IsText mode bytes other → tree ≡ other

-- A text that is refused, but for a tree that gets too deep, is spelled as no tree at all.
abbrev pub RefusedHasNone : Type 0
RefusedHasNone =
    (mode : Mode) (bytes : List ℕ) (code : ExprCode) (offset : ℕ) →
    parses mode bytes ≡ Err (code, offset) → code ≢ TooDeep →
    (tree : Expr) → IsText mode bytes tree → ⊥

-- a byte that fits no rule, or one that stands behind a whole text
abbrev pub fits_no_text : ExprCode → Bool
fits_no_text BadChar = true
fits_no_text Trailing = true
fits_no_text code = false

-- No text that begins with the bytes up to and with the place of such a fault is spelled as a tree,
-- however it goes on and however deep that tree is. (Where the place is the text's end, no byte
-- stands there: of the text itself `RefusedHasNone` speaks.)
abbrev pub NothingGoesOn : Type 0
NothingGoesOn =
    (mode : Mode) (bytes : List ℕ) (code : ExprCode) (offset : ℕ) →
    parses mode bytes ≡ Err (code, offset) → fits_no_text code ≡ true → offset < length bytes →
    (more : List ℕ) (tree : Expr) → IsText mode (take (offset + 1) bytes ++ more) tree → ⊥
