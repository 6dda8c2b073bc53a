-- What holds of texts and their pieces, as rules: which lists of pieces are those of a text.
use Rattle.std.specs.Prelude.{◌≡◌, ℕ, false, List, [], ◌∷◌, ◌++◌, Some}
use Rattle.pl_template.specs.declared.forms.Piece.{Piece}
use Rattle.pl_template.specs.declared.forms.Piece.TheVariants.{Literal, Expression}
use Rattle.pl_template.specs.Cutting.{opening, closing, holds_opening, before_closing}
use Rattle.pl_template.specs.Splitting.{literal}

-- no expression begins in the text
abbrev pub IsLiteral : List ℕ → Type 0
IsLiteral text = holds_opening text ≡ false

-- the text may stand between `${{` and `}}`: that `}}` is then the first one outside single quotes
abbrev pub IsInside : List ℕ → Type 0
IsInside inside = before_closing false (inside ++ closing) ≡ Some inside

-- a text and its pieces
pub data IsCut : List ℕ → List Piece → Type 0 where
  rest : (text : List ℕ) → IsLiteral text → IsCut text (literal text)
  expression : (front inside behind : List ℕ) (pieces : List Piece) →
      IsLiteral front → IsInside inside → IsCut behind pieces →
      IsCut (front ++ (opening ++ (inside ++ (closing ++ behind))))
      (literal front ++ Expression inside ∷ pieces)

-- the text that pieces make
abbrev pub written : List Piece → List ℕ
written [] = []
written (Literal text ∷ pieces) = text ++ written pieces
written (Expression inside ∷ pieces) = opening ++ (inside ++ (closing ++ written pieces))
