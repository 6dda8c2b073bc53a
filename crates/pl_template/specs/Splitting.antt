-- The steps in which a text is cut.
use Rattle.std.specs.Prelude.{ℕ, ◌+◌, false, List, [], ◌∷◌, ◌++◌, length, drop, Option, Some, None}
use Rattle.std.specs.Option.{option_map}
use Rattle.pl_template.specs.declared.forms.Piece.{Piece}
use Rattle.pl_template.specs.declared.forms.Piece.TheVariants.{Literal, Expression}
use Rattle.pl_template.specs.Cutting.{before_closing, pieces_of}

-- what stands before the first `}}` outside single quotes, and what stands behind it
abbrev pub split_of : List ℕ → Option (List ℕ × List ℕ)
split_of text =
    option_map (λ inside. (inside, drop (length inside + 2) text)) (before_closing false text)

-- the literal of a text, where it has a character
abbrev pub literal : List ℕ → List Piece
literal [] = []
literal (byte ∷ text) = Literal (byte ∷ text) ∷ []

-- pieces in front of others
abbrev pub prefixed : List Piece → Option (List Piece) → Option (List Piece)
prefixed pieces rest = option_map (λ more. pieces ++ more) rest

-- an expression and the pieces of the text behind it
abbrev pub continued : Option (List ℕ × List ℕ) → Option (List Piece)
continued None = None
continued (Some parts) = prefixed (Expression parts.0 ∷ []) (pieces_of parts.1)
