-- A text cut into literals and expressions, each of which stands between `${{` and `}}` (Microsoft
-- Learn, Azure
-- Pipelines, "Template expressions").
use Rattle.std.specs.Prelude.{ℕ, zero, suc, ◌+◌, Bool, false, not, List, [], ◌∷◌, length, drop}
use Rattle.std.specs.Prelude.{codes, Option, Some, None, ◌==◌, ◌&&◌, if◌then◌else◌}
use Rattle.std.specs.Option.{option_map}
use Rattle.pl_texts.specs.Matching.{begins, holds}
use Rattle.pl_template.specs.declared.forms.Piece.{Piece}
use Rattle.pl_template.specs.declared.forms.Piece.TheVariants.{Literal, Expression}

abbrev pub opening : List ℕ
opening = codes "${{"

abbrev pub closing : List ℕ
closing = codes "}}"

-- whether `${{` stands anywhere in a text
abbrev pub holds_opening : List ℕ → Bool
holds_opening text = holds text opening

-- A single quote opens a string and the next one closes it; a doubled one inside closes it and
-- opens it again.
abbrev pub is_quoted_behind : ℕ → Bool → Bool
is_quoted_behind byte quoted = if byte == 39 then not quoted else quoted

-- whether a `}}` that ends an expression stands in front, where a string is open or isn't
abbrev pub closes : Bool → List ℕ → Bool
closes quoted text = not quoted && begins text closing

-- What stands before the first `}}` outside single quotes, where a string is open or isn't. None
-- where no such
-- `}}` stands.
unfoldable pub before_closing : Bool → List ℕ → Option (List ℕ)
before_closing quoted [] = None
before_closing quoted (byte ∷ text) =
    if closes quoted (byte ∷ text) then Some []
    else option_map (λ inside. byte ∷ inside) (before_closing (is_quoted_behind byte quoted) text)

-- a literal's byte in front of pieces: literals that touch are one
abbrev pub onto : ℕ → List Piece → List Piece
onto byte [] = Literal (byte ∷ []) ∷ []
onto byte (Literal text ∷ pieces) = Literal (byte ∷ text) ∷ pieces
onto byte (Expression inside ∷ pieces) = Literal (byte ∷ []) ∷ Expression inside ∷ pieces

-- an expression, and what stands behind its four braces
abbrev pub followed : Option (List ℕ) → (ℕ → Option (List Piece)) → Option (List Piece)
followed None rest = None
followed (Some inside) rest =
    option_map (λ pieces. Expression inside ∷ pieces) (rest (length inside + 4))

-- From left to right, once so many bytes were passed over: where `${{` stands an expression comes,
-- up to the first
-- `}}` outside single quotes, and those bytes are passed over. Any other byte is a literal's. None
-- where an
-- expression has no end.
unfoldable pub pieces_behind : ℕ → List ℕ → Option (List Piece)
pieces_behind passed [] = Some []
pieces_behind (suc passed) (byte ∷ text) = pieces_behind passed text
pieces_behind zero (byte ∷ text) =
    if begins (byte ∷ text) opening then
    followed (before_closing false (drop 2 text)) (λ passed. pieces_behind passed text)
    else option_map (onto byte) (pieces_behind zero text)

-- the pieces of a text
abbrev pub pieces_of : List ℕ → Option (List Piece)
pieces_of text = pieces_behind 0 text
