-- The form of a scalar's text.
use Rattle.std.specs.Prelude.{ℕ, List, [], ◌∷◌, Option, Some, None, if◌then◌else◌}
use Rattle.pl_template.specs.declared.forms.Piece.{Piece}
use Rattle.pl_template.specs.declared.forms.Piece.TheVariants.{Expression}
use Rattle.pl_template.specs.declared.forms.ScalarForm.{ScalarForm}
use Rattle.pl_template.specs.declared.forms.ScalarForm.TheVariants.{Plain, Whole, Joined, Unclosed}
use Rattle.pl_template.specs.Cutting.{holds_opening, pieces_of}

-- one expression alone is the whole text, and other pieces are joined
abbrev pub form_of_pieces : Option (List Piece) → ScalarForm
form_of_pieces None = Unclosed
form_of_pieces (Some (Expression inside ∷ [])) = Whole inside
form_of_pieces (Some pieces) = Joined pieces

-- the form of a text: plain where no `${{` stands in it
abbrev pub form_of : List ℕ → ScalarForm
form_of text = if holds_opening text then form_of_pieces (pieces_of text) else Plain
