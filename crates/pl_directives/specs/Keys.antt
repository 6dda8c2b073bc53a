-- Keys that expressions give (Microsoft Learn, Azure Pipelines, "Template expressions"). What they
-- yield isn't counted.
use Rattle.std.specs.Prelude.{ℕ, List, [], ◌∷◌, ◌++◌, Result, Ok}
use Rattle.pl_base.specs.declared.place.Place.{Place}
use Rattle.pl_base.specs.declared.value.Value.{Value, out-Value}
use Rattle.pl_base.specs.declared.value.Value.TheOpen.{Value-F}
use Rattle.pl_base.specs.declared.value.Value.TheOpen as layer
use Rattle.pl_base.specs.declared.value.MarkedNode.{MarkedNode}
use Rattle.pl_base.specs.declared.value.MarkedPair.{MarkedPair}
use Rattle.pl_expr.specs.Conversions.{cast_text}
use Rattle.pl_frame.specs.Origins.{made_at}
use Rattle.pl_frame.specs.declared.frame.Frame.{Frame}
use Rattle.pl_template.specs.declared.forms.Piece.{Piece}
use Rattle.pl_template.specs.declared.forms.Piece.TheVariants.{Literal}
use Rattle.pl_template.specs.declared.forms.Piece.TheVariants as piece
use Rattle.pl_template.specs.declared.forms.ScalarForm.{ScalarForm}
use Rattle.pl_template.specs.declared.forms.ScalarForm.TheVariants.{Whole, Joined}
use Rattle.pl_directives.specs.declared.fault.ExpandFault.{ExpandFault}
use Rattle.pl_directives.specs.declared.fault.ExpandProblem.TheVariants.{BadDirective, WrongKind}
use Rattle.pl_directives.specs.declared.keys.MadeKey.{MadeKey}
use Rattle.pl_directives.specs.Complaints.{refused}
use Rattle.pl_directives.specs.Scalars.{value_at}
use Rattle.pl_reading.specs.Steps.{◌>>=◌}

-- a list or mapping is no key
abbrev pub key_from :
    Value-F Value MarkedNode MarkedPair → Place → MarkedNode → Result MadeKey ExpandFault
key_from (layer.Array items) place node = refused WrongKind place
key_from (layer.Object pairs) place node = refused WrongKind place
key_from atom place node = Ok (record { key = cast_text node.value; origin = node.origin })

abbrev pub key_piece_behind : Frame → Place → Piece → List ℕ → Result (List ℕ) ExpandFault
key_piece_behind frame place (Literal text) before = Ok (before ++ text)
key_piece_behind frame place (piece.Expression text) before =
    value_at frame place text >>= λ node. Ok (before ++ cast_text node.value)

abbrev pub key_pieces_behind : Frame → Place → List Piece → List ℕ → Result (List ℕ) ExpandFault
key_pieces_behind frame place [] before = Ok before
key_pieces_behind frame place (first ∷ pieces) before =
    key_piece_behind frame place first before >>= key_pieces_behind frame place pieces

-- a joined text is made where the key stands
abbrev pub joined_key : List Piece → Frame → Place → Result MadeKey ExpandFault
joined_key pieces frame place =
    key_pieces_behind frame place pieces [] >>= λ text.
    Ok (record { key = text; origin = made_at frame place })

-- one expression gives its value's text and keeps where that comes from
abbrev pub key_by : ScalarForm → Frame → Place → Result MadeKey ExpandFault
key_by (Whole inside) frame place =
    value_at frame place inside >>= λ node. key_from (out-Value node.value) place node
key_by (Joined pieces) frame place = joined_key pieces frame place
key_by other frame place = refused BadDirective place
