-- Where a node or a key comes from, as JSON.
use Rattle.std.specs.Prelude.{[], ◌∷◌, map, codes}
use Rattle.pl_base.specs.declared.origin.Crossing.{Crossing}
use Rattle.pl_base.specs.declared.origin.Crossing.TheVariants.{Extends, Include, Argument, Made}
use Rattle.pl_base.specs.declared.origin.Origin.{Origin}
use Rattle.pl_json.specs.declared.json.Json.{Json}
use Rattle.pl_json.specs.declared.json.Json.TheVariants as json
use Rattle.pl_json.specs.Members.{member}
use Rattle.pl_json.specs.Objects.{object}
use Rattle.pl_refusals.specs.Rows.{file_members, file_object, number, place_object, text}

-- a border of templates that was crossed: a template that the root file extends, one that an item
-- at a place includes, the argument that an expression at a place took; or an expression's own
abbrev pub crossing_object : Crossing → Json
crossing_object (Extends file) = object (member (codes "extends") (file_object file) ∷ [])
crossing_object (Include file place) =
    object (member (codes "at") (place_object place) ∷ member (codes "include") (file_object file)
    ∷ [])
crossing_object (Argument name place) =
    object (text (codes "argument") name ∷ member (codes "at") (place_object place) ∷ [])
crossing_object Made = json.Text (codes "made")

abbrev pub origin_object : Origin → Json
origin_object origin =
    object (number (codes "col") origin.source.col
    ∷ member (codes "crossings") (json.Array (map crossing_object origin.crossings))
    ∷ number (codes "line") origin.source.line
    ∷ file_members origin.source.file)
