-- Nodes that came through a template that the root file extends (Microsoft Learn, Azure Pipelines,
-- "Security through templates").
use Rattle.std.specs.Prelude.{◌≡◌, List, [], ◌∷◌}
use Rattle.pl_base.specs.declared.origin.Crossing.{Crossing}
use Rattle.pl_base.specs.declared.origin.Crossing.TheVariants.{Extends, Include, Argument, Made}
use Rattle.pl_base.specs.declared.origin.Origin.{Origin}
use Rattle.pl_base.specs.declared.place.FileKey.{FileKey}

-- the files of the borders `extends` among those that were crossed, in order
abbrev pub extended_in : List Crossing → List FileKey
extended_in [] = []
extended_in (Extends file ∷ crossings) = file ∷ extended_in crossings
extended_in (Include file at ∷ crossings) = extended_in crossings
extended_in (Argument name at ∷ crossings) = extended_in crossings
extended_in (Made ∷ crossings) = extended_in crossings

-- the border `extends` was crossed just once, and into that file
abbrev pub IsThrough : FileKey → Origin → Type 0
IsThrough file origin = extended_in origin.crossings ≡ file ∷ []
