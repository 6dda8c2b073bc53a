-- Where the nodes of an expanded tree come from (Microsoft Learn, Azure Pipelines, "Security
-- through templates", asks where a step was written): their own place, and the borders of templates
-- that they crossed.
use Rattle.std.specs.Prelude.{[], ◌∷◌, ◌++◌}
use Rattle.pl_base.specs.declared.origin.Crossing.{Crossing}
use Rattle.pl_base.specs.declared.origin.Crossing.TheVariants.{Made}
use Rattle.pl_base.specs.declared.origin.Origin.{Origin}
use Rattle.pl_base.specs.declared.place.Place.{Place}
use Rattle.pl_frame.specs.declared.frame.Frame.{Frame}

-- what is written in the frame's file has its own place and the frame's crossings
abbrev pub literal_at : Frame → Place → Origin
literal_at frame place = record { source = place; crossings = frame.crossings }

-- what an expression makes has the expression's place, and a crossing that says so
abbrev pub made_at : Frame → Place → Origin
made_at frame place = record { source = place; crossings = frame.crossings ++ Made ∷ [] }

-- one crossing more
abbrev pub across : Crossing → Origin → Origin
across crossing origin =
    record { source = origin.source; crossings = origin.crossings ++ crossing ∷ [] }
