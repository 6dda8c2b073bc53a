-- Keys that may not stand where they are put (Microsoft Learn, Azure Pipelines, "Templates"):
-- beside the path of a call its arguments stand alone.
use Rattle.std.specs.Prelude.{ℕ, Bool, true, false, not, ◌&&◌, ◌||◌, List, [], ◌∷◌, find, codes}
use Rattle.std.specs.Prelude.{Option, Some, None, unwrap_or, Result, Ok, if◌then◌else◌}
use Rattle.std.specs.Option.{option_map}
use Rattle.pl_base.specs.declared.place.Place.{Place}
use Rattle.pl_base.specs.declared.value.Value.{Value, out-Value}
use Rattle.pl_base.specs.declared.value.Value.TheOpen.{Value-F}
use Rattle.pl_base.specs.declared.value.Value.TheOpen as layer
use Rattle.pl_base.specs.declared.value.MarkedNode.{MarkedNode}
use Rattle.pl_base.specs.declared.value.MarkedPair.{MarkedPair}
use Rattle.pl_frame.specs.declared.frame.Frame.{Frame}
use Rattle.pl_base.specs.Texts.{is}
use Rattle.pl_directives.specs.declared.fault.ExpandFault.{ExpandFault}
use Rattle.pl_directives.specs.declared.fault.ExpandProblem.TheVariants.{WrongKind}
use Rattle.pl_directives.specs.declared.progress.Content.{Content}
use Rattle.pl_directives.specs.declared.progress.Content.TheVariants.{Unknown, Items, Pairs}
use Rattle.pl_directives.specs.declared.progress.Counted.{Counted}
use Rattle.pl_directives.specs.declared.region.Region.{Region}
use Rattle.pl_directives.specs.declared.region.Region.TheVariants.{Item, Extends}
use Rattle.pl_directives.specs.Complaints.{refused}
use Rattle.pl_directives.specs.Regions.{is_template}
use Rattle.pl_directives.specs.Scalars.{scalar_value}
use Rattle.pl_reading.specs.Steps.{◌>>=◌}

-- the keys of a call
abbrev pub belongs : List ℕ → Bool
belongs key = is key (codes "template") || is key (codes "parameters")

-- whether an item is a call, once its first key is there
abbrev pub told : Content → Option Bool
told Unknown = None
told (Items items) = Some false
told (Pairs []) = None
told (Pairs (pair ∷ pairs)) = Some (is pair.key (codes "template"))

-- whether a key may not stand in a mapping in a region, which is a call or isn't
abbrev pub strays : Region → Bool → List ℕ → Bool
strays (Item form) called key = called && not (belongs key)
strays Extends called key = not (belongs key)
strays region called key = false

-- a key that is put behind what is there: it strays where it comes from
abbrev pub key_stray : Region → Content → List ℕ → Place → Option Place
key_stray region content key place =
    if strays region (unwrap_or (told content) false) key then Some place else None

-- the first stray of those pairs that an expression gives for a mapping
abbrev pub stray_among : Region → Bool → List MarkedPair → Option Place
stray_among region called pairs =
    option_map (λ pair. pair.key_origin.source)
    (find (λ pair. strays region called pair.key) pairs)

abbrev pub given_stray :
    Region → Option Bool → Value-F Value MarkedNode MarkedPair → Option Place
given_stray region called (layer.Object pairs) =
    stray_among region (unwrap_or called (is_template (layer.Object pairs))) pairs
given_stray region called other = None

abbrev pub unless_stray : Option Place → Result (Unit {0}) ExpandFault
unless_stray None = Ok tt
unless_stray (Some place) = refused WrongKind place

-- The value of a scalar that is put into a mapping in a region, of which may be told whether it is
-- a call: no key of it may stray.
abbrev pub given_value :
    List ℕ → Frame → Place → ℕ → Region → Option Bool → Result Counted ExpandFault
given_value text frame place count region called =
    scalar_value text frame place count >>= λ one.
    unless_stray (given_stray region called (out-Value one.node.value)) >>= λ none.
    Ok one
