-- Items that are put into a list in a region: a call is followed, anything else stands there.
use Rattle.std.specs.Prelude.{List, [], ◌∷◌, Option, Some, None, Result, Ok}
use Rattle.pl_base.specs.declared.origin.Origin.{Origin}
use Rattle.pl_base.specs.declared.place.FileKey.{FileKey}
use Rattle.pl_base.specs.declared.value.Value.{Value, out-Value}
use Rattle.pl_base.specs.declared.value.Value.TheOpen.{Value-F}
use Rattle.pl_base.specs.declared.value.Value.TheOpen as layer
use Rattle.pl_base.specs.declared.value.MarkedNode.{MarkedNode}
use Rattle.pl_base.specs.declared.value.MarkedPair.{MarkedPair}
use Rattle.pl_directives.specs.declared.fault.ExpandFault.{ExpandFault}
use Rattle.pl_directives.specs.declared.progress.Content.{Content}
use Rattle.pl_directives.specs.declared.progress.Content.TheVariants.{Unknown, Items, Pairs}
use Rattle.pl_directives.specs.declared.progress.Progress.{Progress}
use Rattle.pl_directives.specs.declared.region.Form.{Form}
use Rattle.pl_directives.specs.Contents.{add_items, object_of, with_count}
use Rattle.pl_directives.specs.Regions.{call_form}
use Rattle.pl_reading.specs.Steps.{◌>>=◌}
use Rattle.pl_calls.specs.Meant.{◌>>>◌, alone}
use Rattle.pl_recursion.specs.Following.{Scope}

abbrev pub add_by :
    Option Form → Scope → MarkedNode → Progress → List FileKey →
    Result (Progress × List FileKey) ExpandFault
add_by None scope item progress used =
    alone (add_items item.origin.source (item ∷ []) progress) used
add_by (Some form) scope item progress used =
    scope.follow scope.frame form item progress.count used >>> λ more used.
    alone (add_items item.origin.source more.items (with_count more.count progress)) used

abbrev pub add_item :
    Scope → MarkedNode → Progress → List FileKey → Result (Progress × List FileKey) ExpandFault
add_item scope item progress used =
    add_by (call_form scope.region item) scope item progress used

-- ---- what directives alone put in an item's place, behind the items that are there

-- where pairs came of it they are one item; where nothing came of it there is none
abbrev pub splice :
    Scope → Origin → Content → Progress → List FileKey →
    Result (Progress × List FileKey) ExpandFault
splice scope origin Unknown progress used = Ok (progress, used)
splice scope origin (Items items) progress used =
    alone (add_items origin.source items progress) used
splice scope origin (Pairs []) progress used = Ok (progress, used)
splice scope origin (Pairs (pair ∷ pairs)) progress used =
    object_of origin (pair ∷ pairs) >>= λ item. add_item scope item progress used

-- an expression's value as an item: an array's items stand in its place
abbrev pub spread_of :
    Value-F Value MarkedNode MarkedPair → Scope → MarkedNode → Progress → List FileKey →
    Result (Progress × List FileKey) ExpandFault
spread_of (layer.Array items) scope node progress used =
    alone (add_items node.origin.source items progress) used
spread_of other scope node progress used = add_item scope node progress used

abbrev pub spread :
    Scope → MarkedNode → Progress → List FileKey → Result (Progress × List FileKey) ExpandFault
spread scope node progress used = spread_of (out-Value node.value) scope node progress used
