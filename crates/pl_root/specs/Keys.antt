-- The keys of the root file's mapping (Microsoft Learn, Azure Pipelines, "YAML schema reference",
-- pipeline), read as they are written.
use Rattle.std.specs.Prelude.{ℕ, List, [], ◌∷◌, ◌++◌}
use Rattle.std.specs.Prelude.{codes}
use Rattle.std.specs.Prelude.{Option, Some, if◌then◌else◌}
use Rattle.std.specs.Option.{option_map_or}
use Rattle.pl_base.specs.declared.expanded.Repository.{Repository}
use Rattle.pl_base.specs.declared.node.Node.{Node}
use Rattle.pl_base.specs.declared.node.NodePair.{NodePair}
use Rattle.pl_base.specs.declared.place.Place.{Place}
use Rattle.pl_base.specs.Texts.{is}
use Rattle.pl_params.specs.Earliest.{is_before}
use Rattle.pl_directives.specs.declared.fault.Complaint.{Complaint}
use Rattle.pl_directives.specs.declared.fault.ExpandProblem.TheVariants.{WrongKind}
use Rattle.pl_root.specs.declared.root_key.RootKey.{RootKey}
use Rattle.pl_root.specs.declared.root_key.RootKey.TheVariants.{Parameters, Resources, Extends}
use Rattle.pl_root.specs.declared.root_key.RootKey.TheVariants.{Variables, Other}
use Rattle.pl_directives.specs.Complaints.{complaint}
use Rattle.pl_calls.specs.Parts.{key_place_of}
use Rattle.pl_params.specs.Nodes.{under}
use Rattle.pl_root.specs.Resources.{resources_complaints, repositories_in}

-- ---- what its literal keys say before anything is expanded

abbrev pub later : Place → Place → Place
later left right = if is_before left right then right else left

-- `extends` beside a key of the root's own jobs, at the later of the two
abbrev pub beside : Option Place → Option Place → List Complaint
beside (Some extends) (Some form) = complaint WrongKind (later extends form) ∷ []
beside extends form = []

abbrev pub form_beside : List ℕ → List NodePair → List Complaint
form_beside form pairs = beside (key_place_of (codes "extends") pairs) (key_place_of form pairs)

abbrev pub resources_wrong : Option Node → List Complaint
resources_wrong resources = option_map_or resources_complaints resources []

abbrev pub root_complaints : List NodePair → List Complaint
root_complaints pairs =
    resources_wrong (under (codes "resources") pairs)
    ++ form_beside (codes "stages") pairs
    ++ form_beside (codes "jobs") pairs
    ++ form_beside (codes "steps") pairs

-- the repositories of its resources
abbrev pub repositories_of : Option Node → List Repository
repositories_of resources = option_map_or repositories_in resources []

-- what a key is, spelled exactly
abbrev pub root_key : List ℕ → RootKey
root_key key =
    if is key (codes "parameters") then Parameters
    else if is key (codes "resources") then Resources
    else if is key (codes "extends") then Extends
    else if is key (codes "variables") then Variables
    else Other
