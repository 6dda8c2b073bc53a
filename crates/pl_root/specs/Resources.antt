-- The repositories of the root file's resources (Microsoft Learn, Azure Pipelines, "YAML schema
-- reference", resources.repositories), read as they are written.
use Rattle.std.specs.Prelude.{ℕ, Bool, false, ◌||◌, List, [], ◌∷◌, ◌++◌}
use Rattle.std.specs.Prelude.{map, fold, codes, option_to_list, Option, Some, None, unwrap_or}
use Rattle.std.specs.Prelude.{if◌then◌else◌}
use Rattle.std.specs.Option.{option_map, option_and_then, option_or}
use Rattle.std.specs.List.{list_any}
use Rattle.pl_base.specs.declared.expanded.Repository.{Repository}
use Rattle.pl_base.specs.declared.place.Place.{Place}
use Rattle.pl_base.specs.declared.node.Node.{Node, fold-Node}
use Rattle.pl_base.specs.declared.node.NodeBody.TheOpen.{NodeBody-F, Node-F, NodePair-F}
use Rattle.pl_base.specs.declared.node.NodeBody.TheOpen.{Scalar, Seq, Map}
use Rattle.pl_base.specs.declared.node.NodePair.{NodePair, fold-NodePair}
use Rattle.pl_base.specs.Texts.{is}
use Rattle.pl_params.specs.Earliest.{earlier}
use Rattle.pl_template.specs.Cutting.{holds_opening}
use Rattle.pl_directives.specs.declared.fault.Complaint.{Complaint}
use Rattle.pl_directives.specs.declared.fault.ExpandProblem.TheVariants.{BadDirective, WrongKind}
use Rattle.pl_directives.specs.Complaints.{complaint}
use Rattle.pl_calls.specs.Parts.{body_of, text_in, items_in, pairs_in, text_under}
use Rattle.pl_params.specs.Nodes.{under}
use Rattle.pl_root.specs.declared.resources.Judging.{Judging}

-- ---- Expressions have no place in resources: the first key or scalar that holds one.

pub record Opened : Type 0 where
  pub text : Bool
  pub below : Option Place

abbrev pub first_of : List (Option Place) → Option Place
first_of [] = None
first_of (place ∷ places) = option_or place (first_of places)

abbrev pub opened_in : NodeBody-F Opened (Option Place) (Option Place) → Opened
opened_in (Scalar text) = record { text = holds_opening text; below = None }
opened_in (Seq items) = record { text = false; below = first_of items }
opened_in (Map pairs) = record { text = false; below = first_of pairs }

abbrev pub opened_at : Node-F Opened (Option Place) (Option Place) → Option Place
opened_at node = if node.body.text then Some node.place else node.body.below

abbrev pub opened_in_pair : NodePair-F Opened (Option Place) (Option Place) → Option Place
opened_in_pair pair = if holds_opening pair.key then Some pair.key_place else pair.item

abbrev pub opening : Node → Option Place
opening = fold-Node Opened (Option Place) (Option Place) opened_in opened_at opened_in_pair

abbrev pub pair_opening : NodePair → Option Place
pair_opening =
    fold-NodePair Opened (Option Place) (Option Place) opened_in opened_at opened_in_pair

-- ---- one repository

-- what is no text, where it stands
abbrev pub textless : Node → Option (List ℕ) → List Complaint
textless node None = complaint WrongKind node.place ∷ []
textless node (Some text) = []

abbrev pub no_text : Option Node → List Complaint
no_text None = []
no_text (Some node) = textless node (text_in (body_of node))

-- a key that is wanting, where the repository stands
abbrev pub lacking : Place → Option Node → List Complaint
lacking place None = complaint WrongKind place ∷ []
lacking place (Some node) = []

-- an alias that is `self`, or that a repository before it has
abbrev pub taken_alias : Place → List (List ℕ) → Option (List ℕ) → List Complaint
taken_alias place before None = []
taken_alias place before (Some alias) =
    if is alias (codes "self") || list_any (is alias) before then complaint WrongKind place ∷ []
    else []

-- what is wrong with a repository, behind other complaints
abbrev pub repository_complaints :
    List Complaint → Place → List (List ℕ) → List NodePair → List Complaint
repository_complaints all place before pairs =
    all
    ++ no_text (under (codes "repository") pairs)
    ++ no_text (under (codes "name") pairs)
    ++ no_text (under (codes "ref") pairs)
    ++ lacking place (under (codes "repository") pairs)
    ++ lacking place (under (codes "name") pairs)
    ++ taken_alias place before (text_under (codes "repository") pairs)

abbrev pub repository_of : List NodePair → Repository
repository_of pairs = record {
  alias = unwrap_or (text_under (codes "repository") pairs) [];
  name = unwrap_or (text_under (codes "name") pairs) [];
  git_ref = unwrap_or (text_under (codes "ref") pairs) (codes "refs/heads/main");
}

-- ---- all of them

-- the aliases of the repositories
abbrev pub alias_of : Node → Option (List ℕ)
alias_of node = option_and_then (text_under (codes "repository")) (pairs_in (body_of node))

abbrev pub item_complaints :
    List Complaint → Place → List (List ℕ) → Option (List NodePair) → List Complaint
item_complaints all place before None = all ++ complaint WrongKind place ∷ []
item_complaints all place before (Some pairs) = repository_complaints all place before pairs

-- an item behind those before it, whose aliases are known
abbrev pub judged_item : Judging → Node → Judging
judged_item judging item = record {
  aliases = judging.aliases ++ option_to_list (alias_of item);
  complaints =
      item_complaints judging.complaints item.place judging.aliases (pairs_in (body_of item));
}

abbrev pub judged_items : List Node → List Complaint
judged_items items = (fold judged_item (record { aliases = []; complaints = [] }) items).complaints

abbrev pub list_complaints : Node → Option (List Node) → List Complaint
list_complaints node None = complaint WrongKind node.place ∷ []
list_complaints node (Some items) = judged_items items

abbrev pub repositories_complaints : Option Node → List Complaint
repositories_complaints None = []
repositories_complaints (Some node) = list_complaints node (items_in (body_of node))

abbrev pub mapping_complaints : Node → Option (List NodePair) → List Complaint
mapping_complaints node None = complaint WrongKind node.place ∷ []
mapping_complaints node (Some pairs) =
    repositories_complaints (under (codes "repositories") pairs)

-- all that is wrong with resources
abbrev pub resources_complaints : Node → List Complaint
resources_complaints node =
    option_to_list (option_map (complaint BadDirective) (opening node))
    ++ mapping_complaints node (pairs_in (body_of node))

-- the repositories of resources with which nothing is wrong
abbrev pub repository_at : Node → Repository
repository_at item = repository_of (unwrap_or (pairs_in (body_of item)) [])

abbrev pub listed : Node → Option (List Node)
listed resources =
    option_and_then (λ list. items_in (body_of list))
    (option_and_then (under (codes "repositories")) (pairs_in (body_of resources)))

abbrev pub repositories_in : Node → List Repository
repositories_in resources = map repository_at (unwrap_or (listed resources) [])

-- ---- of several complaints the one at the earliest place; at one place the first

abbrev pub place_of : Complaint → Place
place_of complaint = complaint.place

abbrev pub earliest : List Complaint → Option Complaint
earliest complaints = fold (λ first next. earlier place_of first (Some next)) None complaints
