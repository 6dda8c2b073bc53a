-- Declarations of parameters (Microsoft Learn, Azure Pipelines, "YAML schema reference",
-- parameters).
use Rattle.std.specs.Prelude.{ℕ, Bool, List, [], ◌∷◌, map, fold, codes}
use Rattle.std.specs.Prelude.{Option, Some, None, unwrap_or, Result, Ok, Err, if◌then◌else◌}
use Rattle.std.specs.Option.{option_map_or, option_and_then}
use Rattle.std.specs.List.{list_any}
use Rattle.pl_base.specs.declared.place.Place.{Place}
use Rattle.pl_base.specs.declared.node.Node.{Node}
use Rattle.pl_base.specs.declared.node.NodeBody.{out-NodeBody}
use Rattle.pl_base.specs.declared.node.NodeBody.TheOpen.{Scalar, Seq, Map}
use Rattle.pl_base.specs.declared.node.NodePair.{NodePair}
use Rattle.pl_base.specs.Texts.{is}
use Rattle.pl_literal.specs.Literal.{literal}
use Rattle.pl_params.specs.declared.fault.Complaint.{Complaint}
use Rattle.pl_params.specs.declared.fault.Misdeclared.{Misdeclared}
use Rattle.pl_params.specs.declared.fault.Misdeclared.TheVariants.{NoCollection, NoMapping, NoName}
use Rattle.pl_params.specs.declared.fault.Misdeclared.TheVariants.{UnknownKey, NoValues}
use Rattle.pl_params.specs.declared.fault.ParamProblem.TheVariants as problem
use Rattle.pl_params.specs.declared.judging.Judged.{Judged}
use Rattle.pl_params.specs.declared.judging.Judged.TheVariants as judgement
use Rattle.pl_params.specs.declared.kind.ParamKind.{ParamKind}
use Rattle.pl_params.specs.declared.kind.ParamKind.TheVariants as kind
use Rattle.pl_params.specs.declared.param.Param.{Param}
use Rattle.pl_params.specs.Complaints.{complaint}
use Rattle.pl_params.specs.Earliest.{earlier}
use Rattle.pl_params.specs.Judging.{judged}
use Rattle.pl_params.specs.Kinds.{kind_named}
use Rattle.pl_params.specs.Names.{is_declared}
use Rattle.pl_params.specs.Nodes.{Body, text_of, items_of, found_in, found_at, under}
use Rattle.pl_params.specs.Steps.{in_turn}

-- ---- the parts of a declaration

-- the name; a declaration without a name has the empty one
abbrev pub name_of : List NodePair → List ℕ
name_of pairs = option_map_or text_of (under (codes "name") pairs) []

-- a type that isn't written is string
abbrev pub kind_from : Option Node → Option ParamKind
kind_from None = Some kind.String
kind_from (Some node) = kind_named (text_of node)

abbrev pub kind_of : List NodePair → Option ParamKind
kind_of pairs = kind_from (under (codes "type") pairs)

-- the allowed values; values that aren't written are none
abbrev pub values_of : List NodePair → List Node
values_of pairs = unwrap_or (option_and_then items_of (under (codes "values") pairs)) []

-- the keys that a declaration may have
abbrev pub is_key : List ℕ → Bool
is_key key = list_any (is key) (codes "name" ∷ codes "type" ∷ codes "default" ∷ codes "values" ∷
    codes "displayName" ∷ [])

-- ---- what may be wrong with it

abbrev pub misdeclared : Misdeclared → Place → Complaint
misdeclared why place = complaint (problem.BadDeclaration why) place

-- a type that no parameter has
abbrev pub unknown_kind : List ℕ → Node → Option ParamKind → Option Complaint
unknown_kind name node None = Some (complaint (problem.TypeUnknown name (found_at node)) node.place)
unknown_kind name node (Some kind) = None

abbrev pub kind_complaint : List ℕ → Option Node → Option Complaint
kind_complaint name None = None
kind_complaint name (Some node) = unknown_kind name node (kind_named (text_of node))

-- a name that is declared before
abbrev pub again_complaint : List Param → Place → List ℕ → Option Complaint
again_complaint before place [] = None
again_complaint before place name = if is_declared before name
    then Some (complaint (problem.Duplicate name) place) else None

-- a default that isn't of its type or isn't allowed; where the type is unknown nothing is asked
abbrev pub misfit : List ℕ → ParamKind → Node → Judged → Option Complaint
misfit name kind node (judgement.Fits value) = None
misfit name kind node other =
    Some (complaint (problem.BadDefault name kind (found_at node)) node.place)

abbrev pub default_complaint :
    List ℕ → Option ParamKind → List Node → Option Node → Option Complaint
default_complaint name None values written = None
default_complaint name (Some kind) values None = None
default_complaint name (Some kind) values (Some node) =
    misfit name kind node (judged kind values (literal [] node))

-- no name
abbrev pub name_complaint : Place → List ℕ → Option Complaint
name_complaint place [] = Some (misdeclared NoName place)
name_complaint place name = None

-- values that are no list
abbrev pub no_values : Node → Option (List Node) → Option Complaint
no_values node None = Some (misdeclared (NoValues (found_at node)) node.place)
no_values node (Some items) = None

abbrev pub values_complaint : Option Node → Option Complaint
values_complaint None = None
values_complaint (Some node) = no_values node (items_of node)

-- a key that no declaration has
abbrev pub key_complaint : NodePair → Option Complaint
key_complaint pair = if is_key pair.key then None
    else Some (misdeclared (UnknownKey pair.key) pair.key_place)

-- ---- of several complaints the one at the earliest place, at one place the first

abbrev pub place_of : Complaint → Place
place_of complaint = complaint.place

abbrev pub first_of : List (Option Complaint) → Option Complaint
first_of complaints = fold (earlier place_of) None complaints

-- in the order of their codes
abbrev pub complaints_of : List Param → Place → List NodePair → List (Option Complaint)
complaints_of before place pairs =
    kind_complaint (name_of pairs) (under (codes "type") pairs)
    ∷ again_complaint before place (name_of pairs)
    ∷ default_complaint (name_of pairs) (kind_of pairs) (values_of pairs)
    (under (codes "default") pairs)
    ∷ name_complaint place (name_of pairs)
    ∷ values_complaint (under (codes "values") pairs)
    ∷ first_of (map key_complaint pairs)
    ∷ []

-- ---- declarations

-- the declared parameter, unless there is a complaint
abbrev pub unless : Option Complaint → Param → Result Param Complaint
unless None param = Ok param
unless (Some first) param = Err first

-- a mapping declares one parameter, which stands where the mapping does
abbrev pub written_param : Place → List NodePair → Param
written_param place pairs = record {
  name = name_of pairs;
  place = place;
  kind = unwrap_or (kind_of pairs) kind.String;
  default = under (codes "default") pairs;
  values = values_of pairs;
}

abbrev pub item_from : List Param → Node → Body → Result Param Complaint
item_from before node (Map pairs) = unless (first_of (complaints_of before node.place pairs))
    (written_param node.place pairs)
item_from before node body = Err (misdeclared (NoMapping (found_in body)) node.place)

abbrev pub item_param : List Param → Node → Result Param Complaint
item_param before node = item_from before node (out-NodeBody node.body)

-- in the older form each pair declares an object of that name and default, which stands where the
-- key does
abbrev pub object_param : NodePair → Param
object_param pair = record {
  name = pair.key;
  place = pair.key_place;
  kind = kind.Object;
  default =
      Some pair.item;
  values = [];
}

abbrev pub pair_complaint : List Param → NodePair → Option Complaint
pair_complaint before pair = earlier place_of (again_complaint before pair.key_place pair.key)
    (name_complaint pair.key_place pair.key)

abbrev pub pair_param : List Param → NodePair → Result Param Complaint
pair_param before pair = unless (pair_complaint before pair) (object_param pair)

-- declaration after declaration, each judged beside those before it
abbrev pub declares_from : Node → Body → Result (List Param) Complaint
declares_from node (Seq items) = in_turn item_param [] items
declares_from node (Map pairs) = in_turn pair_param [] pairs
declares_from node (Scalar text) = Err (misdeclared (NoCollection text) node.place)

abbrev pub declares : Node → Result (List Param) Complaint
declares node = declares_from node (out-NodeBody node.body)
