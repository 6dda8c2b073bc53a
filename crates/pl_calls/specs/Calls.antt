-- The item of a call (Microsoft Learn, Azure Pipelines, "Templates"): `template` with a path, and
-- beside it `parameters` alone.
use Rattle.std.specs.Prelude.{ℕ, List, [], ◌∷◌, codes, unwrap_or, Result, Ok}
use Rattle.std.specs.Prelude.{if◌then◌else◌}
use Rattle.std.specs.Option.{option_copied}
use Rattle.pl_base.specs.declared.origin.Crossing.{Crossing}
use Rattle.pl_base.specs.declared.place.Place.{Place}
use Rattle.pl_base.specs.declared.value.Value.{Value, out-Value}
use Rattle.pl_base.specs.declared.value.Value.TheOpen.{Value-F}
use Rattle.pl_base.specs.declared.value.Value.TheOpen as layer
use Rattle.pl_base.specs.declared.value.MarkedNode.{MarkedNode}
use Rattle.pl_base.specs.declared.value.MarkedPair.{MarkedPair}
use Rattle.pl_expr.specs.Conversions.{cast_text}
use Rattle.pl_frame.specs.Origins.{across}
use Rattle.pl_frame.specs.Trees.{moved}
use Rattle.pl_base.specs.Texts.{is}
use Rattle.pl_params.specs.declared.given.Given.{Given}
use Rattle.pl_directives.specs.declared.fault.ExpandFault.{ExpandFault}
use Rattle.pl_directives.specs.declared.fault.ExpandProblem.TheVariants.{WrongKind}
use Rattle.pl_directives.specs.Complaints.{refused}
use Rattle.pl_reading.specs.Steps.{◌>>=◌}
use Rattle.pl_calls.specs.declared.call.Call.{Call}

-- A call: where its item stands, the text of its path, the borders that the path crossed, and the
-- arguments.
pub record Called : Type 0 where
  pub at : Place
  pub path : List ℕ
  pub crossings : List Crossing
  pub arguments : List MarkedPair

abbrev pub seen : Call → Called
seen call = record {
  at = call.at.now;
  path = call.path;
  crossings = call.crossings.now;
  arguments = unwrap_or (option_copied call.arguments) [];
}

-- ---- the path is cast to text: a list or a mapping is none

abbrev pub text_from :
    Value-F Value MarkedNode MarkedPair → MarkedNode → Result (List ℕ) ExpandFault
text_from (layer.Array items) node = refused WrongKind node.origin.source
text_from (layer.Object pairs) node = refused WrongKind node.origin.source
text_from atom node = Ok (cast_text node.value)

abbrev pub path_text : MarkedNode → Result (List ℕ) ExpandFault
path_text node = text_from (out-Value node.value) node

-- ---- the arguments are a mapping, and no other key stands beside the path

abbrev pub pairs_from :
    Value-F Value MarkedNode MarkedPair → MarkedNode → Result (List MarkedPair) ExpandFault
pairs_from (layer.Object pairs) node = Ok pairs
pairs_from other node = refused WrongKind node.origin.source

abbrev pub arguments_at : MarkedPair → Result (List MarkedPair) ExpandFault
arguments_at pair =
    if is pair.key (codes "parameters") then pairs_from (out-Value pair.item.value) pair.item
    else refused WrongKind pair.key_origin.source

-- behind those that were found
abbrev pub arguments_behind :
    List MarkedPair → List MarkedPair → Result (List MarkedPair) ExpandFault
arguments_behind found [] = Ok found
arguments_behind found (pair ∷ pairs) =
    arguments_at pair >>= λ found. arguments_behind found pairs

-- ---- the whole

abbrev pub call_with : Place → MarkedNode → List MarkedPair → Result Called ExpandFault
call_with at path pairs =
    path_text path >>= λ text.
    arguments_behind [] pairs >>= λ arguments.
    Ok (record {
      at = at;
      path = text;
      crossings = path.origin.crossings;
      arguments = arguments;
    })

abbrev pub call_from : Value-F Value MarkedNode MarkedPair → Place → Result Called ExpandFault
call_from (layer.Object (pair ∷ pairs)) at = call_with at pair.item pairs
call_from other at = refused WrongKind at

abbrev pub call_of : MarkedNode → Result Called ExpandFault
call_of item = call_from (out-Value item.value) item.origin.source

-- ---- what an argument gives: all of it crosses the border to the template

abbrev pub given_across : Crossing → MarkedPair → Given
given_across crossing pair = record {
  name = pair.key;
  place = pair.key_origin.source;
  value = moved (across crossing) pair.item;
}
