-- Objects by the members that are put into them.
use Rattle.std.specs.Prelude.{List}
use Rattle.pl_json.specs.declared.json.Json.{Json}
use Rattle.pl_json.specs.declared.json.Json.TheVariants as json
use Rattle.pl_json.specs.declared.members.Member.{Member}
use Rattle.pl_json.specs.Members.{in_order}

-- the members put in one after the other: they stand in byte order, and of one name the last counts
abbrev pub object : List (Member Json) → Json
object members = json.Object (in_order members)
