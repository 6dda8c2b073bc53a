use Rattle.std.proofs.Common.{◌≡◌, map, take}
use Rattle.pl_json.specs.declared.json.Json.TheVariants as json
use Rattle.pl_refusals.specs.Names.{role_name}
use Rattle.pl_refusals.proofs.fields.role_names.Given as goal

abbrev pub invariant-loop-role : goal.invariant-loop-role
invariant-loop-role l = l.items ≡ map json.Text (map role_name (take l.role-index l.role-items))
