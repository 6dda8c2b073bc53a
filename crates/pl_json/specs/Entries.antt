-- Members as the entries of a map.
use Rattle.std.specs.Prelude.{ℕ, List, map}
use Rattle.pl_json.specs.declared.members.Member.{Member}

abbrev pub entries_of : {T : Type 0} → List (Member T) → List (List ℕ × T)
entries_of members = map (λ one. (one.name, one.value)) members
