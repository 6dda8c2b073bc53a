use Rattle.std.proofs.Common.{◌≡◌, map}
use Rattle.pl_json.specs.Members.{member}
use Rattle.pl_json.proofs.members.listed.Given as goal

abbrev pub invariant-loop-name : goal.invariant-loop-name
invariant-loop-name g l = l.members.items ≡ map (λ entry. member entry.0 entry.1) l.yielded
