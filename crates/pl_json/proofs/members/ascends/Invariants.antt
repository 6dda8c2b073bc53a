use Rattle.std.proofs.Common.{◌≡◌, drop}
use Rattle.pl_json.specs.Members.{ascends, names_of}
use Rattle.pl_json.proofs.members.ascends.Given as goal

abbrev pub invariant-loop-member : goal.invariant-loop-member
invariant-loop-member g l =
    ascends l.fn.first.name (names_of l.fn.rest) ≡
    ascends l.last.name (names_of (drop l.member-index l.fn.rest))
