use Rattle.std.proofs.Common.{◌≡◌, drop, map}
use Rattle.pl_json.specs.Members.{ascends}
use Rattle.pl_requests.proofs.well_formed.arguments_ascend.Given as goal

abbrev pub invariant-loop-one : goal.invariant-loop-one
invariant-loop-one l =
    ascends l.fn.first (map (λ one. one.name) l.fn.rest) ≡
    ascends l.last (map (λ one. one.name) (drop l.one-index l.fn.rest))
