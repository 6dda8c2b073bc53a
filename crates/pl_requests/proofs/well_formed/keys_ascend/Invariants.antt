use Rattle.std.proofs.Common.{◌≡◌, drop, map}
use Rattle.pl_json.specs.Members.{ascends}
use Rattle.pl_requests.proofs.well_formed.keys_ascend.Given as goal

abbrev pub invariant-loop-one : goal.invariant-loop-one
invariant-loop-one l =
    ascends l.fn.first (map (λ one. one.0) l.fn.rest) ≡
    ascends l.last (map (λ one. one.0) (drop l.one-index l.fn.rest))
