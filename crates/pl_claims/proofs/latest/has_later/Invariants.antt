use Rattle.std.proofs.Common.{◌≡◌, false, take}
use Rattle.std.specs.List.{list_any}
use Rattle.pl_claims.specs.Claims.{claim_of, is_later}
use Rattle.pl_claims.proofs.latest.has_later.Given as goal

-- no later run is written down at a claim so far
abbrev pub invariant-loop-key : goal.invariant-loop-key
invariant-loop-key l =
    list_any (λ own. is_later l.latest (claim_of l.stage own) l.stage.run)
    (take l.key-index l.key-items) ≡ false
