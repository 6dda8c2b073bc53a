use Rattle.std.proofs.Common.{◌≡◌, Some, cond, take}
use Rattle.std.specs.BTreeMap.{get, is_at}
use Rattle.std.specs.List.{list_any}
use Rattle.pl_claims.specs.Claims.{claim_cmp, claim_of}
use Rattle.pl_claims.specs.declared.claim.Claim.{Claim}
use Rattle.pl_claims.proofs.latest.put.Given as goal

-- the run is written down at the claims so far
abbrev pub invariant-loop-key : goal.invariant-loop-key
invariant-loop-key l = (claim : Claim) → get claim_cmp l.latest claim
    ≡ cond (list_any (λ own. is_at (claim_cmp (claim_of l.stage own)) claim)
    (take l.key-index l.key-items)) (Some l.stage.run) (get claim_cmp l.fn.latest claim)
