-- Claims of stages on exclusive resources.
use Rattle.std.specs.Prelude.{◌≡◌, ℕ, nat_lt, Bool, true, false, cond, List, Option, Some, None}
use Rattle.std.specs.BTreeMap.{BTreeMap, get, is_at}
use Rattle.std.specs.BTreeSet.{BTreeSet, contains}
use Rattle.std.specs.List.{fold, list_any}
use Rattle.std.specs.Option.{option_map_or}
use Rattle.std.specs.declared.cmp.Ordering.{Ordering}
use Rattle.pl_base.specs.contracts.resource.ResourceKeyOrd.TheImpl as key_order
use Rattle.pl_base.specs.declared.outcome.Behaviour.TheVariants.{RunLatest}
use Rattle.pl_base.specs.declared.resource.ResourceKey.{ResourceKey}
use Rattle.pl_locks.specs.declared.contender.Contender.{Contender}
use Rattle.pl_claims.specs.contracts.claim.ClaimOrd.TheImpl as claim_order
use Rattle.pl_claims.specs.declared.claim.Claim.{Claim}

-- by kind, then by name
abbrev pub key_cmp : ResourceKey → ResourceKey → Ordering
key_cmp = (key_order.ghosts).cmp

-- by pipeline, then by name, then by resource
abbrev pub claim_cmp : Claim → Claim → Ordering
claim_cmp = (claim_order.ghosts).cmp

-- ---- resources that are taken

-- the stage wants the resource
abbrev pub wants : ResourceKey → Contender → Bool
wants key stage = list_any (λ own. is_at (key_cmp own) key) stage.resources

-- they are those that one of these stages wants
abbrev pub AreTaken : BTreeSet ResourceKey → List Contender → Type 0
AreTaken taken stages =
    (key : ResourceKey) → contains key_cmp taken key ≡ list_any (wants key) stages

-- the stage wants one of them
abbrev pub wants_taken : BTreeSet ResourceKey → Contender → Bool
wants_taken taken stage = list_any (contains key_cmp taken) stage.resources

-- ---- the latest run at each claim

-- what a stage has in common with the stages of its name in other runs of its pipeline that want
-- the resource too
abbrev pub claim_of : Contender → ResourceKey → Claim
claim_of stage key = record { pipeline = stage.pipeline; name = stage.name; resource = key }

-- the stage has the claim
abbrev pub has_claim : Claim → Contender → Bool
has_claim claim stage =
    list_any (λ own. is_at (claim_cmp (claim_of stage own)) claim) stage.resources

-- the run of the last of these stages that has the claim
abbrev pub last_run : Claim → Option ℕ → List Contender → Option ℕ
last_run claim found stages =
    fold (λ last stage. cond (has_claim claim stage) (Some stage.run) last) found stages

-- they are the runs of the last of these stages, for each claim
abbrev pub AreLast : BTreeMap Claim ℕ → List Contender → Type 0
AreLast latest stages = (claim : Claim) → get claim_cmp latest claim ≡ last_run claim None stages

abbrev pub is_later : BTreeMap Claim ℕ → Claim → ℕ → Bool
is_later latest claim run = option_map_or (nat_lt run) (get claim_cmp latest claim) false

-- a later run has one of the stage's claims
abbrev pub has_later : BTreeMap Claim ℕ → Contender → Bool
has_later latest stage =
    list_any (λ key. is_later latest (claim_of stage key) stage.run) stage.resources

-- only the latest is to run, and it isn't that
abbrev pub GivesWayBy : BTreeMap Claim ℕ → Contender → Type 0
GivesWayBy latest stage = (stage.behaviour ≡ RunLatest) × (has_later latest stage ≡ true)
