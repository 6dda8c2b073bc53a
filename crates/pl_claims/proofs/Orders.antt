-- Resources, and claims, are one exactly where they compare alike.
use Rattle.std.proofs.Common.{◌≡◌, true, List, ℕ, refl, ap}
use Rattle.std.specs.BTreeMap.{is_at}
use Rattle.std.specs.Cmp.{Equal-is, tied_itself}
use Rattle.std.specs.Ordering.{is_eq}
use Rattle.std.proofs.lemmas.Map.Lookups.{CmpEqualImpliesEq, exact_bytes, exact_pairs}
use Rattle.pl_base.specs.Files.{text_cmp}
use Rattle.pl_base.specs.contracts.resource.KindOrd.TheImpl as kind_order
use Rattle.pl_base.specs.contracts.resource.ResourceKeyOrd.TheImpl.Laws as key_laws
use Rattle.pl_base.specs.declared.resource.Kind.{Kind}
use Rattle.pl_base.specs.declared.resource.Kind.TheVariants.{Environment, Connection, Group}
use Rattle.pl_base.specs.declared.resource.Kind.TheVariants.{Pool, Repository}
use Rattle.pl_base.specs.declared.resource.ResourceKey.{ResourceKey}
use Rattle.pl_claims.specs.Claims.{claim_cmp, key_cmp}
use Rattle.pl_claims.specs.contracts.claim.ClaimOrd.TheImpl.Laws as claim_laws
use Rattle.pl_claims.specs.declared.claim.Claim.{Claim}

exact_kinds : CmpEqualImpliesEq (kind_order.ghosts).cmp
exact_kinds Environment Environment h = refl
exact_kinds Connection Connection h = refl
exact_kinds Group Group h = refl
exact_kinds Pool Pool h = refl
exact_kinds Repository Repository h = refl
exact_kinds _ _ h = absurd (cc)

exact_keys : CmpEqualImpliesEq key_cmp
exact_keys a b h = ap (λ (p : Kind × List ℕ). record { kind = p.0; name = p.1 })
    (exact_pairs (kind_order.ghosts).cmp text_cmp exact_kinds exact_bytes
    (a.kind, a.name) (b.kind, b.name) h)

exact_claims : CmpEqualImpliesEq claim_cmp
exact_claims a b h = ap (λ (p : List ℕ × (List ℕ × ResourceKey)). record {
  pipeline = p.0;
  name = p.1.0;
  resource = p.1.1;
})
    (exact_pairs text_cmp _ exact_bytes (exact_pairs text_cmp key_cmp exact_bytes exact_keys)
    (a.pipeline, (a.name, a.resource)) (b.pipeline, (b.name, b.resource)) h)

pub same_key : (a b : ResourceKey) → is_at (key_cmp a) b ≡ true → a ≡ b
same_key a b h = exact_keys a b ((Equal-is (key_cmp a b)).0 h)

pub key_itself : (key : ResourceKey) → is_at (key_cmp key) key ≡ true
key_itself key = ap is_eq (tied_itself key_laws.total-law key)

pub same_claim : (a b : Claim) → is_at (claim_cmp a) b ≡ true → a ≡ b
same_claim a b h = exact_claims a b ((Equal-is (claim_cmp a b)).0 h)

pub claim_itself : (claim : Claim) → is_at (claim_cmp claim) claim ≡ true
claim_itself claim = ap is_eq (tied_itself claim_laws.total-law claim)
