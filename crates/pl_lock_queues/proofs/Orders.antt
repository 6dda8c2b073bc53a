-- Places, and resources, are one exactly where they compare alike.
use Rattle.std.proofs.Common.{◌≡◌, ◌<◌, ℕ, true, false, List, refl, sym, ap, subst, arith, ◌⊎◌, inl, inr, ⊎_elim}
use Rattle.std.specs.BTreeMap.{is_at}
use Rattle.std.specs.Cmp.{Equal-is, IsTotalOrder, nat_cmp_total, tied_itself}
use Rattle.std.specs.Ordering.{MatchOrdering, is_eq, nat_cmp, ordering_then}
use Rattle.std.specs.declared.cmp.Ordering.{Ordering}
use Rattle.std.specs.declared.cmp.Ordering.TheVariants.{Less, Equal, Greater}
use Rattle.std.proofs.lemmas.Bool.{false_from_ne_true}
use Rattle.std.proofs.lemmas.Cmp.{on_total, ranked, then_total}
use Rattle.std.proofs.lemmas.Map.Lookups.{CmpEqualImpliesEq, exact_bytes, exact_pairs}
use Rattle.std.proofs.lemmas.Map.Lookups.{exact_unsigned}
use Rattle.pl_base.specs.Files.{text_cmp}
use Rattle.pl_base.specs.contracts.resource.KindOrd.TheImpl as kind_order
use Rattle.pl_base.specs.contracts.resource.ResourceKeyOrd.TheImpl.Laws as key_laws
use Rattle.pl_base.specs.declared.resource.Kind.{Kind}
use Rattle.pl_base.specs.declared.resource.Kind.TheVariants.{Environment, Connection, Group}
use Rattle.pl_base.specs.declared.resource.Kind.TheVariants.{Pool, Repository}
use Rattle.pl_base.specs.declared.resource.ResourceKey.{ResourceKey}
use Rattle.pl_lock_queues.specs.Queues.{Place, key_cmp, place_cmp}

-- ---- places

pub exact_places : CmpEqualImpliesEq place_cmp
exact_places = exact_pairs nat_cmp nat_cmp exact_unsigned exact_unsigned

pub places_total : IsTotalOrder place_cmp
places_total = then_total (on_total (λ p. p.0) nat_cmp_total) (on_total (λ p. p.1) nat_cmp_total)

pub same_place : (a b : Place) → is_at (place_cmp a) b ≡ true → a ≡ b
same_place a b h = exact_places a b ((Equal-is (place_cmp a b)).0 h)

pub place_itself : (place : Place) → is_at (place_cmp place) place ≡ true
place_itself place = ap is_eq (tied_itself places_total place)

pub other_place : (a b : Place) → (a ≡ b → ⊥) → is_at (place_cmp a) b ≡ false
other_place a b apart = false_from_ne_true (is_at (place_cmp a) b) (λ h. apart (same_place a b h))

no_less : (x y : ℕ) → x ≡ y → x < y → ⊥
no_less x y e l = omega arith

not_both_less : (x y : ℕ) → y < x → x < y → ⊥
not_both_less x y m l = omega arith

not_same : (x y : ℕ) → y < x → x ≡ y → ⊥
not_same x y m e = omega arith

flipped : (x y : ℕ) → x ≡ y → y ≡ x
flipped x y e = sym e

then_less : (x y u v : ℕ) (r s : Ordering) → MatchOrdering r (x < y) (x ≡ y) (y < x) →
    MatchOrdering s (u < v) (u ≡ v) (v < u) → ordering_then r s ≡ Less →
    (x < y) ⊎ ((x ≡ y) × (u < v))
then_less x y u v Less s m n h = inl m
then_less x y u v Equal Less m n h = inr (m, n)
then_less x y u v Equal Equal m n h = absurd (cc)
then_less x y u v Equal Greater m n h = absurd (cc)
then_less x y u v Greater s m n h = absurd (cc)

less_then : (x y u v : ℕ) (r s : Ordering) → MatchOrdering r (x < y) (x ≡ y) (y < x) →
    MatchOrdering s (u < v) (u ≡ v) (v < u) → (x < y) ⊎ ((x ≡ y) × (u < v)) →
    ordering_then r s ≡ Less
less_then x y u v Less s m n h = refl
less_then x y u v Equal Less m n h = refl
less_then x y u v Equal Equal m n (inl l) = absurd (no_less x y m l)
less_then x y u v Equal Equal m n (inr (e, l)) = absurd (no_less u v n l)
less_then x y u v Equal Greater m n (inl l) = absurd (no_less x y m l)
less_then x y u v Equal Greater m n (inr (e, l)) = absurd (not_both_less u v n l)
less_then x y u v Greater s m n (inl l) = absurd (not_both_less x y m l)
less_then x y u v Greater s m n (inr (e, l)) = absurd (not_same x y m e)

-- of an earlier run, or at an earlier position of the same run
pub less_is : (a b : Place) → place_cmp a b ≡ Less → (a.0 < b.0) ⊎ ((a.0 ≡ b.0) × (a.1 < b.1))
less_is a b h = then_less a.0 b.0 a.1 b.1 (nat_cmp a.0 b.0) (nat_cmp a.1 b.1)
    (ranked a.0 b.0 (nat_cmp a.0 b.0) refl) (ranked a.1 b.1 (nat_cmp a.1 b.1) refl) h

pub is_less : (a b : Place) → (a.0 < b.0) ⊎ ((a.0 ≡ b.0) × (a.1 < b.1)) → place_cmp a b ≡ Less
is_less a b h = less_then a.0 b.0 a.1 b.1 (nat_cmp a.0 b.0) (nat_cmp a.1 b.1)
    (ranked a.0 b.0 (nat_cmp a.0 b.0) refl) (ranked a.1 b.1 (nat_cmp a.1 b.1) refl) h

not_less : (x y u v : ℕ) (r s : Ordering) → MatchOrdering r (x < y) (x ≡ y) (y < x) →
    MatchOrdering s (u < v) (u ≡ v) (v < u) → (ordering_then r s ≡ Less → ⊥) →
    ((x ≡ y) × (u ≡ v)) ⊎ ((y < x) ⊎ ((y ≡ x) × (v < u)))
not_less x y u v Less s m n h = absurd (h refl)
not_less x y u v Equal Less m n h = absurd (h refl)
not_less x y u v Equal Equal m n h = inl (m, n)
not_less x y u v Equal Greater m n h = inr (inr (flipped x y m, n))
not_less x y u v Greater s m n h = inr (inl m)

-- of two places that aren't one, one is less
pub else_less : (a b : Place) → (place_cmp a b ≡ Less → ⊥) → (a ≡ b) ⊎ (place_cmp b a ≡ Less)
else_less a b h = ⊎_elim (λ (m, n). inl (λ i. (m i, n i))) (λ less. inr (is_less b a less))
    (not_less a.0 b.0 a.1 b.1 (nat_cmp a.0 b.0) (nat_cmp a.1 b.1)
    (ranked a.0 b.0 (nat_cmp a.0 b.0) refl) (ranked a.1 b.1 (nat_cmp a.1 b.1) refl) h)

pub never_less : (a : Place) → place_cmp a a ≡ Less → ⊥
never_less a h = ⊎_elim (λ l. no_less a.0 a.0 refl l) (λ (e, l). no_less a.1 a.1 refl l)
    (less_is a a h)

pub both_before : (x y u v : ℕ) → (x < y) ⊎ ((x ≡ y) × (u < v)) → (y < x) ⊎ ((y ≡ x) × (v < u)) → ⊥
both_before x y u v (inl l) (inl m) = omega arith
both_before x y u v (inl l) (inr (e, m)) = omega arith
both_before x y u v (inr (e, l)) (inl m) = omega arith
both_before x y u v (inr (e, l)) (inr (f, m)) = omega arith

pub not_less_back : (a b : Place) → (a.0 < b.0) ⊎ ((a.0 ≡ b.0) × (a.1 < b.1)) →
    place_cmp b a ≡ Less → ⊥
not_less_back a b before h = both_before a.0 b.0 a.1 b.1 before (less_is b a h)

pub not_less_then : (a b : Place) → ((a.0 < b.0) ⊎ ((a.0 ≡ b.0) × (a.1 < b.1)) → ⊥) →
    place_cmp a b ≡ Less → ⊥
not_less_then a b before h = before (less_is a b h)

-- what isn't before a place isn't before one that is no later
pub up_to_less : (other result q : Place) → (place_cmp other result ≡ Less → ⊥) →
    (place_cmp q other ≡ Less → ⊥) → place_cmp q result ≡ Less → ⊥
up_to_less other result q no_later upto less =
    ⊎_elim (λ same. upto (subst (λ (p : Place). place_cmp q p ≡ Less) (sym same) less))
    (λ before. upto (places_total.trans q result other less before))
    (else_less other result no_later)

-- ---- resources

exact_kinds : CmpEqualImpliesEq (kind_order.ghosts).cmp
exact_kinds Environment Environment h = refl
exact_kinds Connection Connection h = refl
exact_kinds Group Group h = refl
exact_kinds Pool Pool h = refl
exact_kinds Repository Repository h = refl
exact_kinds _ _ h = absurd (cc)

pub exact_keys : CmpEqualImpliesEq key_cmp
exact_keys a b h = ap (λ (p : Kind × List ℕ). record { kind = p.0; name = p.1 })
    (exact_pairs (kind_order.ghosts).cmp text_cmp exact_kinds exact_bytes
    (a.kind, a.name) (b.kind, b.name) h)

pub keys_total : IsTotalOrder key_cmp
keys_total = key_laws.total-law

pub same_key : (a b : ResourceKey) → is_at (key_cmp a) b ≡ true → a ≡ b
same_key a b h = exact_keys a b ((Equal-is (key_cmp a b)).0 h)

pub key_itself : (key : ResourceKey) → is_at (key_cmp key) key ≡ true
key_itself key = ap is_eq (tied_itself keys_total key)
