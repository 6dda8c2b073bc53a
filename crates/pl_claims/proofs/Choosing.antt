-- What the set of taken resources and the map of latest runs tell of a stage.
use Rattle.std.proofs.Common.{◌≡◌, ◌<◌, ◌≤◌, ◌↔◌, ◌⊎◌, ℕ, zero, suc, Bool, true, false, cond}
use Rattle.std.proofs.Common.{List, [], ◌∷◌, ◌++◌, length, take, get_or, Option, Some, None, refl, sym}
use Rattle.std.proofs.Common.{ap, ◌∙◌, subst, arith, inl, inr, ⊎_elim}
use Rattle.std.specs.BTreeMap.{BTreeMap, get, is_at}
use Rattle.std.specs.BTreeSet.{BTreeSet, contains}
use Rattle.std.specs.List.{All, Contains}
use Rattle.std.specs.Option.{option_map_or}
use Rattle.std.specs.Prelude.{IsTrue, nat_lt}
use Rattle.std.proofs.lemmas.Bool.{false≢true}
use Rattle.std.proofs.lemmas.List.{get_or_default}
use Rattle.std.proofs.lemmas.List.Elements.{Contains-append_cases, Contains-append_left}
use Rattle.std.proofs.lemmas.List.Elements.{Contains-append_right}
use Rattle.std.proofs.lemmas.List.Folds.{Any-from_list_any, list_any-from_Any}
use Rattle.pl_base.specs.declared.resource.ResourceKey.{ResourceKey}
use Rattle.pl_locks.specs.declared.contender.Contender.{Contender}
use Rattle.pl_locks.specs.Locks.{IsSuperseded, MayStart}
use Rattle.pl_locks.specs.Locks.{Precedes}
use Rattle.pl_locks.specs.Kept.{IsOrdered}
use Rattle.pl_locks.proofs.Ordered.{lower}
use Rattle.pl_claims.specs.Claims.{AreLast, AreTaken, GivesWayBy, claim_cmp, claim_of, has_claim}
use Rattle.pl_claims.specs.Claims.{is_later, key_cmp, last_run, wants, wants_taken}
use Rattle.pl_claims.specs.declared.claim.Claim.{Claim}
use Rattle.pl_claims.proofs.Orders.{claim_itself, key_itself, same_claim, same_key}

-- ---- members

taken_in : {X : Type 0} (xs : List X) (i k : ℕ) (x d : X) → k < i → k < length xs →
    get_or xs k x ≡ x → Contains (take i xs) x
taken_in xs zero k x d below within is = absurd (omega arith)
taken_in [] (suc i) k x d below within is = absurd (omega arith)
taken_in (y ∷ xs) (suc i) zero x d below within is = (0, omega arith, is)
taken_in (y ∷ xs) (suc i) (suc k) x d below within is =
    let (n, low, at) = taken_in xs i k x d (omega arith) (omega arith) is in
    (suc n, omega arith, at)

in_taken : {X : Type 0} (xs : List X) (i : ℕ) (x : X) → Contains (take i xs) x →
    (k : ℕ) × (k < i) × (k < length xs) × (get_or xs k x ≡ x)
in_taken xs zero x (k, below, is) = absurd (omega arith)
in_taken [] (suc i) x (k, below, is) = absurd (omega arith)
in_taken (y ∷ xs) (suc i) x (zero, below, is) = (0, omega arith, omega arith, is)
in_taken (y ∷ xs) (suc i) x (suc k, below, is) =
    let (n, low, within, at) = in_taken xs i x (k, omega arith, is) in
    (suc n, omega arith, omega arith, at)

-- ---- wanting

wants_it : (key : ResourceKey) (stage : Contender) → Contains stage.resources key →
    wants key stage ≡ true
wants_it key stage (k, below, is) =
    list_any-from_Any (λ own. is_at (key_cmp own) key) stage.resources
    (k, key, below, is, key_itself key)

it_wants : (key : ResourceKey) (stage : Contender) → wants key stage ≡ true →
    Contains stage.resources key
it_wants key stage h =
    let (k, own, below, is, same) =
    Any-from_list_any (λ own. is_at (key_cmp own) key) stage.resources h in
    subst (Contains stage.resources) (same_key own key same) (k, below, is)

module _ (taken : BTreeSet ResourceKey) (stages : List Contender) (are : AreTaken taken stages)
    (stage : Contender) where
  -- another one of them wants a resource of the stage
  abbrev Shared : Type 0
  Shared = (other : Contender) × Contains stages other × (key : ResourceKey)
      × Contains stage.resources key × Contains other.resources key

  pub shared_some : wants_taken taken stage ≡ true → Shared
  shared_some h =
      let (k, key, below, is, has) =
      Any-from_list_any (contains key_cmp taken) stage.resources h in
      let (n, other, low, at, wanted) =
      Any-from_list_any (wants key) stages (sym (are key) ∙ has) in
      (other, (n, low, at), key, (k, below, is), it_wants key other wanted)

  pub shared_none : wants_taken taken stage ≡ false → Shared → ⊥
  shared_none h (other, (n, low, at), key, (k, below, is), in_other) =
      let has : contains key_cmp taken key ≡ true =
      are key ∙ list_any-from_Any (wants key) stages (n, other, low, at, wants_it key other in_other)
      in
      false≢true (sym h ∙ list_any-from_Any (contains key_cmp taken) stage.resources
      (k, key, below, is, has))

-- ---- what may start

module _ (eligible holders : List Contender) (ordered : IsOrdered eligible)
    (stand : All (λ stage. IsSuperseded eligible stage → ⊥) eligible) (i : ℕ) (stage : Contender)
    (within : i < length eligible) (is : stage ≡ get_or eligible i stage)
    (taken : BTreeSet ResourceKey) (are : AreTaken taken (holders ++ take i eligible)) where
  pub may_not : wants_taken taken stage ≡ true → MayStart eligible holders stage → ⊥
  may_not h may =
      let (other, among, key, (k, below, at), in_other) =
      shared_some taken (holders ++ take i eligible) are stage h in
      ⊎_elim
      (λ held.
      let (n, low, there) = held in
      may.unheld (n, other, low, there, (k, key, below, at, in_other)))
      (λ earlier.
      let (n, less, low, there) = in_taken eligible i other earlier in
      let (m, deep, e) = in_other in
      may.first (
        n,
        other,
        low,
        there,
        record {
          precedes = subst (Precedes other) (sym is)
              (subst (λ x. Precedes x (get_or eligible i stage)) (get_or_default eligible n stage
              other low ∙ there) (ordered n i stage less within));
          shares = (m, key, deep, e, (k, below, at));
          stands = subst (λ x. IsSuperseded eligible x → ⊥) there (stand n other low);
        },
      ))
      (Contains-append_cases holders (take i eligible) other among)

  pub may : wants_taken taken stage ≡ false → MayStart eligible holders stage
  may h =
      let none = shared_none taken (holders ++ take i eligible) are stage h in
      record {
        stands = subst (λ x. IsSuperseded eligible x → ⊥) (sym is) (stand i stage within);
        unheld = λ (n, holder, low, there, (k, key, below, at, in_holder)).
            none (
              holder,
              Contains-append_left holders (take i eligible) holder (n, low, there),
              key,
              (k, below, at),
              in_holder,
            );
        first = λ (n, other, low, there, comes).
            let (m, key, deep, e, in_stage) = comes.shares in
            let less : n < i = lower eligible n i stage ordered low
            (subst (Precedes (get_or eligible n stage)) is
            (subst (λ x. Precedes x stage) (sym (get_or_default eligible n stage other low ∙ there))
            comes.precedes)) in
            none (
              other,
              Contains-append_right holders (take i eligible) other
                  (taken_in eligible i n other other less low there),
              key,
              in_stage,
              (m, deep, e),
            );
      }

-- ---- the latest runs

has_it : (claim : Claim) (stage : Contender) (key : ResourceKey) →
    Contains stage.resources key → claim_of stage key ≡ claim → has_claim claim stage ≡ true
has_it claim stage key (k, below, is) same =
    list_any-from_Any (λ own. is_at (claim_cmp (claim_of stage own)) claim) stage.resources (
      k,
      key,
      below,
      is,
      subst (λ x. is_at (claim_cmp (claim_of stage key)) x ≡ true) same
          (claim_itself (claim_of stage key)),
    )

it_has : (claim : Claim) (stage : Contender) → has_claim claim stage ≡ true →
    (key : ResourceKey) × Contains stage.resources key × (claim_of stage key ≡ claim)
it_has claim stage h =
    let (k, key, below, is, same) =
    Any-from_list_any (λ own. is_at (claim_cmp (claim_of stage own)) claim) stage.resources h in
    (key, (k, below, is), same_claim (claim_of stage key) claim same)

abbrev Among : List Contender → Claim → ℕ → Type 0
Among stages claim run = (stage : Contender) × Contains stages stage
    × (has_claim claim stage ≡ true) × (stage.run ≡ run)

-- the run that is told is that of one of them, or was told before
last_is : (claim : Claim) (stages : List Contender) (found : Option ℕ) (run : ℕ) →
    last_run claim found stages ≡ Some run → (found ≡ Some run) ⊎ Among stages claim run
last_is claim [] found run is = inl is
last_is claim (first ∷ stages) found run is =
    ⊎_elim (λ told. here (has_claim claim first) refl told)
    (λ (stage, (k, below, at), has, same). inr (stage, (suc k, omega arith, at), has, same))
    (last_is claim stages (cond (has_claim claim first) (Some first.run) found) run is)
  where
    here : (b : Bool) → has_claim claim first ≡ b →
        cond (has_claim claim first) (Some first.run) found ≡ Some run →
        (found ≡ Some run) ⊎ Among (first ∷ stages) claim run
    here true has told =
        let e : Some first.run ≡ Some run = sym (ap (λ b. cond b (Some first.run) found) has) ∙ told
        in
        let same : first.run ≡ run = cc in inr (first, (0, omega arith, refl), has, same)
    here false has told = inl (sym (ap (λ b. cond b (Some first.run) found) has) ∙ told)

abbrev Told : Option ℕ → ℕ → Type 0
Told found run = (last : ℕ) × (found ≡ Some last) × (run ≤ last)

-- one that is told of no earlier run than these stand at stays so
last_stays : (claim : Claim) (stages : List Contender) (found : Option ℕ) (run : ℕ) →
    Told found run → All (λ stage. run ≤ stage.run) stages →
    Told (last_run claim found stages) run
last_stays claim [] found run told all = told
last_stays claim (first ∷ stages) found run told all =
    last_stays claim stages (cond (has_claim claim first) (Some first.run) found) run
    (here (has_claim claim first))
    (λ k d below. all (suc k) d (omega arith))
  where
    here : (b : Bool) → Told (cond b (Some first.run) found) run
    here true = (first.run, refl, all 0 first (omega arith))
    here false = told

-- where stages ascend, the run that is told is no earlier than that of each that has the claim
last_after : (claim : Claim) (stages : List Contender) (found : Option ℕ) → IsOrdered stages →
    (stage : Contender) → Contains stages stage → has_claim claim stage ≡ true →
    Told (last_run claim found stages) stage.run
last_after claim [] found ordered stage (k, below, is) has = absurd (omega arith)
last_after claim (first ∷ stages) found ordered stage (zero, below, is) has =
    last_stays claim stages (cond (has_claim claim first) (Some first.run) found) stage.run
    (subst (λ x. has_claim claim x ≡ true → Told (cond (has_claim claim first) (Some first.run)
    found) x.run) is
    (λ same. (first.run, ap (λ b. cond b (Some first.run) found) same, omega arith)) has)
    (λ k d below. subst (λ x. x.run ≤ (get_or stages k d).run) is
    (no_earlier first (get_or stages k d)
    (ordered 0 (suc k) d (omega arith) (omega arith))))
  where
    no_earlier : (a b : Contender) → Precedes a b → a.run ≤ b.run
    no_earlier a b h = ⊎_elim (λ less. omega arith) (λ same. omega arith) h
last_after claim (first ∷ stages) found ordered stage (suc k, below, is) has =
    last_after claim stages (cond (has_claim claim first) (Some first.run) found)
    (λ i j d less within. ordered (suc i) (suc j) d (omega arith) (omega arith)) stage
    (k, omega arith, is) has

-- ---- who gives way

later_of : (run : ℕ) (found : Option ℕ) → option_map_or (nat_lt run) found false ≡ true →
    (last : ℕ) × (found ≡ Some last) × (run < last)
later_of run None h = absurd (false≢true h)
later_of run (Some last) h = (last, refl, grind arith)

of_later : (run last : ℕ) (found : Option ℕ) → found ≡ Some last → run < last →
    option_map_or (nat_lt run) found false ≡ true
of_later run last found is less =
    ap (λ o. option_map_or (nat_lt run) o false) is ∙ grind arith

module _ (eligible : List Contender) (ordered : IsOrdered eligible) (latest : BTreeMap Claim ℕ)
    (are : AreLast latest eligible) (stage : Contender) where
  gives : GivesWayBy latest stage → IsSuperseded eligible stage
  gives (behaviour, later) =
      let (k, key, below, is, h) = Any-from_list_any
      (λ own. is_later latest (claim_of stage own) stage.run) stage.resources later in
      let (last, told, less) = later_of stage.run (get claim_cmp latest (claim_of stage key)) h in
      ⊎_elim (λ none. absurd (cc))
      (λ (other, (n, low, at), has, same).
      let (own, in_other, e) = it_has (claim_of stage key) other has in (
        n,
        other,
        low,
        at,
        record {
          behaviour = behaviour;
          pipeline = ap (λ (c : Claim). c.pipeline) e;
          name = ap (λ (c : Claim). c.name) e;
          run = omega (arith, less, same);
          shares = (
            k,
            key,
            below,
            is,
            subst (Contains other.resources)
                (ap (λ (c : Claim). c.resource) e) in_other,
          );
        },
      ))
      (last_is (claim_of stage key) eligible None last (sym (are (claim_of stage key)) ∙ told))

  given : IsSuperseded eligible stage → GivesWayBy latest stage
  given (n, other, low, at, way) =
      let (k, key, below, is, in_other) = way.shares in
      let claim = claim_of stage key in
      let e : claim_of other key ≡ claim =
      ap (λ (p : List ℕ). record { pipeline = p; name = other.name; resource = key }) way.pipeline
      ∙ ap (λ (p : List ℕ). record { pipeline = stage.pipeline; name = p; resource = key }) way.name
      in
      let (last, told, late) = last_after claim eligible None ordered other (n, low, at)
      (has_it claim other key in_other e) in (
        way.behaviour,
        list_any-from_Any (λ own. is_later latest (claim_of stage own) stage.run) stage.resources (
          k,
          key,
          below,
          is,
          of_later stage.run last (get claim_cmp latest claim)
              (are claim ∙ told) (omega (arith, late, way.run)),
        ),
      )

  pub gives_way : (is : Bool) → (IsTrue is ↔ GivesWayBy latest stage) →
      IsTrue is ↔ IsSuperseded eligible stage
  gives_way is tells = (λ h. gives (tells.0 h), λ h. tells.1 (given h))
