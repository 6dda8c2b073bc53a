-- The test of likeness says whether two values are the same once their origins are left out.
use Rattle.std.proofs.Common.{◌≡◌, ℕ, Bool, true, false, List, [], ◌∷◌, map, refl, ap, sym, subst}
use Rattle.std.proofs.Common.{◌∙◌, rules, arith}
use Rattle.std.specs.Prelude.{◌&&◌, nat_eq}
use Rattle.std.specs.Bool.{Decides}
use Rattle.std.specs.Ordering.{int_eq}
use Rattle.std.specs.Cmp.{booleans_Decides}
use Rattle.std.specs.Cmp.Lexicographic.{pointwise}
use Rattle.std.specs.List.{AllByRecursion}
use Rattle.std.proofs.Math.Bool.{beq}
use Rattle.std.proofs.lemmas.Bool.{false≢true}
use Rattle.std.proofs.lemmas.Bool.Decides.{Decides-eqb, Decides-int_eq, Decides-like, Decides-at}
use Rattle.std.proofs.lemmas.Bool.Decides.{Decides-and}
use Rattle.std.proofs.lemmas.Slice.Eq.{slice_eq-Decides}
use Rattle.pl_base.specs.declared.value.Value.{Value, out-Value, roll-Value, map-Value, ind-Value}
use Rattle.pl_base.specs.declared.value.Value.{the_lemmas}
use Rattle.pl_base.specs.declared.value.Value.TheVariants as value
use Rattle.pl_base.specs.declared.value.Value.TheOpen.{Value-F, MarkedNode-F, MarkedPair-F, Null}
use Rattle.pl_base.specs.declared.value.Value.TheOpen.{Bool as Truth, Number, Version, Str, Array}
use Rattle.pl_base.specs.declared.value.Value.TheOpen.{Object}
use Rattle.pl_base.specs.declared.value.MarkedNode.{MarkedNode, fold-MarkedNode, roll-MarkedNode}
use Rattle.pl_base.specs.declared.value.MarkedNode.{map-MarkedNode}
use Rattle.pl_base.specs.declared.value.MarkedPair.{MarkedPair, fold-MarkedPair, roll-MarkedPair}
use Rattle.pl_base.specs.declared.value.MarkedPair.{map-MarkedPair}
use Rattle.pl_base.specs.declared.origin.Origin.{Origin}
use Rattle.pl_literal.specs.Items.{Opened}
use Rattle.pl_literal.specs.Values.{all_pass, alike_step, alike, nodes_alike, pairs_alike, nowhere}
use Rattle.pl_literal.specs.Values.{value_without, node_without, pair_without, without_origins}

abbrev node_bare : MarkedNode → MarkedNode
node_bare = fold-MarkedNode Value MarkedNode MarkedPair value_without node_without pair_without

abbrev pair_bare : MarkedPair → MarkedPair
pair_bare = fold-MarkedPair Value MarkedNode MarkedPair value_without node_without pair_without

-- ---- one layer

-- the tests that a layer makes, and the layer without origins
abbrev tests : Opened → Value-F (Value → Bool) (MarkedNode → Bool) (MarkedPair → Bool)
tests x = map-Value Value MarkedNode MarkedPair (Value → Bool) (MarkedNode → Bool) (MarkedPair →
    Bool) alike nodes_alike pairs_alike x

abbrev bare : Opened → Value
bare x = value_without (map-Value Value MarkedNode MarkedPair Value MarkedNode MarkedPair
    without_origins node_bare pair_bare x)

alike_is : (x y : Opened) → alike (roll-Value x) (roll-Value y) ≡ alike_step (tests x) y
alike_is x y = search (rules, the_lemmas)

bare_is : (x : Opened) → without_origins (roll-Value x) ≡ bare x
bare_is x = search (rules, the_lemmas)

abbrev sort : {A B C : Type 0} → Value-F A B C → ℕ
sort Null = 0
sort (Truth truth) = 1
sort (Number number) = 2
sort (Version segments) = 3
sort (Str text) = 4
sort (Array items) = 5
sort (Object pairs) = 6

sort_of_bare : (x : Opened) → sort (out-Value (bare x)) ≡ sort x
sort_of_bare Null = search (rules, the_lemmas)
sort_of_bare (Truth truth) = search (rules, the_lemmas)
sort_of_bare (Number number) = search (rules, the_lemmas)
sort_of_bare (Version segments) = search (rules, the_lemmas)
sort_of_bare (Str text) = search (rules, the_lemmas)
sort_of_bare (Array items) = search (rules, the_lemmas)
sort_of_bare (Object pairs) = search (rules, the_lemmas)

unlike : (x y : Opened) → (sort x ≡ sort y → ⊥) → alike_step (tests x) y ≡ false
unlike Null Null differ = absurd (differ refl)
unlike (Truth a) (Truth b) differ = absurd (differ refl)
unlike (Number a) (Number b) differ = absurd (differ refl)
unlike (Version a) (Version b) differ = absurd (differ refl)
unlike (Str a) (Str b) differ = absurd (differ refl)
unlike (Array a) (Array b) differ = absurd (differ refl)
unlike (Object a) (Object b) differ = absurd (differ refl)
unlike x y differ = refl

abbrev Decided : Opened → Opened → Type 0
Decided x y = Decides (alike_step (tests x) y) (bare x ≡ bare y)

apart : (x y : Opened) → (sort x ≡ sort y → ⊥) → Decided x y
apart x y differ = (
  (λ alike. absurd (false≢true (sym (unlike x y differ) ∙ alike))),
  (λ same. absurd (differ (sym (sort_of_bare x) ∙ ap (λ v. sort (out-Value v)) same ∙
      sort_of_bare y))),
)

-- ---- lists

module _ {X Y : Type 0} (f : X → X → Bool) (w : X → Y) where
  all_alike :
      (xs ys : List X) → AllByRecursion (λ x. (y : X) → Decides (f x y) (w x ≡ w y)) xs →
      Decides (all_pass (map f xs) ys) (map w xs ≡ map w ys)
  all_alike [] [] claims = ((λ _. refl), (λ _. refl))
  all_alike [] (y ∷ ys) claims = ((λ h. absurd (false≢true h)), (λ e. cc))
  all_alike (x ∷ xs) [] claims = ((λ h. absurd (false≢true h)), (λ e. cc))
  all_alike (x ∷ xs) (y ∷ ys) claims =
      Decides-like (f x y && all_pass (map f xs) ys) (λ both i. both.0 i ∷ both.1 i)
      (λ e. let first : w x ≡ w y = cc in let rest : map w xs ≡ map w ys = cc in (first, rest))
      (Decides-and (f x y) (all_pass (map f xs) ys) (claims.0 y) (all_alike xs ys claims.1))

-- ---- values

same_items : (xs ys : List MarkedNode) → value.Array xs ≡ value.Array ys → xs ≡ ys
same_items xs ys e =
    let left : out-Value (value.Array xs) ≡ Array xs = search (rules, the_lemmas) in
    let right : out-Value (value.Array ys) ≡ Array ys = search (rules, the_lemmas) in
    let opened : (let o : Opened = Array xs in o) ≡ Array ys = sym left ∙ ap out-Value e ∙ right in
    cc

same_pairs : (xs ys : List MarkedPair) → value.Object xs ≡ value.Object ys → xs ≡ ys
same_pairs xs ys e =
    let left : out-Value (value.Object xs) ≡ Object xs = search (rules, the_lemmas) in
    let right : out-Value (value.Object ys) ≡ Object ys = search (rules, the_lemmas) in
    let opened : (let o : Opened = Object xs in o) ≡ Object ys = sym left ∙ ap out-Value e ∙
    right in
    cc

of_arrays :
    (xs ys : List MarkedNode) →
    Decides (all_pass (map nodes_alike xs) ys) (map node_bare xs ≡ map node_bare ys) →
    Decided (Array xs) (Array ys)
of_arrays xs ys claim = Decides-like (all_pass (map nodes_alike xs) ys)
    (ap (λ items. value.Array items)) (λ e. same_items (map node_bare xs) (map node_bare ys) e)
    claim

of_objects :
    (xs ys : List MarkedPair) →
    Decides (all_pass (map pairs_alike xs) ys) (map pair_bare xs ≡ map pair_bare ys) →
    Decided (Object xs) (Object ys)
of_objects xs ys claim = Decides-like (all_pass (map pairs_alike xs) ys)
    (ap (λ items. value.Object items)) (λ e. same_pairs (map pair_bare xs) (map pair_bare ys) e)
    claim

-- what is claimed of the parts of a layer
abbrev Parts : Opened → Type 0
Parts (Array xs) = AllByRecursion (λ x. (y : MarkedNode) →
    Decides (nodes_alike x y) (node_bare x ≡ node_bare y)) xs
Parts (Object xs) = AllByRecursion (λ x. (y : MarkedPair) →
    Decides (pairs_alike x y) (pair_bare x ≡ pair_bare y)) xs
Parts x = Unit {0}

layers : (x : Opened) → Parts x → (y : Opened) → Decided x y
layers Null parts Null = ((λ _. refl), (λ _. refl))
layers (Truth a) parts (Truth b) = Decides-like (beq a b) (ap (λ z. value.Bool z)) (λ e. cc)
    (booleans_Decides a b)
layers (Number a) parts (Number b) = Decides-like (int_eq a b) (ap (λ z. value.Number z)) (λ e. cc)
    (Decides-int_eq a b)
layers (Version a) parts (Version b) = Decides-like (pointwise nat_eq a b)
    (ap (λ z. value.Version z)) (λ e. cc) (slice_eq-Decides Decides-eqb a b (pointwise nat_eq a b)
    refl)
layers (Str a) parts (Str b) = Decides-like (pointwise nat_eq a b) (ap (λ z. value.Str z)) (λ e. cc)
    (slice_eq-Decides Decides-eqb a b (pointwise nat_eq a b) refl)
layers (Array xs) parts (Array ys) = of_arrays xs ys (all_alike nodes_alike node_bare xs ys parts)
layers (Object xs) parts (Object ys) =
    of_objects xs ys (all_alike pairs_alike pair_bare xs ys parts)
layers x parts y = apart x y (λ e. omega arith)

abbrev ValueClaim : Value → Type 0
ValueClaim l = (r : Value) → Decides (alike l r) (without_origins l ≡ without_origins r)

abbrev NodeClaim : MarkedNode → Type 0
NodeClaim l = (r : MarkedNode) → Decides (nodes_alike l r) (node_bare l ≡ node_bare r)

abbrev PairClaim : MarkedPair → Type 0
PairClaim l = (r : MarkedPair) → Decides (pairs_alike l r) (pair_bare l ≡ pair_bare r)

rolled : (v : Value) → roll-Value (out-Value v) ≡ v
rolled v = search (rules, the_lemmas)

value_claim : (x : Opened) → Parts x → ValueClaim (roll-Value x)
value_claim x parts r =
    subst (λ v. Decides (alike (roll-Value x) v) (without_origins (roll-Value x) ≡
    without_origins v)) (rolled r) (at_layer (out-Value r))
  where
    at_layer :
        (y : Opened) →
        Decides (alike (roll-Value x) (roll-Value y)) (without_origins (roll-Value x) ≡
        without_origins (roll-Value y))
    at_layer y =
        Decides-at (alike (roll-Value x) (roll-Value y)) (alike_step (tests x) y) (alike_is x y)
        (Decides-like (alike_step (tests x) y) (λ e. bare_is x ∙ e ∙ sym (bare_is y))
        (λ e. sym (bare_is x) ∙ e ∙ bare_is y) (layers x parts y))

node_claim :
    (origin : Origin) (l : Value) → ValueClaim l → NodeClaim (record { origin = origin; value = l })
node_claim origin l claim r =
    let node : MarkedNode = record { origin = origin; value = l } in
    let test : nodes_alike node r ≡ alike l r.value = search (rules, the_lemmas) in
    let left : node_bare node ≡ record { origin = nowhere; value = without_origins l } =
    search (rules, the_lemmas) in
    let right : node_bare r ≡ record { origin = nowhere; value = without_origins r.value } =
    search (rules, the_lemmas) in
    Decides-at (nodes_alike node r) (alike l r.value) test
    (Decides-like (alike l r.value) (λ e. left ∙ ap (λ v. record { origin = nowhere; value = v })
    e ∙ sym right) (λ e. ap (λ (n : MarkedNode). n.value) (sym left ∙ e ∙ right))
    (claim r.value))

pair_claim :
    (key : List ℕ) (key_origin : Origin) (l : MarkedNode) → NodeClaim l →
    PairClaim (record { key = key; key_origin = key_origin; item = l })
pair_claim key key_origin l claim r =
    let pair : MarkedPair = record { key = key; key_origin = key_origin; item = l } in
    let test : pairs_alike pair r ≡ (pointwise nat_eq key r.key && nodes_alike l r.item) =
    search (rules, the_lemmas) in
    let left : pair_bare pair ≡ record { key = key; key_origin = nowhere; item = node_bare l } =
    search (rules, the_lemmas) in
    let right : pair_bare r ≡ record {
      key = r.key;
      key_origin = nowhere;
      item =
          node_bare r.item;
    } = search (rules, the_lemmas) in
    Decides-at (pairs_alike pair r) (pointwise nat_eq key r.key && nodes_alike l r.item) test
    (Decides-like (pointwise nat_eq key r.key && nodes_alike l r.item)
    (λ both. left ∙ (λ i. record { key = both.0 i; key_origin = nowhere; item = both.1 i }) ∙
    sym right)
    (λ e. let same : (let p : MarkedPair = record {
      key = key;
      key_origin = nowhere;
      item =
          node_bare l;
    } in p) ≡ record {
      key = r.key;
      key_origin = nowhere;
      item =
          node_bare r.item;
    } = sym left ∙ e ∙ right in
    (ap (λ (p : MarkedPair). p.key) same, ap (λ (p : MarkedPair). p.item) same))
    (Decides-and (pointwise nat_eq key r.key) (nodes_alike l r.item)
    (slice_eq-Decides Decides-eqb key r.key (pointwise nat_eq key r.key) refl) (claim r.item)))

-- ---- induction over a value

all_of :
    {X Y : Type 0} (P : Y → Type 0) (f : X → Y) → ((x : X) → P (f x)) → (xs : List X) →
    AllByRecursion P (map f xs)
all_of P f claims [] = tt
all_of P f claims (x ∷ xs) = (claims x, all_of P f claims xs)

module _ {V N M : Type 0} (f : V → Value) (g : N → MarkedNode) (h : M → MarkedPair)
    (nodes : (n : N) → NodeClaim (g n)) (pairs : (m : M) → PairClaim (h m)) where
  parts_of : (x : Value-F V N M) → Parts (map-Value V N M Value MarkedNode MarkedPair f g h x)
  parts_of Null = tt
  parts_of (Truth truth) = tt
  parts_of (Number number) = tt
  parts_of (Version segments) = tt
  parts_of (Str text) = tt
  parts_of (Array xs) = all_of (λ x. (y : MarkedNode) →
      Decides (nodes_alike x y) (node_bare x ≡ node_bare y)) g nodes xs
  parts_of (Object xs) = all_of (λ x. (y : MarkedPair) →
      Decides (pairs_alike x y) (pair_bare x ≡ pair_bare y)) h pairs xs

  of_value :
      (x : Value-F V N M) →
      ValueClaim (roll-Value (map-Value V N M Value MarkedNode MarkedPair f g h x))
  of_value x = value_claim (map-Value V N M Value MarkedNode MarkedPair f g h x) (parts_of x)

  of_node :
      ((v : V) → ValueClaim (f v)) → (x : MarkedNode-F V N M) →
      NodeClaim (roll-MarkedNode (map-MarkedNode V N M Value MarkedNode MarkedPair f g h x))
  of_node values x = node_claim x.origin (f x.value) (values x.value)

  of_pair :
      (x : MarkedPair-F V N M) →
      PairClaim (roll-MarkedPair (map-MarkedPair V N M Value MarkedNode MarkedPair f g h x))
  of_pair x = pair_claim x.key x.key_origin (g x.item) (nodes x.item)

pub alike_decides : (l : Value) → ValueClaim l
alike_decides =
    ind-Value ValueClaim NodeClaim PairClaim
    (λ x y e. subst (λ l. ValueClaim (roll-Value l)) e (of_value (λ e. e.0) (λ e. e.0) (λ e. e.0)
    (λ e. e.1) (λ e. e.1) y))
    (λ x y e. subst (λ l. NodeClaim (roll-MarkedNode l)) e (of_node (λ e. e.0) (λ e. e.0) (λ e. e.0)
    (λ e. e.1) (λ e. e.1) (λ e. e.1) y))
    (λ x y e. subst (λ l. PairClaim (roll-MarkedPair l)) e (of_pair (λ e. e.0) (λ e. e.0) (λ e. e.0)
    (λ e. e.1) (λ e. e.1) y))
