-- The items that pass a test, the latest first.
use Rattle.std.proofs.Common.{◌≡◌, ◌<◌, ◌≤◌, ◌-◌, ◌&&◌, ℕ, zero, suc, Bool, true, false, cond, List}
use Rattle.std.proofs.Common.{[], ◌∷◌, ◌++◌, length, take, get_or, refl, sym, ap, ◌∙◌, subst}
use Rattle.std.proofs.Common.{arith, append_assoc}
use Rattle.std.proofs.lemmas.List.{append-nil, length-map, take-take}
use Rattle.pl_log.specs.Latest.{behind_one, last_number, latest_first}
use Rattle.pl_log.specs.Kept.{IsLinked, item_of, items_of, link_of}
use Rattle.pl_log.specs.declared.kept.Kept.{Kept}
use Rattle.pl_log.specs.declared.kept.Link.{Link}
use Rattle.pl_log.proofs.Chains.{fails_too, last_number_le, last_number_stands}
use Rattle.pl_log.proofs.Chains.{length_take_le_n, map_get_or_at, stands_here, take_suc}
use Rattle.pl_log.proofs.Chains.{wide_of_both}

latest_first_push : {X : Type 0} (test : X → Bool) (xs : List X) (x : X) →
    latest_first test (xs ++ x ∷ []) ≡ cond (test x) (x ∷ []) [] ++ latest_first test xs
latest_first_push test [] x = sym (append-nil (cond (test x) (x ∷ []) []))
latest_first_push test (y ∷ ys) x =
    ap (λ l. l ++ cond (test y) (y ∷ []) []) (latest_first_push test ys x)
    ∙ append_assoc (cond (test x) (x ∷ []) []) (latest_first test ys) (cond (test y) (y ∷ []) [])

upto_behind : {X : Type 0} (test wider : X → Bool) (x : X) (xs : List X) (n : ℕ) (here : Bool) →
    ((y : X) → test y ≡ true → wider y ≡ true) → wider x ≡ here →
    latest_first test xs ≡ latest_first test (take n xs) →
    latest_first test (x ∷ xs) ≡ latest_first test (take (behind_one n here) (x ∷ xs))
upto_behind test wider x xs zero true narrow is upto =
    ap (λ l. l ++ cond (test x) (x ∷ []) []) upto
upto_behind test wider x xs zero false narrow is upto =
    ap (λ l. l ++ cond (test x) (x ∷ []) []) upto
    ∙ ap (λ b. cond b (x ∷ []) []) (fails_too test wider x narrow is)
upto_behind test wider x xs (suc n) here narrow is upto =
    ap (λ l. l ++ cond (test x) (x ∷ []) []) upto

latest_first_upto : {X : Type 0} (test wider : X → Bool) (xs : List X) →
    ((y : X) → test y ≡ true → wider y ≡ true) →
    latest_first test xs ≡ latest_first test (take (last_number wider xs) xs)
latest_first_upto test wider [] narrow = refl
latest_first_upto test wider (x ∷ xs) narrow = upto_behind test wider x xs (last_number wider xs)
    (wider x) narrow refl (latest_first_upto test wider xs narrow)

-- what was found and what is left to find are all
pub record Gathers {X : Type 0} (wider test : X → Bool) (xs : List X) (n : ℕ)
    (found : List X) : Type 0
  where
    pub stands : last_number wider (take n xs) ≡ n
    pub all : latest_first (λ x. wider x && test x) xs ≡
        found ++ latest_first (λ x. wider x && test x) (take n xs)

gathers_begin : {X : Type 0} (wider test : X → Bool) (xs : List X) (n : ℕ) →
    last_number wider xs ≡ n → Gathers wider test xs n []
gathers_begin wider test xs n is =
    let P : ℕ → Type 0 = λ k. Gathers wider test xs k [] in
    subst P is (record {
      stands = last_number_stands wider xs;
      all = latest_first_upto (λ x. wider x && test x) wider xs (wide_of_both wider test);
    })

gathers_on : {X : Type 0} (wider test : X → Bool) (xs : List X) (m : ℕ) (d : X) (n : ℕ)
    (found : List X) →
    m < length xs → Gathers wider test xs (suc m) found → n ≡ last_number wider (take m xs) →
    Gathers wider test xs n (found ++ cond (test (get_or xs m d)) (get_or xs m d ∷ []) [])
gathers_on {X} wider test xs m d n found lt gathers is =
    let both : X → Bool = λ x. wider x && test x in
    let here = get_or xs m d in
    let before = take m xs in
    let le = last_number_le wider before in
    let short = length_take_le_n m xs in
    let same : take n before ≡ take n xs = take-take n m xs (omega arith) in
    let one : List X = cond (test here) (here ∷ []) [] in
    record {
      stands = ap (last_number wider) (sym same) ∙ ap (λ k. last_number wider (take k before)) is
          ∙ last_number_stands wider before ∙ sym is;
      all = gathers.all ∙ ap (λ l. found ++ latest_first both l) (take_suc xs m d lt)
          ∙ ap (λ l. found ++ l) (latest_first_push both before here)
          ∙ ap (λ b. found ++ (cond (b && test here) (here ∷ []) [] ++ latest_first both before))
          (stands_here wider xs m d lt gathers.stands)
          ∙ ap (λ l. found ++ (one ++ l))
          (latest_first_upto both wider before (wide_of_both wider test)
          ∙ ap (λ k. latest_first both (take k before)) (sym is) ∙ ap (latest_first both) same)
          ∙ sym (append_assoc found one (latest_first both (take n xs)));
    }

-- ---- over what is kept

abbrev pub GathersFor :
    {X : Type 0} → Link → (X → Bool) → List (Kept X) → ℕ → ℕ → List X → Type 0
GathersFor {X} link passes kept from n found = (wider : X → Bool) →
    IsLinked item_of (link_of link) wider kept → from ≡ last_number wider (items_of kept) →
    Gathers wider passes (items_of kept) n found

module _ {X : Type 0} (link : Link) (passes : X → Bool) (kept : List (Kept X)) (from : ℕ) where
  pub gather_begins : (found : List X) → found ≡ [] → GathersFor link passes kept from from found
  gather_begins found none = λ wider linked starts.
      let P : List X → Type 0 = Gathers wider passes (items_of kept) from in
      subst P (sym none) (gathers_begin wider passes (items_of kept) from (sym starts))

  pub gather_goes_on : (n : ℕ) (one : Kept X) (found more : List X) (next : ℕ) →
      0 < n → n ≤ length kept → one ≡ get_or kept (n - 1) one → next ≡ link_of link one →
      more ≡ found ++ cond (passes one.item) (one.item ∷ []) [] →
      GathersFor link passes kept from n found → GathersFor link passes kept from next more
  gather_goes_on n one found more next pos within is goes_on is_more gathers =
      λ wider linked starts.
      let items = items_of kept in
      let len : length items ≡ length kept = length-map kept item_of in
      let lt : n - 1 < length items = omega arith in
      let P : ℕ → Type 0 = λ k. Gathers wider passes items k found in
      let e : n ≡ suc (n - 1) = omega arith in
      let gather = subst P e (gathers wider linked starts) in
      let here : get_or items (n - 1) one.item ≡ one.item =
      map_get_or_at item_of kept (n - 1) one.item one (omega arith) ∙ ap item_of (sym is) in
      let wide : wider (item_of (get_or kept (n - 1) one)) ≡ true =
      sym (ap wider (map_get_or_at item_of kept (n - 1) one.item one (omega arith)))
      ∙ stands_here wider items (n - 1) one.item lt gather.stands in
      let Q : X → Type 0 = λ x. Gathers wider passes items next
      (found ++ cond (passes x) (x ∷ []) []) in
      let R : List X → Type 0 = Gathers wider passes items next in
      subst R (sym is_more)
      (subst Q here (gathers_on wider passes items (n - 1) one.item next found lt
      gather (goes_on ∙ ap (link_of link) is ∙ linked (n - 1) one (omega arith) wide)))

  pub gather_ends : (n : ℕ) (found : List X) → n ≡ 0 → GathersFor link passes kept from n found →
      (wider : X → Bool) → IsLinked item_of (link_of link) wider kept →
      from ≡ last_number wider (items_of kept) →
      found ≡ latest_first (λ item. wider item && passes item) (items_of kept)
  gather_ends n found none gathers wider linked starts =
      let P : ℕ → Type 0 = λ k. Gathers wider passes (items_of kept) k found in
      sym ((subst P none (gathers wider linked starts)).all ∙ append-nil found)
