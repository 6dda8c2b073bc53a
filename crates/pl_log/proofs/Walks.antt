-- A walk over what is kept, along the numbers that lead back.
use Rattle.std.proofs.Common.{◌≡◌, ◌<◌, ◌≤◌, ◌-◌, ◌&&◌, ℕ, suc, Bool, true, false, List, length}
use Rattle.std.proofs.Common.{get_or, None, Some, sym, ap, ◌∙◌, subst, arith}
use Rattle.std.proofs.lemmas.List.{length-map}
use Rattle.pl_log.specs.Kept.{IsLinked, item_of, items_of, link_of}
use Rattle.pl_log.specs.Latest.{last_number, latest}
use Rattle.pl_log.specs.declared.kept.Kept.{Kept}
use Rattle.pl_log.specs.declared.kept.Link.{Link}
use Rattle.pl_log.proofs.Chains.{Walks, latest_at, latest_none, map_get_or_at, stands_here}
use Rattle.pl_log.proofs.Chains.{walk_begins, walk_ends, walk_finds, walk_goes_on}

-- whatever the items are about to whose latest the walk's first number led
abbrev pub WalksFor : {X : Type 0} → Link → (X → Bool) → List (Kept X) → ℕ → ℕ → Type 0
WalksFor {X} link passes kept from n = (wider : X → Bool) →
    IsLinked item_of (link_of link) wider kept → from ≡ last_number wider (items_of kept) →
    Walks wider passes (items_of kept) n

module _ {X : Type 0} (link : Link) (passes : X → Bool) (kept : List (Kept X)) (from : ℕ) where
  pub walks_begin : WalksFor link passes kept from from
  walks_begin = λ wider linked starts. walk_begins wider passes (items_of kept) from (sym starts)

  item_at : (n : ℕ) (one : Kept X) → 0 < n → n ≤ length kept → one ≡ get_or kept (n - 1) one →
      get_or (items_of kept) (n - 1) one.item ≡ one.item
  item_at n one pos within is =
      map_get_or_at item_of kept (n - 1) one.item one (omega arith) ∙ ap item_of (sym is)

  walks_at : (n : ℕ) → 0 < n → WalksFor link passes kept from n →
      WalksFor link passes kept from (suc (n - 1))
  walks_at n pos walks =
      let P : ℕ → Type 0 = WalksFor link passes kept from in
      let e : n ≡ suc (n - 1) = omega arith in
      subst P e walks

  pub walks_on : (n : ℕ) (one : Kept X) → 0 < n → n ≤ length kept →
      one ≡ get_or kept (n - 1) one → passes one.item ≡ false → WalksFor link passes kept from n →
      WalksFor link passes kept from (link_of link one)
  walks_on n one pos within is fails walks = λ wider linked starts.
      let items = items_of kept in
      let len : length items ≡ length kept = length-map kept item_of in
      let lt : n - 1 < length items = omega arith in
      let walk = walks_at n pos walks wider linked starts in
      let here = item_at n one pos within is in
      let wide : wider (item_of (get_or kept (n - 1) one)) ≡ true =
      sym (ap wider (map_get_or_at item_of kept (n - 1) one.item one (omega arith)))
      ∙ stands_here wider items (n - 1) one.item lt walk.stands in
      walk_goes_on wider passes items (n - 1) one.item (link_of link one) lt walk
      (ap passes here ∙ fails)
      (ap (link_of link) is ∙ linked (n - 1) one (omega arith) wide)

  pub walks_find : (n : ℕ) (one : Kept X) → 0 < n → n ≤ length kept →
      one ≡ get_or kept (n - 1) one → passes one.item ≡ true → WalksFor link passes kept from n →
      (wider : X → Bool) → IsLinked item_of (link_of link) wider kept →
      from ≡ last_number wider (items_of kept) →
      Some one.item ≡ latest (λ item. wider item && passes item) (items_of kept)
  walks_find n one pos within is found walks wider linked starts =
      let items = items_of kept in
      let len : length items ≡ length kept = length-map kept item_of in
      let lt : n - 1 < length items = omega arith in
      let walk = walks_at n pos walks wider linked starts in
      let here = item_at n one pos within is in
      sym (walk_finds wider passes items (n - 1) one.item lt walk (ap passes here ∙ found)
      ∙ ap (λ x. Some x) here)

  pub walks_end : (n : ℕ) → n ≡ 0 → WalksFor link passes kept from n →
      (wider : X → Bool) → IsLinked item_of (link_of link) wider kept →
      from ≡ last_number wider (items_of kept) →
      None ≡ latest (λ item. wider item && passes item) (items_of kept)
  walks_end n none walks wider linked starts =
      let P : ℕ → Type 0 = Walks wider passes (items_of kept) in
      sym (walk_ends wider passes (items_of kept) (subst P none (walks wider linked starts)))

-- the item of a number
pub found_item : {X : Type 0} (test : X → Bool) (kept : List (Kept X)) (n : ℕ) (one : Kept X) →
    0 < n → n ≤ length kept → one ≡ get_or kept (n - 1) one →
    n ≡ last_number test (items_of kept) → Some one.item ≡ latest test (items_of kept)
found_item test kept n one pos within is number =
    let e : suc (n - 1) ≡ n = omega arith in
    sym (latest_at test (items_of kept) (n - 1) one.item (sym number ∙ sym e)
    ∙ ap (λ x. Some x) (map_get_or_at item_of kept (n - 1) one.item one (omega arith)
    ∙ ap item_of (sym is)))

pub no_item : {X : Type 0} (test : X → Bool) (kept : List (Kept X)) (n : ℕ) → n ≡ 0 →
    n ≡ last_number test (items_of kept) → None ≡ latest test (items_of kept)
no_item test kept n none number = sym (latest_none test (items_of kept) (sym number ∙ none))
