-- Nodes placed one by one, the least ready one each time.
use Rattle.pl_graph.proofs.Common.{All-contains, AreEdges, BTreeSet, Contains, DependsOn, GoesOn}
use Rattle.pl_graph.proofs.Common.{HasNone, IsFromIterResult, IsLeastReady, IsPlacement, List}
use Rattle.pl_graph.proofs.Common.{PlacesLeast, Updates, [], arith, btree_set_len, cases_eq}
use Rattle.pl_graph.proofs.Common.{edge_cmp, false, has, inl, inr, joins, nat_cmp, true, turned_of}
use Rattle.pl_graph.proofs.Common.{ℕ, ⊎_elim, ◌++◌, ◌<◌, ◌↔◌, ◌∷◌, ◌≡◌, ◌≤◌, ◌⊎◌}
use Rattle.pl_graph.proofs.Lists.{Contains-none, pushed, turn_push}
use Rattle.pl_graph.proofs.Members.{are_in, changed, none_in, turned_is}

pub edge_within : (n : ℕ) (edges : List (ℕ × ℕ)) (a b : ℕ) → AreEdges n edges →
    DependsOn edges a b → (a < n) × (b < n)
edge_within n edges a b are h =
    All-contains (λ edge. (edge.0 < n) × (edge.1 < n)) edges (a, b) are h

-- nodes are placed, the last of them `last` (n at first). What a node misses are nodes on which it
-- depends, of the placed ones at most the last, and all those that aren't placed; a placed node
-- misses none. The candidates are nodes that aren't placed. Each node is placed or a candidate, or
-- misses one
pub record IsPlacing (n : ℕ) (edges : List (ℕ × ℕ)) (placed : List ℕ) (last : ℕ)
    (dependents missing : BTreeSet (ℕ × ℕ)) (candidates : BTreeSet ℕ) : Type 0 where
  pub least : PlacesLeast n edges placed
  pub edge : (x b : ℕ) → ((joins dependents b x ≡ true) ↔ (joins missing x b ≡ true)) ×
      (joins missing x b ≡ true → DependsOn edges x b × (Contains placed b → last ≡ b) ×
      (Contains placed x → ⊥)) ×
      (DependsOn edges x b → ((joins missing x b ≡ true) ⊎ Contains placed b) ×
      (last ≡ b → Contains placed b))
  pub waiting : (x : ℕ) → has candidates x ≡ true → (x < n) × (Contains placed x → ⊥)
  pub each : (x : ℕ) → (Contains placed x → x < n) ×
      (x < n → Contains placed x ⊎ ((has candidates x ≡ true) ⊎ GoesOn missing x))

pub placing_none : {n : ℕ} {edges : List (ℕ × ℕ)} {dependents missing : BTreeSet (ℕ × ℕ)}
    {candidates : BTreeSet ℕ} → IsFromIterResult edge_cmp (turned_of edges) dependents →
    IsFromIterResult edge_cmp edges missing →
    AreEdges n edges → ((x : ℕ) → (has candidates x ≡ true) ↔ (x < n)) →
    IsPlacing n edges [] n dependents missing candidates
placing_none {n = n} {edges} {dependents} {missing} turned made are all = record {
  least = tt;
  edge = λ x b.
      let one = are_in (turned_of edges) dependents turned b x in
      let other = are_in edges missing made x b in let same = turned_is edges x b in
      let begin = Contains-none x in let end = Contains-none b in
      let ends = edge_within n edges x b are in grind arith;
  waiting = λ x h. ((all x).0 h, Contains-none x);
  each = λ x. (λ h. absurd (Contains-none x h), λ within. inr (inl ((all x).1 within)));
}

module _ {n : ℕ} {edges : List (ℕ × ℕ)} {placed : List ℕ} {last : ℕ}
    {dependents missing : BTreeSet (ℕ × ℕ)} {candidates : BTreeSet ℕ} (are : AreEdges n edges)
    (p : IsPlacing n edges placed last dependents missing candidates) where
  -- an edge to the last node is taken out
  pub take_one : (x : ℕ) (fewer now : BTreeSet (ℕ × ℕ)) (more : BTreeSet ℕ) →
      joins dependents last x ≡ true → Updates edge_cmp dependents fewer (last, x) false →
      Updates edge_cmp missing now (x, last) false → Updates nat_cmp candidates more x true →
      IsPlacing n edges placed last fewer now more
  take_one x fewer now more on cut mirror put =
      let had = (p.edge x last).1 ((p.edge x last).0.0 on) in
      let here : (x < n) × (Contains placed x → ⊥) =
      ((edge_within n edges x last are had.0).0, had.2) in
      let kept : (z : ℕ) → has candidates z ≡ true → has more z ≡ true =
      λ z h. let after = put.0 z in grind arith in
      let still : (z b : ℕ) → (x ≡ z → ⊥) → joins missing z b ≡ true → joins now z b ≡ true =
      λ z b ne h. let other = changed missing now x last false z b mirror in grind arith in record {
        least = p.least;
        edge = λ a b.
            let was = p.edge a b in let one = changed dependents fewer last x false b a cut in
            let other = changed missing now x last false a b mirror in
            (grind arith, λ h. was.1 (grind arith), grind arith);
        waiting = λ z h. ⊎_elim (λ e. rw e at here)
            (λ ne. p.waiting z (let after = put.0 z in grind arith)) (cases_eq x z);
        each = λ z. (
          (p.each z).0,
          λ low. ⊎_elim (λ e. inr (inl (rw e at put.1))) (λ ne. ⊎_elim inl (λ rest. inr (⊎_elim
              (λ h. inl (kept z h)) (λ (b, h). inr (b, still z b ne h)) rest)) ((p.each z).1 low))
              (cases_eq x z),
        );
      }

  -- a candidate that misses one isn't placed
  pub pass_one : (node : ℕ) (fewer : BTreeSet ℕ) → GoesOn missing node →
      Updates nat_cmp candidates fewer node false →
      IsPlacing n edges placed last dependents missing fewer
  pass_one node fewer goes pops = record {
    least = p.least;
    edge = p.edge;
    waiting = λ x h. p.waiting x (let after = pops.0 x in grind arith);
    each = λ x.
        let was = p.each x in let after = pops.0 x in
        let same : node ≡ x → GoesOn missing x = λ e. rw e at goes in grind arith;
  }

  -- ---- no edge to the last node is left
  module _ (none : HasNone dependents last) where
    open_still : (x b : ℕ) → joins missing x b ≡ true → Contains placed b → ⊥
    open_still x b h =
        let was = p.edge x b in
        let gone : last ≡ b → joins dependents b x ≡ false = λ e. rw e at (none x) in grind arith

    -- the least candidate misses none, and is placed
    module _ (node : ℕ) (popped : BTreeSet ℕ) (had : has candidates node ≡ true)
        (low : (x : ℕ) → has candidates x ≡ true → node ≤ x) (free : HasNone missing node) where
      least : IsLeastReady n edges placed node
      least = (
        record {
          node = (p.waiting node had).0;
          unplaced = (p.waiting node had).1;
          after = λ b depends. let was = p.edge node b in let no = free b in grind arith;
        },
        λ y ready. ⊎_elim (λ h. absurd (ready.unplaced h)) (⊎_elim (low y)
            (λ (b, h). absurd (open_still y b h (ready.after b ((p.edge y b).1 h).0))))
            ((p.each y).1 ready.node),
      )

      pub place_one : Updates nat_cmp candidates popped node false →
          IsPlacing n edges (placed ++ node ∷ []) node dependents missing popped
      place_one pops = record {
        least = turn_push (IsLeastReady n edges) [] placed node p.least least;
        edge = λ a b.
            let was = p.edge a b in let still = open_still a b in
            let begin = pushed placed node a in let end = pushed placed node b in
            let none : node ≡ a → joins missing a b ≡ false = λ e. rw e at (free b) in
            (was.0, λ h. grind arith, λ h. grind arith);
        waiting = λ x h.
            let was = p.waiting x in let push = pushed placed node x in
            let after = pops.0 x in grind arith;
        each = λ x.
            let was = p.each x in let push = pushed placed node x in let after = pops.0 x in
            let same : node ≡ x → x < n = λ e. rw e at (p.waiting node had).0 in grind arith;
      }

    -- no candidate is left
    pub placed_all : btree_set_len candidates ≡ 0 → IsPlacement n edges placed missing
    placed_all empty = record {
      least = p.least;
      missed = λ x b h. (((p.edge x b).1 h).0, open_still x b h);
      kept = λ x b depends. ((p.edge x b).2 depends).0;
      each = λ x.
          let was = p.each x in let no = none_in nat_cmp candidates x empty in grind arith;
    }
