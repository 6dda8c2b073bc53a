-- Edges followed from a node, one after the other.
use Rattle.pl_graph.proofs.Common.{BTreeSet, DependsOn, DependsTransitively, HasNone, Leads, List}
use Rattle.pl_graph.proofs.Common.{Updates, Walk, arith, btree_set_len, cases_eq, edge_cmp, false}
use Rattle.pl_graph.proofs.Common.{false≢true, has, inl, inr, joins, nat_cmp, refl, suc, sym, true}
use Rattle.pl_graph.proofs.Common.{zero, ℕ, ⊎_elim, ◌↔◌, ◌∙◌, ◌≡◌, ◌⊎◌}
use Rattle.pl_graph.proofs.Lists.{one_more}
use Rattle.pl_graph.proofs.Members.{changed, none_in}

-- what is found is reached from the start, and steps lead from there to what is to do. An edge is
-- left or leads to what is found. Where it leads from the start or from what is found, its end is
-- found or its begin to do
pub record IsReach (edges : List (ℕ × ℕ)) (start : ℕ) (rest : BTreeSet (ℕ × ℕ))
    (found todo : BTreeSet ℕ) : Type 0 where
  pub sound : (b : ℕ) → (has found b ≡ true → DependsTransitively edges start b) ×
      (has todo b ≡ true → Leads (DependsOn edges) start b)
  pub edge : (a b : ℕ) → (joins rest a b ≡ true → DependsOn edges a b) ×
      (DependsOn edges a b → ((joins rest a b ≡ true) ⊎ (has found b ≡ true)) ×
      ((start ≡ a) ⊎ (has found a ≡ true) → (has found b ≡ true) ⊎ (has todo a ≡ true)))

pub reach_none : {edges : List (ℕ × ℕ)} {start : ℕ} {rest : BTreeSet (ℕ × ℕ)}
    (found none todo : BTreeSet ℕ) →
    ((a b : ℕ) → (joins rest a b ≡ true) ↔ DependsOn edges a b) → btree_set_len found ≡ 0 →
    btree_set_len none ≡ 0 → Updates nat_cmp none todo start true →
    IsReach edges start rest found todo
reach_none found none todo all empty nothing put = record {
  sound = λ b.
      let after = put.0 b in let no = none_in nat_cmp none b nothing in
      let not_found = none_in nat_cmp found b empty in
      (λ h. absurd (false≢true (sym not_found ∙ h)), λ h. inl (grind arith));
  edge = λ a b.
      let is = all a b in let after = put.0 a in let no = none_in nat_cmp found a empty in
      grind arith;
}

module _ {edges : List (ℕ × ℕ)} {start : ℕ} {rest : BTreeSet (ℕ × ℕ)} {found todo : BTreeSet ℕ}
    (r : IsReach edges start rest found todo) where
  -- an edge is followed
  pub follow_one : (from b : ℕ) (rest_now : BTreeSet (ℕ × ℕ)) (found_now todo_now : BTreeSet ℕ) →
      has todo from ≡ true → joins rest from b ≡ true →
      Updates edge_cmp rest rest_now (from, b) false → Updates nat_cmp found found_now b true →
      Updates nat_cmp todo todo_now b true → IsReach edges start rest_now found_now todo_now
  follow_one from b rest_now found_now todo_now begun had cut put queue =
      let here = one_more (DependsOn edges) start from b ((r.sound from).1 begun)
      ((r.edge from b).0 had) in record {
        sound = λ c. ⊎_elim (λ e. (λ h. rw e at here, λ h. inr (rw e at here)))
            (λ ne. let after = put.0 c in let also = queue.0 c in
            (λ h. (r.sound c).0 (grind arith), λ h. (r.sound c).1 (grind arith))) (cases_eq b c);
        edge = λ a c.
            let was = r.edge a c in let after = changed rest rest_now from b false a c cut in
            let begin = put.0 a in let end = put.0 c in let also = queue.0 a in grind arith;
      }

  -- a node from which none is left is done
  pub drop_one : (from : ℕ) (fewer : BTreeSet ℕ) → HasNone rest from →
      Updates nat_cmp todo fewer from false → IsReach edges start rest found fewer
  drop_one from fewer none drops = record {
    sound = λ b. ((r.sound b).0, λ h. (r.sound b).1 (let after = drops.0 b in grind arith));
    edge = λ a b.
        let was = r.edge a b in let after = drops.0 a in
        let gone : from ≡ a → joins rest a b ≡ false = λ e. rw e at (none b) in grind arith;
  }

  -- where none is to do any more, all is found
  module _ (done : btree_set_len todo ≡ 0) where
    leads : (a b : ℕ) → (start ≡ a) ⊎ (has found a ≡ true) → DependsOn edges a b →
        has found b ≡ true
    leads a b h depends =
        let no = none_in nat_cmp todo a done in
        let was = ((r.edge a b).1 depends).1 h in grind arith

    whole_walk : (b m : ℕ) → Walk (DependsOn edges) start b m → has found b ≡ true
    whole_walk b zero h = leads start b (inl refl) h
    whole_walk b (suc m) (c, before, last) = leads c b (inr (whole_walk c m before)) last

    pub reach_whole : (b : ℕ) → (has found b ≡ true) ↔ DependsTransitively edges start b
    reach_whole b = ((r.sound b).0, λ (m, walk). whole_walk b m walk)
