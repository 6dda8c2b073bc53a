-- The stages that are picked from those in order are all of which something holds.
use Rattle.std.proofs.Common.{◌≡◌, ◌<◌, ◌+◌, ◌⊎◌, ◌↔◌, ℕ, Bool, true, false, cond, List, [], ◌∷◌}
use Rattle.std.proofs.Common.{◌++◌, length, get_or, drop, Option, Some, None, refl, sym, ap, ◌∙◌}
use Rattle.std.proofs.Common.{subst, arith, inl, inr, ⊎_elim}
use Rattle.std.specs.Prelude.{IsTrue}
use Rattle.std.proofs.lemmas.Bool.{false≢true}
use Rattle.std.specs.List.{AllPairs, Any, Contains}
use Rattle.std.proofs.lemmas.List.{append_assoc, drop_more}
use Rattle.std.proofs.lemmas.List.Kept.{AllPairs-cons}
use Rattle.pl_facts.specs.declared.fact.Fact.{Fact}
use Rattle.pl_facts.specs.declared.fact.QueuedRun.{QueuedRun}
use Rattle.pl_locks.specs.Locks.{IsAt, Precedes}
use Rattle.pl_locks.specs.Kept.{IsOrdered}
use Rattle.pl_locks.specs.declared.contender.Contender.{Contender}
use Rattle.pl_plan.specs.declared.plan.PlanStage.{PlanStage}
use Rattle.pl_due.specs.declared.open_stages.Place.{Place}
use Rattle.pl_due.specs.Contention.{AreThose, InRun, IsOne, contender_of}
use Rattle.pl_due.specs.Nodes.{IsStageOf}
use Rattle.pl_due.specs.Open.{at_place}
use Rattle.pl_due.specs.Scans.{HasStages, IsBefore, IsPicked, Picked}
use Rattle.pl_due.proofs.Members.{all_from, any_there, cons_cases, head_before, here, tail_pairs}
use Rattle.pl_due.proofs.Members.{there}
use Rattle.pl_due.proofs.OneStage.{moved}

module _ (facts : List Fact) (P : InRun) where
  -- ---- one stage after the other

  pub picked_some : (places : List Place) (i : ℕ) (at : Place) (stage : Contender)
      (old new : List Contender) → i < length places → at ≡ get_or places i at →
      IsPicked facts P at.run at.stage (Some stage) → new ≡ old ++ stage ∷ [] →
      ((rest : List Contender) → Picked facts P (drop i places) rest →
      Picked facts P places (old ++ rest)) →
      (rest : List Contender) → Picked facts P (drop (i + 1) places) rest →
      Picked facts P places (new ++ rest)
  picked_some places i at stage old new within is one grown so_far rest picked =
      let e : at ∷ drop (i + 1) places ≡ drop i places =
      ap (λ x. x ∷ drop (i + 1) places) is ∙ sym (drop_more places i at within) in
      let f : old ++ stage ∷ rest ≡ new ++ rest =
      sym (append_assoc old (stage ∷ []) rest) ∙ ap (λ front. front ++ rest) (sym grown) in
      subst (Picked facts P places) f (so_far (stage ∷ rest)
      (subst (λ left. Picked facts P left (stage ∷ rest)) e
      (inl (stage, rest, refl, one, picked))))

  pub picked_none : (places : List Place) (i : ℕ) (at : Place) (old new : List Contender) →
      i < length places → at ≡ get_or places i at →
      IsPicked facts P at.run at.stage None → new ≡ old →
      ((rest : List Contender) → Picked facts P (drop i places) rest →
      Picked facts P places (old ++ rest)) →
      (rest : List Contender) → Picked facts P (drop (i + 1) places) rest →
      Picked facts P places (new ++ rest)
  picked_none places i at old new within is none same so_far rest picked =
      let e : at ∷ drop (i + 1) places ≡ drop i places =
      ap (λ x. x ∷ drop (i + 1) places) is ∙ sym (drop_more places i at within) in
      subst (λ front. Picked facts P places (front ++ rest)) (sym same) (so_far rest
      (subst (λ left. Picked facts P left rest) e (inr (none, picked))))

  -- ---- all of them

  record ComesFrom (places : List Place) (stage : Contender) : Type 0 where
    pub at : Place
    pub among : Contains places at
    pub is_at : IsAt at.run at.stage stage
    pub one : IsOne facts P stage

  further : (first : Place) (places : List Place) (stage : Contender) →
      ComesFrom places stage → ComesFrom (first ∷ places) stage
  further first places stage from = record {
    at = from.at;
    among = there from.at first places from.among;
    is_at = from.is_at;
    one = from.one;
  }

  comes_from : (places : List Place) (picked : List Contender) → Picked facts P places picked →
      (stage : Contender) → Contains picked stage → ComesFrom places stage
  comes_from [] picked is stage (k, below, at) =
      let none : length picked ≡ 0 = ap length is in absurd (omega arith)
  comes_from (first ∷ places) picked (inl (one, rest, is, (k, at), others)) stage in_picked =
      ⊎_elim
      (λ same. record {
        at = first;
        among = here first places;
        is_at = subst (IsAt first.run first.stage) same at;
        one = subst (IsOne facts P) same k;
      })
      (λ behind. further first places stage (comes_from places rest others stage behind))
      (cons_cases stage one rest (subst (λ xs. Contains xs stage) is in_picked))
  comes_from (first ∷ places) picked (inr (none, others)) stage in_picked =
      further first places stage (comes_from places picked others stage in_picked)

  in_order : (places : List Place) (picked : List Contender) → AllPairs IsBefore places →
      Picked facts P places picked → IsOrdered picked
  in_order [] picked ordered is =
      let none : length picked ≡ 0 = ap length is in
      λ i j d less within. absurd (omega arith)
  in_order (first ∷ places) picked ordered (inl (one, rest, is, (k, at), others)) =
      let behind : (x : Contender) → Contains rest x → Precedes one x = λ x in_rest.
      let from = comes_from places rest others x in_rest in
      let before = head_before IsBefore first from.at places ordered from.among in
      ⊎_elim (λ less. inl (omega (arith, at.0, from.is_at.0, less)))
      (λ (same, less). inr (
        at.0 ∙ same ∙ sym from.is_at.0,
        omega (arith, at.1, from.is_at.1, less),
      )) before in
      subst IsOrdered (sym is) (AllPairs-cons Precedes one rest
      (all_from (Precedes one) rest behind)
      (in_order places rest (tail_pairs IsBefore first places ordered) others))
  in_order (first ∷ places) picked ordered (inr (none, others)) =
      in_order places picked (tail_pairs IsBefore first places ordered) others

  all_picked : (places : List Place) (picked : List Contender) → Picked facts P places picked →
      (at : Place) → Contains places at → (told : QueuedRun) (one : PlanStage) →
      IsStageOf facts at.run at.stage told one → P told one at.run at.stage →
      Any (IsAt at.run at.stage) picked
  all_picked [] picked is at (k, below, same) told one there holds = absurd (omega arith)
  all_picked (first ∷ places) picked (inl (stage, rest, is, (k, found), others)) at in_places told
      one is_there holds =
      subst (Any (IsAt at.run at.stage)) (sym is) (⊎_elim
      (λ same. (
        0,
        stage,
        omega arith,
        refl,
        subst (λ p. IsAt p.run p.stage stage) same found,
      ))
      (λ behind. any_there (IsAt at.run at.stage) stage rest
      (all_picked places rest others at behind told one is_there holds))
      (cons_cases at first places in_places))
  all_picked (first ∷ places) picked (inr (none, others)) at in_places told one is_there holds =
      ⊎_elim
      (λ same. absurd (subst (λ p. IsPicked facts P p.run p.stage None) same none told one is_there
      holds))
      (λ behind. all_picked places picked others at behind told one is_there holds)
      (cons_cases at first places in_places)

  -- where it holds of no other stages
  pub are_those : (Q : InRun) (places : List Place) (picked : List Contender) →
      HasStages facts Q places →
      ((told : QueuedRun) (one : PlanStage) (run stage : ℕ) → P told one run stage →
      Q told one run stage) → Picked facts P places picked → AreThose facts P picked
  are_those Q places picked has_open stays is = record {
    ordered = in_order places picked has_open.ordered is;
    only = all_from (IsOne facts P) picked (λ stage in_picked.
        (comes_from places picked is stage in_picked).one);
    all = λ told one run stage is_there holds.
        all_picked places picked is (at_place run stage)
        (has_open.all told one run stage is_there (stays told one run stage holds)) told one
        is_there holds;
  }

-- ---- one stage

module _ (facts : List Fact) (P : InRun) (told : QueuedRun) (one : PlanStage) (run stage : ℕ)
    (there : IsStageOf facts run stage told one) where
  pub picked_one : (picked : Contender) → P told one run stage →
      picked ≡ contender_of facts told one run stage → IsPicked facts P run stage (Some picked)
  picked_one picked holds is =
      subst (λ (c : Contender). IsPicked facts P run stage (Some c)) (sym is) (
        record { told = told; one = one; there = there; holds = holds; is = refl },
        (refl, refl),
      )

  pub not_picked : (P told one run stage → ⊥) → IsPicked facts P run stage None
  not_picked none = λ t o is_there holds.
      none (moved facts run stage t told o one (λ x y. P x y run stage) is_there there holds)

  pub picked_if : (b : Bool) → IsTrue b ↔ P told one run stage → (picked : Option Contender) →
      picked ≡ cond b (Some (contender_of facts told one run stage)) None →
      IsPicked facts P run stage picked
  picked_if true tells picked is = subst (IsPicked facts P run stage) (sym is)
      (picked_one (contender_of facts told one run stage) (tells.0 refl) refl)
  picked_if false tells picked is = subst (IsPicked facts P run stage) (sym is)
      (not_picked (λ holds. false≢true (tells.1 holds)))
