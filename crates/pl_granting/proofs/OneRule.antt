-- Facts, a moment, an agent and a job leave no choice in the first rule that is broken.
use Rattle.std.proofs.Common.{◌≡◌, ℕ, true, false, List, [], ◌∷◌, Option, Some, None, drop, refl}
use Rattle.std.proofs.Common.{sym, ap, ◌∙◌, subst, inl, inr}
use Rattle.std.proofs.lemmas.Bool.{true≢false}
use Rattle.pl_base.specs.declared.resource.ResourceKey.{ResourceKey}
use Rattle.pl_checks.specs.declared.check.Check.{Check}
use Rattle.pl_checks.specs.declared.view.CheckView.{CheckView}
use Rattle.pl_checks.specs.declared.view.Verdict.{Verdict}
use Rattle.pl_checks.specs.Verdicts.{IsVerdict}
use Rattle.pl_facts.specs.declared.fact.Fact.{Fact}
use Rattle.pl_judgement.specs.Said.{first_wait}
use Rattle.pl_locks.specs.Kept.{IsOrdered}
use Rattle.pl_locks.specs.Locks.{ComesFirst, Locks}
use Rattle.pl_locks.specs.declared.contender.Contender.{Contender}
use Rattle.pl_locks.proofs.Ordered.{neither_precedes, same_at}
use Rattle.pl_requests.specs.declared.settings.AgentSetting.{AgentSetting}
use Rattle.pl_due.specs.Checked.{exclusive_uses}
use Rattle.pl_due.proofs.Members.{of_member}
use Rattle.pl_due.proofs.OneDue.{one_contention, one_verdicts}
use Rattle.pl_granting.specs.Broken.{Broken, Tells, asked_rules}
use Rattle.pl_granting.specs.Locked.{Awaits, FirstHeld, IsBehindRule, IsHeldRule, LeastFirst}
use Rattle.pl_granting.specs.Locked.{as_contender, behind_rule, held_rule}
use Rattle.pl_granting.specs.Named.{JobOf}
use Rattle.pl_granting.specs.Rules.{busy, ended, full, job_waits, lacks, other_pool, stage_waits}
use Rattle.pl_granting.specs.Rules.{taken, unpermitted}
use Rattle.pl_granting.proofs.InOrder.{AllTellOne, TellsOne, one_first, one_unless, tells_one}

-- ---- one stage holds the first resource that is held

one_held : (holders : List Contender) → IsOrdered holders → (keys : List ResourceKey) →
    (a b : Option Contender) → FirstHeld holders keys a → FirstHeld holders keys b → a ≡ b
one_held holders ordered [] a b left right = left ∙ sym right
one_held holders ordered (key ∷ keys) a b (inl (s, is, h)) (inl (t, also, k)) =
    let same = same_at holders s t ordered h.has.0 k.has.0
    (neither_precedes s t (k.least s h.has) (h.least t k.has)) in
    is ∙ ap (λ (c : Contender). Some c) same ∙ sym also
one_held holders ordered (key ∷ keys) a b (inl (s, is, h)) (inr (none, later)) =
    absurd (none s h.has)
one_held holders ordered (key ∷ keys) a b (inr (none, later)) (inl (t, also, k)) =
    absurd (none t k.has)
one_held holders ordered (key ∷ keys) a b (inr (none, later)) (inr (nothing, after)) =
    one_held holders ordered keys a b later after

-- ---- one stage is the least that comes first

one_behind : (eligible : List Contender) → IsOrdered eligible → (stage : Contender) →
    (a b : Option Contender) → LeastFirst eligible stage a → LeastFirst eligible stage b → a ≡ b
one_behind eligible ordered stage None None left right = refl
one_behind eligible ordered stage (Some s) None left right =
    absurd (of_member (λ other. ComesFirst eligible other stage → ⊥) eligible s right
    left.is_eligible left.comes)
one_behind eligible ordered stage None (Some t) left right =
    absurd (of_member (λ other. ComesFirst eligible other stage → ⊥) eligible t left
    right.is_eligible right.comes)
one_behind eligible ordered stage (Some s) (Some t) left right =
    let same = same_at eligible s t ordered left.is_eligible right.is_eligible
    (neither_precedes s t (right.least s left.is_eligible left.comes)
    (left.least t right.is_eligible right.comes)) in
    ap (λ (c : Contender). Some c) same

-- ---- all rules

module _ (one : (check : Check) (view : CheckView) (moment : ℕ) (left right : Verdict) →
    IsVerdict check view moment left → IsVerdict check view moment right → left ≡ right)
    (facts : List Fact) (moment : ℕ) (at : JobOf) where
  one_wait : TellsOne (Awaits facts moment at)
  one_wait a b (v, are, is) (w, also, too) = is
      ∙ ap first_wait (one_verdicts one facts moment at.queued at.staged at.run at.stage v w are
      also) ∙ sym too

  one_held_rule : TellsOne (IsHeldRule facts moment at)
  one_held_rule a b left right =
      let same = one_contention facts moment left.locks right.locks left.contention
      right.contention in
      let keys = exclusive_uses facts at.staged in
      let moved : FirstHeld right.locks.holders keys left.stage =
      subst (λ (l : Locks). FirstHeld l.holders keys left.stage) same left.held in
      left.gets ∙ ap held_rule (one_held right.locks.holders right.contention.holders.ordered keys
      left.stage right.stage moved right.held) ∙ sym right.gets

  one_behind_rule : TellsOne (IsBehindRule facts moment at)
  one_behind_rule a b left right =
      let same = one_contention facts moment left.locks right.locks left.contention
      right.contention in
      let itself = as_contender facts at in
      let moved : LeastFirst right.locks.eligible itself left.stage =
      subst (λ (l : Locks). LeastFirst l.eligible itself left.stage) same left.first in
      left.gets ∙ ap behind_rule (one_behind right.locks.eligible
      right.contention.eligible.ordered itself left.stage right.stage moved right.first)
      ∙ sym right.gets

  start_one : (agent : AgentSetting) → AllTellOne (drop 6 (asked_rules facts moment agent at))
  start_one agent =
      let asked = asked_rules facts moment agent at in
      let full : AllTellOne (drop 11 asked) = (tells_one (full facts at), tt) in
      let turn : AllTellOne (drop 10 asked) = (tells_one (job_waits facts at), full) in
      let behind : AllTellOne (drop 9 asked) =
      (one_unless facts at (IsBehindRule facts moment at) one_behind_rule, turn) in
      let held : AllTellOne (drop 8 asked) =
      (one_unless facts at (IsHeldRule facts moment at) one_held_rule, behind) in
      let awaits : AllTellOne (drop 7 asked) =
      (one_unless facts at (Awaits facts moment at) one_wait, held) in
      let permits = tells_one (unpermitted facts at) in
      (one_unless facts at (Tells (unpermitted facts at)) permits, awaits)

  all_one : (agent : AgentSetting) → AllTellOne (asked_rules facts moment agent at)
  all_one agent =
      let asked = asked_rules facts moment agent at in
      let stages : AllTellOne (drop 5 asked) =
      (tells_one (stage_waits facts at), start_one agent) in
      let able : AllTellOne (drop 4 asked) = (tells_one (lacks agent at), stages) in
      let pool : AllTellOne (drop 3 asked) = (tells_one (other_pool agent at), able) in
      let busy : AllTellOne (drop 2 asked) = (tells_one (busy facts agent.name), pool) in
      let taken : AllTellOne (drop 1 asked) = (tells_one (taken facts agent.name at), busy) in
      (tells_one (ended facts at), taken)

  pub one_broken : (agent : AgentSetting) → TellsOne (Broken facts moment agent at)
  one_broken agent a b (inl (held, none)) (inl (also, nothing)) = none ∙ sym nothing
  one_broken agent a b (inl (held, none)) (inr (free, first)) =
      absurd (true≢false (sym held ∙ free))
  one_broken agent a b (inr (free, first)) (inl (held, none)) =
      absurd (true≢false (sym held ∙ free))
  one_broken agent a b (inr (free, first)) (inr (also, too)) =
      one_first (asked_rules facts moment agent at) (all_one agent) a b first too
