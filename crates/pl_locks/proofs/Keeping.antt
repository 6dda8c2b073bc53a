-- Each change of the two lists keeps what holds of them.
use Rattle.std.proofs.Common.{◌≡◌, ℕ, not, List, get_or, sym, ◌∙◌, subst, ◌⊎◌, inl, inr}
use Rattle.std.specs.List.{Contains}
use Rattle.std.proofs.lemmas.List.Elements.{All-filter, filter_passes}
use Rattle.std.proofs.lemmas.List.Kept.{AllPairs-filter}
use Rattle.pl_locks.specs.declared.contender.Contender.{Contender}
use Rattle.pl_locks.specs.Locks.{Locks, IsAt, IsHeld, IsNext, Precedes, Shares}
use Rattle.pl_locks.specs.Kept.{AreApart, IsAbsent, IsKept, IsOrdered, IsPutIn, is_at, without}
use Rattle.pl_locks.proofs.Ordered.{same_at}
use Rattle.pl_locks.proofs.Moved.{All-insert, Contains-from_filter, Contains-insert_cases}
use Rattle.pl_locks.proofs.Moved.{left_differs}

pub kept_enter : (eligible holders more : List Contender) (stage : Contender) →
    IsKept eligible holders → IsAbsent stage.run stage.position holders →
    IsPutIn stage eligible more → IsKept more holders
kept_enter eligible holders more stage kept absent put = record {
  eligible_ordered = put.ordered;
  holders_ordered = kept.holders_ordered;
  distinct = rw put.is (All-insert (λ other. IsAbsent other.run other.position holders) eligible
      put.place stage kept.distinct absent);
  apart = kept.apart;
}

pub kept_leave : (run position : ℕ) (eligible holders : List Contender) → IsKept eligible holders →
    IsKept (without run position eligible) holders
kept_leave run position eligible holders kept =
    let others = λ (stage : Contender). not (is_at run position stage) in
    record {
      eligible_ordered = AllPairs-filter Precedes others eligible kept.eligible_ordered;
      holders_ordered = kept.holders_ordered;
      distinct = All-filter others (λ other. IsAbsent other.run other.position holders) eligible
          kept.distinct;
      apart = kept.apart;
    }

pub kept_release : (run position : ℕ) (eligible holders : List Contender) →
    IsKept eligible holders → IsKept eligible (without run position holders)
kept_release run position eligible holders kept =
    let others = λ (stage : Contender). not (is_at run position stage) in
    record {
      eligible_ordered = kept.eligible_ordered;
      holders_ordered = AllPairs-filter Precedes others holders kept.holders_ordered;
      distinct = λ k d below. let stage = get_or eligible k d in
          All-filter others (λ holder. IsAt stage.run stage.position holder → ⊥) holders
          (kept.distinct k d below);
      apart = λ left right l r. kept.apart left right
          (Contains-from_filter others holders left l)
          (Contains-from_filter others holders right r);
    }

shares_back : (left right : Contender) → Shares left right → Shares right left
shares_back left right (k, resource, below, is, (j, within, at)) =
    (j, resource, within, at, (k, below, is))

-- one more holder, which has no resource of the others
apart_insert : (holders : List Contender) (place : ℕ) (stage : Contender) → AreApart holders →
    (IsHeld holders stage → ⊥) → (left right : Contender) →
    Contains holders left ⊎ (stage ≡ left) → Contains holders right ⊎ (stage ≡ right) →
    Shares left right → left ≡ right
apart_insert holders place stage apart unheld left right (inl l) (inl r) shares = apart left
    right l r shares
apart_insert holders place stage apart unheld left right (inl (k, below, is)) (inr e) shares =
    absurd (unheld (k, left, below, is, rw e (shares_back left right shares)))
apart_insert holders place stage apart unheld left right (inr e) (inl (k, below, is)) shares =
    absurd (unheld (k, right, below, is, rw e shares))
apart_insert holders place stage apart unheld left right (inr e) (inr f) shares = sym e ∙ f

kept_hold : (run position : ℕ) (eligible holders more : List Contender) (stage : Contender) →
    IsKept eligible holders → IsAt run position stage → (IsHeld holders stage → ⊥) →
    IsPutIn stage holders more → IsKept (without run position eligible) more
kept_hold run position eligible holders more stage kept at unheld put =
    let others = λ (other : Contender). not (is_at run position other) in
    let cases = λ (x : Contender) (h : Contains more x).
    Contains-insert_cases holders put.place stage x (rw (← put.is) h) in
    record {
      eligible_ordered = AllPairs-filter Precedes others eligible kept.eligible_ordered;
      holders_ordered = put.ordered;
      distinct = λ k d below. let left = get_or (without run position eligible) k d in
          rw put.is (All-insert (λ holder. IsAt left.run left.position holder → ⊥) holders
          put.place stage
          (All-filter others (λ other. IsAbsent other.run other.position holders) eligible
          kept.distinct k d below)
          (left_differs run position stage left at (filter_passes others eligible k d below)));
      apart = λ left right l r.
          apart_insert holders put.place stage kept.apart unheld left right (cases left l)
          (cases right r);
    }

-- a run and a position name one stage
one_stage : (run position : ℕ) (eligible : List Contender) (left right : Contender) →
    IsOrdered eligible → Contains eligible left → Contains eligible right →
    IsAt run position left → IsAt run position right → left ≡ right
one_stage run position eligible left right ordered l r at_left at_right =
    same_at eligible left right ordered l r (at_right.0 ∙ sym at_left.0, at_right.1 ∙ sym at_left.1)

pub kept_next : (run position : ℕ) (eligible holders more : List Contender) (taken : Contender) →
    IsKept eligible holders → (stage : Contender) × IsNext eligible holders stage × IsAt run
    position stage →
    Contains eligible taken → IsAt run position taken → IsPutIn taken holders more →
    IsKept (without run position eligible) more
kept_next run position eligible holders more taken kept (stage, next, at) within at_taken put =
    let same : stage ≡ taken =
    one_stage run position eligible stage taken kept.eligible_ordered next.is_eligible within at
    at_taken in
    let free = subst (λ (x : Contender). IsHeld holders x → ⊥) same next.may_start.unheld in
    kept_hold run position eligible holders more taken kept at_taken free put

pub put_same : (run position : ℕ) (eligible holders more : List Contender) (taken : Contender) →
    IsKept eligible holders → Contains eligible taken → IsAt run position taken →
    IsPutIn taken holders more → (stage : Contender) → Contains eligible stage →
    IsAt run position stage → IsPutIn stage holders more
put_same run position eligible holders more taken kept within at_taken put stage h at =
    let same = one_stage run position eligible taken stage kept.eligible_ordered within h
    at_taken at in
    subst (λ (x : Contender). IsPutIn x holders more) same put

-- two lists as one value
abbrev pub both : List Contender → List Contender → Locks
both eligible holders = record { eligible = eligible; holders = holders }
