-- Counts that rise.
use Rattle.std.proofs.Common.{◌≡◌, ◌<◌, ◌||◌, ◌⊎◌, ℕ, Bool, true, false, List, [], ◌∷◌, Some, None}
use Rattle.std.proofs.Common.{arith, refl, ap, ◌∙◌, subst, inl, inr, nat_lt, zero, suc}
use Rattle.std.specs.Prelude.{if◌then◌else◌}
use Rattle.std.proofs.lemmas.Bool.{false≢true}
use Rattle.pl_base.specs.Counts.{one_more}
use Rattle.pl_commands.specs.Counted.{more}
use Rattle.pl_listener.specs.Handles.{Handle}
use Rattle.pl_outfit.specs.Doors.{Doors, ended}
use Rattle.pl_outfit.specs.Stores.{one_more_if}
use Rattle.pl_serving.specs.Doors.{all_ended}
use Rattle.pl_worker.specs.Ends.{end_of, has_failed, lacks_memory, one_of, was_stopped}
use Rattle.pl_worker.specs.Works.{CountsFault}
use Rattle.pl_worker.specs.declared.why.End.TheVariants as the_end
use Rattle.pl_worker.specs.declared.why.Reasons.{Reasons}
use Rattle.pl_worker.specs.declared.why.Why.{Why}
use Rattle.pl_worker.specs.declared.why.Why.TheVariants as why

-- ---- one count

one_is_some : (n : ℕ) → 0 < one_more n
one_is_some n = omega arith

pub faulty : (old new : ℕ) → new ≡ one_more old → nat_lt 0 new ≡ true
faulty old new is = grind (arith, is)

pub at_most_one : (b : Bool) (n : ℕ) → (one_more_if b n ≡ n) ⊎ (one_more_if b n ≡ one_more n)
at_most_one true n = inr refl
at_most_one false n = inl refl

-- one more before others is one more behind them
one_first : (times n : ℕ) → more times (one_more n) ≡ one_more (more times n)
one_first zero n = refl
one_first (suc times) n = ap one_more (one_first times n)

-- ---- the counts of handles

counts_after : (b : Bool) (n times last : ℕ) → last ≡ more times (one_more_if b n)
    → (t : ℕ) × (last ≡ more t n)
counts_after true n times last is = (suc times, is ∙ one_first times n)
counts_after false n times last is = (times, is)

-- however many handles were ended
pub counts_of : (handles : List Handle) (doors : Doors)
    → (times : ℕ) × ((all_ended handles doors).faults ≡ more times doors.faults)
counts_of [] doors = (zero, refl)
counts_of (handle ∷ handles) doors =
    let behind = counts_of handles (ended handle doors) in
    counts_after (nat_lt 0 handle.faults) doors.faults behind.0 _ behind.1

-- one of them had counted a fault
abbrev pub IsOneFaulty : List Handle → Type 0
IsOneFaulty [] = ⊥
IsOneFaulty (handle ∷ handles) = (nat_lt 0 handle.faults ≡ true) ⊎ IsOneFaulty handles

rises_after : (b : Bool) (n times last : ℕ) → last ≡ one_more (more times (one_more_if b n))
    → (t : ℕ) × (last ≡ one_more (more t n))
rises_after true n times last is = (suc times, is ∙ ap one_more (one_first times n))
rises_after false n times last is = (times, is)

pub rises_of : (handles : List Handle) (doors : Doors) → IsOneFaulty handles
    → (times : ℕ) × ((all_ended handles doors).faults ≡ one_more (more times doors.faults))
rises_of [] doors one = absurd one
rises_of (handle ∷ handles) doors (inl one) =
    let behind = counts_of handles (ended handle doors) in (
      behind.0,
      subst (λ b. (all_ended handles (ended handle doors)).faults
          ≡ more behind.0 (one_more_if b doors.faults)) one behind.1
          ∙ one_first behind.0 doors.faults,
    )
rises_of (handle ∷ handles) doors (inr one) =
    let behind = rises_of handles (ended handle doors) one in
    rises_after (nat_lt 0 handle.faults) doors.faults behind.0 _ behind.1

-- ---- the reasons of workers

pub counts_failed : (reason : Why) (old new : ℕ) → has_failed reason ≡ true
    → CountsFault reason old new → nat_lt 0 new ≡ true
counts_failed why.Failed old new is counts = faulty old new counts
counts_failed why.Stopped old new is counts = absurd (false≢true is)
counts_failed why.Closed old new is counts = absurd (false≢true is)
counts_failed why.Memory old new is counts = absurd (false≢true is)

or_is : (a b : Bool) → (a || b) ≡ true → (a ≡ true) ⊎ (b ≡ true)
or_is true b is = inl refl
or_is false b is = inr is

pub one_failed : (all : Reasons) → one_of has_failed all ≡ true
    → (has_failed all.first ≡ true) ⊎ ((has_failed all.second ≡ true)
    ⊎ ((has_failed all.third ≡ true) ⊎ (has_failed all.fourth ≡ true)))
one_failed all is = go (or_is (has_failed all.first) _ is)
  where
    last : ((has_failed all.third || has_failed all.fourth) ≡ true)
        → (has_failed all.third ≡ true) ⊎ (has_failed all.fourth ≡ true)
    last so = or_is (has_failed all.third) (has_failed all.fourth) so

    next : ((has_failed all.second ≡ true)
        ⊎ ((has_failed all.third || has_failed all.fourth) ≡ true))
        → (has_failed all.second ≡ true)
        ⊎ ((has_failed all.third ≡ true) ⊎ (has_failed all.fourth ≡ true))
    next (inl so) = inl so
    next (inr so) = inr (last so)

    go : ((has_failed all.first ≡ true) ⊎ ((has_failed all.second
        || (has_failed all.third || has_failed all.fourth)) ≡ true))
        → (has_failed all.first ≡ true) ⊎ ((has_failed all.second ≡ true)
        ⊎ ((has_failed all.third ≡ true) ⊎ (has_failed all.fourth ≡ true)))
    go (inl so) = inl so
    go (inr so) = inr (next (or_is (has_failed all.second) _ so))

-- where the four ended since the listener failed, one of them had that reason
pub failed_by : (all : Reasons) → end_of all ≡ Some the_end.Failed → one_of has_failed all ≡ true
failed_by all is = go (one_of was_stopped all) (one_of has_failed all) (one_of lacks_memory all) is
  where
    go : (stopped failed lacks : Bool)
        → (if stopped then Some the_end.Stopped else (if failed then Some the_end.Failed
        else (if lacks then Some the_end.Memory else None))) ≡ Some the_end.Failed
        → failed ≡ true
    go true failed lacks so = absurd (cc so)
    go false true lacks so = refl
    go false false true so = absurd (cc so)
    go false false false so = absurd (cc so)
