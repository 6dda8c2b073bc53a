-- How the two lists are kept.
use Rattle.std.specs.Prelude.{◌≡◌, ◌==◌, ◌&&◌, ℕ, ◌≤◌, Bool, not, List, All, AllPairs}
use Rattle.std.specs.Prelude.{Contains, filter, insert, length}
use Rattle.pl_locks.specs.declared.contender.Contender.{Contender}
use Rattle.pl_locks.specs.Locks.{IsAt, Precedes, Shares}

-- ascending by run and position, so that no stage stands in it twice
abbrev pub IsOrdered : List Contender → Type 0
IsOrdered stages = AllPairs Precedes stages

-- no stage of this run is in the list at this position
abbrev pub IsAbsent : ℕ → ℕ → List Contender → Type 0
IsAbsent run position stages = All (λ stage. ¬ IsAt run position stage) stages

-- stages that share an exclusive resource are one and the same
abbrev pub AreApart : List Contender → Type 0
AreApart stages =
    (left right : Contender) → Contains stages left → Contains stages right → Shares left right →
    left ≡ right

-- what holds of the two lists, however they came about
pub record IsKept (eligible holders : List Contender) : Type 0 where
  pub eligible_ordered : IsOrdered eligible
  pub holders_ordered : IsOrdered holders
  pub distinct : All (λ stage. IsAbsent stage.run stage.position holders) eligible
  pub apart : AreApart holders

-- whether it is the stage of this run at this position
abbrev pub is_at : ℕ → ℕ → Contender → Bool
is_at run position stage = (stage.run == run) && (stage.position == position)

-- the others, in their order
abbrev pub without : ℕ → ℕ → List Contender → List Contender
without run position stages = filter (λ stage. not (is_at run position stage)) stages

-- the stage was put among the others, in its place by run and position
pub record IsPutIn (stage : Contender) (old new : List Contender) : Type 0 where
  pub place : ℕ
  pub within : place ≤ length old
  pub is : new ≡ insert old place stage
  pub ordered : IsOrdered new
