-- What calls inside a transaction keep.
use Rattle.std.proofs.Common.{◌⊎◌, inl, inr, ℕ, List, Ok, Err, Result, OnErr}
use Rattle.std.proofs.Common.{OnOk, [], ◌∷◌, Some, refl, ◌∙◌, arith}
use Rattle.sqlite.specs.declared.types.Value.TheVariants.{Blob}
use Rattle.sqlite.specs.Order.{Row}
use Rattle.sqlite.specs.Tree.{Trees}
use Rattle.sqlite.specs.Store.{Ghosts}
use Rattle.sqlite.specs.declared.error.Error.{Error}
use Rattle.sqlite.specs.State.{State, ExecutesInside, IsRolledBack, IsUnchanged, KeepsCommit}
use Rattle.sqlite.specs.State.{Survives}
use Rattle.sqlite.specs.Held.{Held, state}
use Rattle.pl_sqlkeeper.specs.Statements.{put_text, take_text, Ran, Replaced}

-- no call
pub survives_none : (s : State) (P : Trees → Type 0) → Survives s s P
survives_none s P = record {
  clean = omega arith;
  shield = λ h. h;
  counts = omega arith;
  limit = refl;
  closes = λ clean h. inl h;
  crash = λ clean db h. inl h;
}

-- a call that commits nothing commits no more than another one
pub survives_any : (old new : State) (P : Trees → Type 0) → Survives old new (λ _. ⊥) →
    Survives old new P
survives_any old new P it = record {
  clean = it.clean;
  shield = it.shield;
  counts = it.counts;
  limit = it.limit;
  closes = it.closes;
  crash = λ clean db may. one (it.crash clean db may);
} where
  one : {A B : Type 0} → A ⊎ ⊥ → A ⊎ B
  one (inl before) = inl before
  one (inr none) = absurd none

pub keeps_none : (s : State) → KeepsCommit s s
keeps_none s = record { was_open = λ h. h; committed = λ h. refl }

pub keeps_then : (a b c : State) → KeepsCommit a b → KeepsCommit b c → KeepsCommit a c
keeps_then a b c one two = record {
  was_open = λ h. one.was_open (two.was_open h);
  committed = λ h. two.committed h ∙ one.committed (two.was_open h);
}

pub of_unchanged : (old new : State) → IsUnchanged old new → KeepsCommit old new
of_unchanged old new h = record { was_open = λ _. h.0.was_open; committed = λ _. h.0.committed_is }

pub of_rolled_back : (old new : State) → IsRolledBack old new → KeepsCommit old new
of_rolled_back old new h = record { was_open = h.was_open; committed = λ o. (h.undone o).1 }

-- a statement inside a transaction commits nothing
pub keeps_inside : (sql : List ℕ) (params : Row) (old new : State) (r : Result ℕ Error) →
    ExecutesInside 0 sql params old new r → KeepsCommit old new
keeps_inside sql params old new (Ok count) h =
    record { was_open = λ _. h.1.was_open; committed = λ _. h.1.committed_is }
keeps_inside sql params old new (Err e) (inl (ran, inl same)) = of_unchanged old new same
keeps_inside sql params old new (Err e) (inl (ran, inr back)) = of_rolled_back old new back
keeps_inside sql params old new (Err e) (inr barred) = of_unchanged old new barred.2

pub ran_inside : {S : Type 0} (g : Ghosts S) (sql : List ℕ) (params : Row) (old new : Held S)
    (r : Result ℕ Error) → ExecutesInside 0 sql params (state g old) (state g new) r →
    OnOk r (Ran g sql params old new)
ran_inside g sql params old new (Ok count) h =
    record { count = count; executed = h.0; shown = h.1 }
ran_inside g sql params old new (Err e) h = tt

-- a row went, and another one came in its place
pub replaced : {S : Type 0} (g : Ghosts S) (place body : List ℕ) (old mid new : Held S)
    (r : Result ℕ Error) → Ran g take_text (Blob place ∷ []) old mid →
    OnOk r (Ran g put_text (Blob place ∷ Blob body ∷ []) mid new)
    → OnOk r (Replaced g place (Some body) old new)
replaced g place body old mid new (Ok count) taken put = (mid, taken, put)
replaced g place body old mid new (Err e) taken put = tt

-- what holds anyway holds after an error
pub after_error : {T E P : Type 0} (r : Result T E) → P → OnErr r P
after_error (Ok value) p = tt
after_error (Err e) p = p
