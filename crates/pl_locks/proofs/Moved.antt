-- What is left of a list when a stage is taken out, and what is in it when one is put in.
use Rattle.std.proofs.Common.{◌≡◌, ◌<◌, Bool, true, false, not, ℕ, zero, suc, List, [], ◌∷◌, get_or}
use Rattle.std.proofs.Common.{length, take, drop, refl, sym, ap, ◌∙◌, arith, ◌⊎◌, inl, inr, ⊎_elim}
use Rattle.std.specs.List.{All, Contains, filter, insert, remove}
use Rattle.std.proofs.lemmas.Bool.{cases_lt, false≢true}
use Rattle.std.proofs.lemmas.Bool.Decides.{nat_tests}
use Rattle.std.proofs.lemmas.List.Elements.{All-append, All-cons, All-drop, All-take, All-contains}
use Rattle.std.proofs.lemmas.List.Elements.{All-contains_itself, All-filter}
use Rattle.std.proofs.lemmas.List.Sorted.{Contains-permutation, IsPermutation-insert}
use Rattle.std.proofs.lemmas.List.Sorted.{IsPermutation-sym}
use Rattle.pl_locks.specs.declared.contender.Contender.{Contender}
use Rattle.pl_locks.specs.Locks.{IsAt}
use Rattle.pl_locks.specs.Kept.{IsAbsent, IsOrdered, is_at, without}
use Rattle.pl_locks.proofs.Ordered.{differs}

filter_whole : {X : Type 0} (p : X → Bool) (xs : List X) → All (λ x. p x ≡ true) xs →
    filter p xs ≡ xs
filter_whole p [] all = refl
filter_whole p (x ∷ xs) all =
    rw (all 0 x (omega arith))
    (ap (λ ys. x ∷ ys) (filter_whole p xs (λ k d h. all (suc k) d (omega arith))))

-- the one item that doesn't pass is taken out
remove_failing : {X : Type 0} (p : X → Bool) (xs : List X) (i : ℕ) → i < length xs →
    ((d : X) → p (get_or xs i d) ≡ false) →
    ((k : ℕ) (d : X) → k < length xs → (k ≡ i → ⊥) → p (get_or xs k d) ≡ true) →
    remove xs i ≡ filter p xs
remove_failing p [] i within fails others = absurd (omega arith)
remove_failing p (x ∷ xs) zero within fails others =
    let rest = filter_whole p xs (λ k d h. others (suc k) d (omega arith) (λ e. omega arith)) in
    rw (fails x) (sym rest)
remove_failing p (x ∷ xs) (suc i) within fails others =
    rw (others 0 x (omega arith) (λ e. omega arith))
    (ap (λ ys. x ∷ ys) (remove_failing p xs i (omega arith) fails
    (λ k d h apart. others (suc k) d (omega arith) (λ e. apart (omega arith)))))

pub All-insert : {X : Type 0} (P : X → Type 0) (xs : List X) (i : ℕ) (y : X) → All P xs → P y →
    All P (insert xs i y)
All-insert P xs i y all here =
    All-append P (take i xs) (y ∷ drop i xs) (All-take P i xs all)
    (All-cons P y (drop i xs) here (All-drop P i xs all))

Contains-cons_cases : {X : Type 0} (x : X) (xs : List X) (y : X) → Contains (x ∷ xs) y →
    Contains xs y ⊎ (x ≡ y)
Contains-cons_cases x xs y (zero, below, is) = inr is
Contains-cons_cases x xs y (suc k, below, is) = inl (k, omega arith, is)

pub Contains-insert_cases : {X : Type 0} (xs : List X) (i : ℕ) (y x : X) →
    Contains (insert xs i y) x → Contains xs x ⊎ (y ≡ x)
Contains-insert_cases xs i y x h =
    let moved = IsPermutation-sym (y ∷ xs) (insert xs i y) (IsPermutation-insert xs i y) in
    Contains-cons_cases y xs x (Contains-permutation (insert xs i y) (y ∷ xs) x moved h)

pub Contains-from_filter : {X : Type 0} (p : X → Bool) (xs : List X) (x : X) →
    Contains (filter p xs) x → Contains xs x
Contains-from_filter p xs x h =
    All-contains (Contains xs) (filter p xs) x
    (All-filter p (Contains xs) xs (All-contains_itself xs)) h

at_fails : (run position : ℕ) (stage : Contender) → IsAt run position stage →
    not (is_at run position stage) ≡ false
at_fails run position stage at = grind (arith, nat_tests)

other_passes : (run position : ℕ) (stage : Contender) → (IsAt run position stage → ⊥) →
    not (is_at run position stage) ≡ true
other_passes run position stage other = grind (arith, nat_tests)

-- what is left differs from a stage that was taken out
pub left_differs : (run position : ℕ) (stage other : Contender) → IsAt run position stage →
    not (is_at run position other) ≡ true → IsAt other.run other.position stage → ⊥
left_differs run position stage other at passes same =
    let there : IsAt run position other = (sym same.0 ∙ at.0, sym same.1 ∙ at.1) in
    false≢true (sym (at_fails run position other there) ∙ passes)

-- taking out what isn't there changes nothing
pub without_absent : (run position : ℕ) (stages : List Contender) → IsAbsent run position stages →
    without run position stages ≡ stages
without_absent run position stages absent =
    filter_whole (λ stage. not (is_at run position stage)) stages
    (λ k d below. other_passes run position (get_or stages k d) (absent k d below))

-- the only stage at its place
pub remove_at : (run position : ℕ) (stages : List Contender) (place : ℕ) → IsOrdered stages →
    place < length stages → ((d : Contender) → IsAt run position (get_or stages place d)) →
    remove stages place ≡ without run position stages
remove_at run position stages place ordered within here =
    remove_failing (λ stage. not (is_at run position stage)) stages place within
    (λ d. at_fails run position (get_or stages place d) (here d))
    (λ k d below apart. other_passes run position (get_or stages k d) (λ there.
    let left = get_or stages place d in
    let right = get_or stages k d in
    let same : IsAt left.run left.position right =
    (there.0 ∙ sym (here d).0, there.1 ∙ sym (here d).1) in
    ⊎_elim (λ before. differs right left (ordered k place d before within) (sym same.0, sym same.1))
    (λ rest. differs left right (ordered place k d (omega arith) below) same)
    (cases_lt k place)))
