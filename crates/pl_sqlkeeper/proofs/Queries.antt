-- What a query keeps, and what its answer says of the rows.
use Rattle.std.proofs.Common.{[], ◌≡◌, ◌⊎◌, inl, inr, Bool, true, false, ℕ, List, map, Option}
use Rattle.std.proofs.Common.{Some, None, Result, Ok, Err, IfOk, IfErr, IsTrue, refl, sym, ap}
use Rattle.std.proofs.Common.{subst}
use Rattle.std.proofs.Common.{◌∙◌, true≢false, if◌then◌else◌, IsPermutation}
use Rattle.std.proofs.lemmas.List.Sorted.{IsPermutation-sym}
use Rattle.sqlite_trees.proofs.Doubt.{no_doubt}
use Rattle.sqlite_trees.proofs.ListLemmas.{all_from_map, ascending_from_map}
use Rattle.sqlite.specs.Order.{Row}
use Rattle.sqlite.specs.Store.{Ghosts}
use Rattle.sqlite.specs.Effect.{Database}
use Rattle.sqlite.specs.declared.error.Error.{Error}
use Rattle.sqlite_schema.specs.declared.command.Returning.{Returning}
use Rattle.sqlite.specs.State.{State, FailsToQuery, HasCleanDisk, IsNotRun, IsTooLate, KeepsCommit}
use Rattle.sqlite.specs.State.{FailsToShow, Shown, ShowsRows}
use Rattle.sqlite.specs.Clock.{timed}
use Rattle.sqlite.specs.Held.{Held, state}
use Rattle.pl_sqlkeeper.specs.Kept.{number_row, read_row, AreApart, StaysOurs}
use Rattle.pl_sqlkeeper.specs.Schema.{kept_schema}
use Rattle.pl_sqlkeeper.specs.Statements.{count_text, read_text, IsUndone, Looked}
use Rattle.pl_sqlkeeper.proofs.Apart.{apart_permuted}
use Rattle.pl_sqlkeeper.proofs.Meaning.{counts, reads}
use Rattle.pl_sqlkeeper.proofs.Surviving.{of_rolled_back, of_unchanged}
use Rattle.pl_sqlkeeper.proofs.Told.{back_to}

keeps_shown : (sql : List ℕ) (params : Row) (old new : State) (rows : List Row) →
    Shown sql params old new rows → IsTrue old.in_transaction → KeepsCommit old new
unfolding Shown
keeps_shown sql params old new rows h inside = go h.0.returning h.2 where
  go : (o : Option Returning) →
      ShowsRows old new sql h.0 (timed params h.0.formats h.1.now) rows o → KeepsCommit old new
  go None it = of_unchanged old new it.3
  go (Some what) it = record {
    was_open = λ _. it.1.shown.was_open;
    committed = λ _. it.1.shown.committed_is ∙
        ap (λ (b : Bool). if b then old.committed else new.now) inside;
  }

shown_open : (sql : List ℕ) (params : Row) (old new : State) (rows : List Row) →
    Shown sql params old new rows → IsTrue old.is_open
unfolding Shown
shown_open sql params old new rows h = go h.0.returning h.2 where
  go : (o : Option Returning) →
      ShowsRows old new sql h.0 (timed params h.0.formats h.1.now) rows o → IsTrue old.is_open
  go None it = it.3.0.was_open
  go (Some what) it = it.1.shown.was_open

keeps_failed : (sql : List ℕ) (params : Row) (old new : State) (e : Error) →
    FailsToQuery sql params old new e → KeepsCommit old new
unfolding FailsToQuery IsNotRun
keeps_failed sql params old new e (inl (inl it)) = of_unchanged old new it.1
keeps_failed sql params old new e (inl (inr fails)) = of_rolled_back old new fails.3
keeps_failed sql params old new e (inr h) = go h.0.returning h.2 where
  go : (o : Option Returning) →
      FailsToShow old new sql h.0 (timed params h.0.formats h.1.now) e o → KeepsCommit old new
  go None it = of_unchanged old new it.3
  go (Some what) (inl it) = of_unchanged old new it.1
  go (Some what) (inr fails) = of_rolled_back old new fails.3

-- a query inside a transaction commits nothing
pub keeps_query : {V : Type 0} (items : V → List Row) (sql : List ℕ) (params : Row)
    (old new : State) (r : Result V Error) →
    IfOk r (λ rows. Shown sql params old new (items rows)) →
    IfErr r (λ e. FailsToQuery sql params old new e ⊎ IsTooLate sql params old new e) →
    IsTrue old.in_transaction → KeepsCommit old new
keeps_query items sql params old new (Ok rows) shown failed inside =
    keeps_shown sql params old new (items rows) shown inside
keeps_query items sql params old new (Err e) shown (inl fails) inside =
    keeps_failed sql params old new e fails
keeps_query items sql params old new (Err e) shown (inr late) inside =
    of_unchanged old new late.5

module _ {S : Type 0} (g : Ghosts S) where
  -- an answer inside the transaction is one to whoever began it
  pub looks : {V : Type 0} (items : V → List Row) (sql : List ℕ) (old begun last end : Held S)
      (r : Result V Error) → begun ≡ record old { in_transaction = true } →
      (HasCleanDisk (state g end) → HasCleanDisk (state g last)) →
      (HasCleanDisk (state g last) →
      IfOk r (λ rows. Shown sql [] (state g begun) (state g last) (items rows))) →
      IfOk r (λ rows. HasCleanDisk (state g end) → Looked g sql old (items rows))
  looks items sql old begun last end (Ok rows) is early shown = λ clean. (
    last,
    subst (λ (h : Held S). Shown sql [] (state g h) (state g last) (items rows)) is
        (shown (early clean)),
  )
  looks items sql old begun last end (Err e) is early shown = tt

  -- an open database has met an honest disk
  pub open_clean : ((s : S) → (g.view s).is_clean ≡ false → (g.view s).is_open ≡ false) →
      (h : Held S) → IsTrue (state g h).is_open → HasCleanDisk (state g h)
  open_clean shut h o = one (g.view h.store).is_clean refl where
    one : (b : Bool) → (g.view h.store).is_clean ≡ b → HasCleanDisk (state g h)
    one true e = no_doubt (g.view h.store).is_clean e
    one false e = absurd (true≢false (sym o ∙ shut h.store e))

  module _ (old new : Held S)
      (undone : IsTrue (state g new).is_open → IsUndone (state g old) (state g new))
      (settled : IsTrue (state g old).is_open → (state g old).now ≡ (state g old).committed) where
    back : IsTrue (state g new).is_open → (state g new).now ≡ (state g old).now
    back o = back_to (state g old) (state g new) undone settled o

    pub read_all : {V : Type 0} (items : V → List Row) (r : Result V Error) →
        (IsTrue (state g new).is_open → HasCleanDisk (state g new)) → StaysOurs (state g old) →
        IfOk r (λ rows. HasCleanDisk (state g new) → Looked g read_text old (items rows)) →
        IfOk r (λ rows. IsTrue (state g new).is_open →
        IsPermutation (map read_row ((state g new).now.trees 0)) (items rows))
    read_all items (Ok rows) clean ours looked = λ o.
        let it = looked (clean o) in
        subst (λ (d : Database). IsPermutation (map read_row (d.trees 0)) (items rows))
        (sym (back o)) (reads (state g (record old { in_transaction = true })) (state g it.0)
        (items rows) (ours ((undone o).was_open o)).schema it.1)
    read_all items (Err e) clean ours looked = tt

    pub same_schema : old.schema ≡ kept_schema → IsTrue (state g new).is_open →
        new.schema ≡ kept_schema
    same_schema is o = ap (λ (d : Database). d.schema) (back o) ∙ is

    pub apart_all : {V : Type 0} (items : V → List Row) (r : Result V Error) →
        (IsTrue (state g new).is_open → HasCleanDisk (state g new)) →
        IfOk r (λ rows. HasCleanDisk (state g new) → Looked g count_text old (items rows)) →
        IfOk r (λ rows. old.schema ≡ kept_schema → IsTrue (state g new).is_open →
        AreApart (items rows) → AreApart ((state g new).now.trees 0))
    apart_all items (Ok rows) clean looked = λ has o apart.
        let it = looked (clean o) in
        let all = counts (state g (record old { in_transaction = true })) (state g it.0)
        (items rows) has it.1 in
        subst (λ (d : Database). AreApart (d.trees 0)) (sym (back o))
        (apart_shown ((state g old).now.trees 0) (apart_permuted (items rows)
        (map number_row ((state g old).now.trees 0))
        (IsPermutation-sym _ _ all) apart))
      where
        apart_shown : (rows : List Row) → AreApart (map number_row rows) → AreApart rows
        apart_shown rows it = record {
          numbered = all_from_map _ number_row rows it.numbered;
          strangers = ascending_from_map _ number_row rows it.strangers;
        }
    apart_all items (Err e) clean looked = tt
