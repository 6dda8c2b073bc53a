-- A transaction of changes, from its beginning to its end.
use Rattle.std.proofs.Common.{◌≡◌, inl, inr, true, false, List, IsTrue, refl, sym, ap, subst, ◌∙◌}
use Rattle.std.proofs.Common.{true≢false, arith}
use Rattle.sqlite.specs.Tree.{Trees}
use Rattle.sqlite.specs.Store.{Ghosts}
use Rattle.sqlite.specs.Effect.{Database}
use Rattle.sqlite.specs.declared.error.Error.{Error}
use Rattle.sqlite.specs.State.{HasCleanDisk, IsRolledBack, KeepsCommit, Shows, Survives}
use Rattle.sqlite.specs.Steps.{FailsToCommit}
use Rattle.sqlite.specs.Held.{Held, state}
use Rattle.sqlite.proofs.StateLemmas.{survives_then}
use Rattle.sqlite.proofs.Callers.{survives_begin}
use Rattle.pl_base.specs.declared.row.Change.{Change}
use Rattle.pl_sqlkeeper.specs.Statements.{IsMade, IsUndone, Makes, RanAll}
use Rattle.pl_sqlkeeper.proofs.Running.{is_inside, was_open}

module _ {S : Type 0} (g : Ghosts S) (changes : List Change) (old begun last end : Held S)
    (is_begun : begun ≡ record old { in_transaction = true })
    (inside : Survives (state g begun) (state g last) (λ _. ⊥))
    (kept : HasCleanDisk (state g last) → IsTrue begun.in_transaction →
    KeepsCommit (state g begun) (state g last)) where
  is_in : IsTrue begun.in_transaction
  is_in = subst (λ (h : Held S). IsTrue h.in_transaction) (sym is_begun) refl

  outer : Survives (state g old) (state g last) (λ _. ⊥)
  outer = survives_begin g old (state g last) (λ _. ⊥)
      (subst (λ (h : Held S). Survives (state g h) (state g last) (λ _. ⊥)) is_begun inside)

  kept_outer : HasCleanDisk (state g last) → KeepsCommit (state g old) (state g last)
  kept_outer clean =
      let it : KeepsCommit (state g (record old { in_transaction = true })) (state g last) =
      subst (λ (h : Held S). KeepsCommit (state g h) (state g last)) is_begun
      (kept clean is_in) in
      record { was_open = it.was_open; committed = it.committed }

  undone_by : HasCleanDisk (state g last) → IsRolledBack (state g last) (state g end) →
      IsUndone (state g old) (state g end)
  undone_by clean back = record {
    was_open = λ o. (kept_outer clean).was_open (back.was_open o);
    now_is = λ o. (back.undone o).0 ∙ (kept_outer clean).committed (back.was_open o);
    committed_is = λ o. (back.undone o).1 ∙ (kept_outer clean).committed (back.was_open o);
  }

  -- the changes were broken off, and rolled back
  pub broken_off : (P : Trees → Type 0) →
      Survives (state g last) (state g end) (λ _. ⊥) → Survives (state g old) (state g end) P
  broken_off P back = survives_then (state g old) (state g last) (state g end) _ _ P
      (λ _ db none. absurd none) (λ _ db none. absurd none) outer back

  pub back_to : HasCleanDisk (state g end) → Survives (state g last) (state g end) (λ _. ⊥) →
      IsRolledBack (state g last) (state g end) → IsUndone (state g old) (state g end)
  back_to clean back done =
      let early : HasCleanDisk (state g last) = omega (arith, back.clean) in undone_by early done

  -- all changes ran
  module _ (ran : HasCleanDisk (state g last) → IsTrue begun.in_transaction →
      RanAll g changes begun last)
      (commit : Survives (state g last) (state g end) (λ db. db ≡ (state g last).now.trees)) where
    all_ran : HasCleanDisk (state g last) →
        RanAll g changes (record old { in_transaction = true }) last
    all_ran clean = subst (λ (h : Held S). RanAll g changes h last) is_begun (ran clean is_in)

    early : HasCleanDisk (state g end) → HasCleanDisk (state g last)
    early clean = omega (arith, commit.clean)

    pub crashes : Survives (state g old) (state g end) (Makes g changes old)
    crashes = survives_then (state g old) (state g last) (state g end) _ _ (Makes g changes old)
        (λ _ db none. absurd none) (λ clean db is. (last, all_ran (early clean), is)) outer commit

    pub is_made : HasCleanDisk (state g end) → Shows (state g last) (state g end)
        (state g last).now (state g last).now false → IsMade g changes old end
    is_made clean shown = record {
      last = last;
      ran = all_ran (early clean);
      was_open = was_open g changes (record old { in_transaction = true }) last
          (all_ran (early clean)) shown.was_open;
      is_open = shown.is_open;
      now_is = shown.now_is;
      committed_is = shown.committed_is;
    }

    pub not_committed : (e : Error) → HasCleanDisk (state g end) →
        FailsToCommit (state g last) (state g end) e → IsUndone (state g old) (state g end)
    not_committed e clean (inl fails) = undone_by (early clean) fails.3
    not_committed e clean (inr ended) =
        absurd (true≢false (sym (is_inside g changes (record old { in_transaction = true }) last
        (all_ran (early clean)) refl) ∙ ended.1))

-- while the database is open, a crash leaves what was committed
pub lasts : {S : Type 0} (g : Ghosts S) (changes : List Change) (old new : Held S) →
    ((s : S) (db : Trees) → IsTrue (g.view s).is_open → g.recovers s db →
    db ≡ (g.view s).committed) → IsMade g changes old new → (db : Trees) →
    (state g new).may_leave db → Makes g changes old db
lasts g changes old new settled made db may = (
  made.last,
  made.ran,
  settled new.store db made.is_open may ∙
      ap (λ (d : Database). d.trees) made.committed_is,
)
