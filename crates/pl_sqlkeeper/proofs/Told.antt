-- What statements that ran, a commit and a rollback make of the rows that are told.
use Rattle.std.proofs.Common.{◌++◌, not, ◌≡◌, ◌⊎◌, inl, inr, Bool, true, false, ℕ, List, [], ◌∷◌}
use Rattle.std.proofs.Common.{Option, Some}
use Rattle.std.proofs.Common.{Result, Ok, Err, OnOk, OnErr, None, IfSome, IsTrue, refl, sym, ap}
use Rattle.std.proofs.Common.{subst, ◌∙◌, true≢false, if◌then◌else◌}
use Rattle.sqlite.specs.declared.types.Value.TheVariants.{Blob, Int}
use Rattle.sqlite.specs.Edit.{is_taken}
use Rattle.sqlite.specs.Order.{Row}
use Rattle.sqlite.specs.Tree.{Trees}
use Rattle.sqlite.specs.Store.{Ghosts}
use Rattle.sqlite.specs.Effect.{Database}
use Rattle.sqlite.specs.State.{HasCleanDisk, State, Survives}
use Rattle.sqlite.specs.Held.{Held, state}
use Rattle.pl_base.specs.declared.row.Change.{Change}
use Rattle.pl_base.specs.declared.row.Row.{Row as Kept}
use Rattle.pl_keeper.specs.Keeping.{all_changed, changed, WhereTold}
use Rattle.pl_sqlkeeper.specs.Kept.{rows_in, told_by, AreApart, IsOurs, StaysOurs}
use Rattle.pl_sqlkeeper.specs.Schema.{kept_schema}
use Rattle.pl_sqlkeeper.specs.Statements.{take_text, IsMade, IsUndone, Makes, Ran, RanAll}
use Rattle.pl_sqlkeeper.specs.Statements.{Replaced}
use Rattle.pl_sqlkeeper.proofs.Apart.{apart_filter, apart_put, put_between}
use Rattle.pl_sqlkeeper.proofs.Meaning.{puts, takes}
use Rattle.pl_sqlkeeper.proofs.Running.{replaced_open, replaced_stays}
use Rattle.pl_sqlkeeper.proofs.Standing.{is_at, put_rows, take_rows, taken}

module _ {S : Type 0} (g : Ghosts S) where
  took : (place : List ℕ) (old new : Held S) → Ran g take_text (Blob place ∷ []) old new →
      IsOurs (state g old).now → IsOurs (state g new).now ×
      ((state g new).now.trees 0 ≡ taken place ((state g old).now.trees 0))
  took place old new ran ours =
      let it = takes (state g old) (state g new) place ran.count ours ran.executed in (
        record {
          schema = it.0;
          apart = subst AreApart (sym it.1)
              (apart_filter (λ row. not (is_at place row)) ((state g old).now.trees 0) ours.apart);
        },
        it.1,
      )

  -- a row went, or another one came in its place
  pub replaced_rows : (table : ℕ) (key : List ℕ) (body : Option (List ℕ)) (old new : Held S) →
      Replaced g (table ∷ key) body old new → IsOurs (state g old).now →
      IsOurs (state g new).now × (rows_in (state g new).now.trees ≡
      changed (rows_in (state g old).now.trees)
      (record { table = table; key = key; body = body }))
  replaced_rows table key None old new ran ours =
      let it = took (table ∷ key) old new ran ours in
      (it.0, take_rows table key (state g old).now.trees (state g new).now.trees it.1)
  replaced_rows table key (Some body) old new (mid, ran, put) ours =
      let it = took (table ∷ key) old mid ran ours in
      let came = puts (state g mid) (state g new) (table ∷ key) body put.count it.0.schema
      put.executed in
      let row = Int came.1.0 ∷ Blob (table ∷ key) ∷ Blob body ∷ [] in
      let cut = put_between row ((state g mid).now.trees 0) came.1.2 in
      let is : (state g new).now.trees 0 ≡ cut.0 ++ (row ∷ cut.1) = came.1.1 ∙ cut.3 in (
        record {
          schema = came.0;
          apart = subst AreApart (sym is) (apart_put came.1.0 row cut.0 cut.1 refl
              (subst (λ rows. is_taken rows row ≡ false) cut.2 came.1.2)
              (subst AreApart cut.2 it.0.apart));
        },
        put_rows table key (state g old).now.trees (state g new).now.trees came.1.0 body cut.0
            cut.1 (sym it.1 ∙ cut.2) is,
      )

  -- all changes' statements ran
  pub all_rows : (changes : List Change) (old new : Held S) → RanAll g changes old new →
      StaysOurs (state g old) → (IsTrue (state g old).is_open → IsOurs (state g new).now) ×
      (rows_in (state g new).now.trees ≡ all_changed changes (rows_in (state g old).now.trees))
  all_rows [] old new same ours = (
    λ o. subst (λ (h : Held S). IsOurs (state g h).now) (sym same) (ours o),
    ap (λ (h : Held S). rows_in (state g h).now.trees) same,
  )
  all_rows (change ∷ changes) old new (mid, ran, rest) ours =
      let first = replaced_rows change.table change.key change.body old mid ran
      (ours (replaced_open g _ change.body old mid ran)) in
      let others = all_rows changes mid new rest (λ _. first.0) in (
        λ o. others.0 (replaced_stays g _ change.body old mid ran),
        others.1 ∙ ap (all_changed changes) first.1,
      )

-- where the rows are told after a call, they were before, and the fact holds
pub where_told : (old new : State) (fact : List Kept → List Kept → Type 0) →
    (IsTrue new.is_open → IsTrue old.is_open ×
    fact (rows_in old.now.trees) (rows_in new.now.trees)) →
    WhereTold (told_by old) (told_by new) fact
where_told old new fact holds = one old.is_open new.is_open refl refl where
  one : (a b : Bool) → old.is_open ≡ a → new.is_open ≡ b →
      WhereTold (if a then Some (rows_in old.now.trees) else None)
      (if b then Some (rows_in new.now.trees) else None) fact
  one a false e f = tt
  one true true e f = (holds f).1
  one false true e f = absurd (true≢false (sym (holds f).0 ∙ e))

pub if_told : (s : State) (rows : List Kept) → (IsTrue s.is_open → rows ≡ rows_in s.now.trees) →
    IfSome (told_by s) (λ held. rows ≡ held)
if_told s rows holds = one s.is_open refl where
  one : (b : Bool) → s.is_open ≡ b →
      IfSome (if b then Some (rows_in s.now.trees) else None) (λ held. rows ≡ held)
  one true e = holds e
  one false e = tt

module _ {S : Type 0} (g : Ghosts S) (changes : List Change) (old new : Held S)
    (ours : StaysOurs (state g old)) where
  -- what the transaction makes of the database has the rows with all changes
  pub makes_rows : (db : Trees) → Makes g changes old db →
      rows_in db ≡ all_changed changes (rows_in (state g old).now.trees)
  makes_rows db (last, ran, is) = ap rows_in is ∙
      (all_rows g changes (record old { in_transaction = true }) last ran ours).1

  pub crash_rows : Survives (state g old) (state g new) (Makes g changes old) →
      Survives (state g old) (state g new)
      (λ db. rows_in db ≡ all_changed changes (rows_in (state g old).now.trees))
  crash_rows it = record {
    clean = it.clean;
    shield = it.shield;
    counts = it.counts;
    limit = it.limit;
    closes = it.closes;
    crash = λ clean db may. one db (it.crash clean db may);
  } where
    one : (db : Trees) → (state g old).may_leave db ⊎ Makes g changes old db →
        (state g old).may_leave db ⊎
        (rows_in db ≡ all_changed changes (rows_in (state g old).now.trees))
    one db (inl before) = inl before
    one db (inr made) = inr (makes_rows db made)

  pub made_rows : (IsTrue (state g new).is_open → IsMade g changes old new) →
      StaysOurs (state g new) × WhereTold (told_by (state g old)) (told_by (state g new))
      (λ before after. after ≡ all_changed changes before)
  made_rows made = (
    λ o. subst IsOurs (sym (made o).now_is) ((all (made o)).0 (made o).was_open),
    where_told (state g old) (state g new) (λ before after. after ≡ all_changed changes before)
        (λ o. (
          (made o).was_open,
          ap (λ (d : Database). rows_in d.trees) (made o).now_is ∙
              (all (made o)).1,
        )),
  ) where
    all : (it : IsMade g changes old new) → (IsTrue (state g old).is_open →
        IsOurs (state g it.last).now) × (rows_in (state g it.last).now.trees ≡
        all_changed changes (rows_in (state g old).now.trees))
    all it = all_rows g changes (record old { in_transaction = true }) it.last it.ran ours

-- a call that was undone leaves the rows as they were
pub back_to : (old new : State) → (IsTrue new.is_open → IsUndone old new) →
    (IsTrue old.is_open → old.now ≡ old.committed) → IsTrue new.is_open → new.now ≡ old.now
back_to old new undone settled o =
    (undone o).now_is o ∙ sym (settled ((undone o).was_open o))

pub undone_rows : (old new : State) → (IsTrue new.is_open → IsUndone old new) →
    (IsTrue old.is_open → old.now ≡ old.committed) →
    WhereTold (told_by old) (told_by new) (λ before after. after ≡ before)
undone_rows old new undone settled = where_told old new (λ before after. after ≡ before)
    (λ o. (
      (undone o).was_open o,
      ap (λ (d : Database). rows_in d.trees) (back_to old new undone settled o),
    ))

pub undone_ours : (old new : State) → (IsTrue new.is_open → IsUndone old new) →
    (IsTrue old.is_open → old.now ≡ old.committed) → StaysOurs old → StaysOurs new
undone_ours old new undone settled ours o =
    subst IsOurs (sym (back_to old new undone settled o)) (ours ((undone o).was_open o))

-- what holds after Ok and what holds after an error, of one answer
module _ {S : Type 0} (g : Ghosts S) (changes : List Change) (old new : Held S)
    (clean : IsTrue (state g new).is_open → HasCleanDisk (state g new))
    (settled : IsTrue (state g old).is_open → (state g old).now ≡ (state g old).committed)
    (ours : StaysOurs (state g old)) {T E : Type 0} where
  pub ours_after : (r : Result T E) →
      OnOk r (HasCleanDisk (state g new) → IsMade g changes old new) →
      OnErr r (HasCleanDisk (state g new) → IsUndone (state g old) (state g new)) →
      StaysOurs (state g new)
  ours_after (Ok value) made undone =
      (made_rows g changes old new ours (λ o. made (clean o))).0
  ours_after (Err e) made undone =
      undone_ours (state g old) (state g new) (λ o. undone (clean o)) settled ours

  pub applied_after : (r : Result T E) →
      OnOk r (HasCleanDisk (state g new) → IsMade g changes old new) →
      OnOk r (WhereTold (told_by (state g old)) (told_by (state g new))
      (λ before after. after ≡ all_changed changes before))
  applied_after (Ok value) made = (made_rows g changes old new ours (λ o. made (clean o))).1
  applied_after (Err e) made = tt

  pub tells_after : (r : Result T E) →
      OnOk r (HasCleanDisk (state g new) → IsMade g changes old new) →
      OnOk r (HasCleanDisk (state g new) → IsTrue (state g new).is_open)
  tells_after (Ok value) made = λ h. (made h).is_open
  tells_after (Err e) made = tt

  pub lasting_after : (r : Result T E) →
      OnOk r (HasCleanDisk (state g new) → (db : Trees) → (state g new).may_leave db →
      Makes g changes old db) →
      OnOk r (HasCleanDisk (state g new) → (db : Trees) → (state g new).may_leave db →
      rows_in db ≡ all_changed changes (rows_in (state g old).now.trees))
  lasting_after (Ok value) lasts =
      λ h db may. makes_rows g changes old new ours db (lasts h db may)
  lasting_after (Err e) lasts = tt

  pub kept_after : (r : Result T E) →
      OnErr r (HasCleanDisk (state g new) → IsUndone (state g old) (state g new)) →
      OnErr r (WhereTold (told_by (state g old)) (told_by (state g new))
      (λ before after. after ≡ before))
  kept_after (Ok value) undone = tt
  kept_after (Err e) undone =
      undone_rows (state g old) (state g new) (λ o. undone (clean o)) settled

pub told_same : (s : State) → WhereTold (told_by s) (told_by s) (λ before after. after ≡ before)
told_same s = where_told s s (λ before after. after ≡ before) (λ o. (o, refl))

-- a database with the keeper's schema, whose rows' numbers were tested
pub ours_tested : {S T E : Type 0} (g : Ghosts S) (old new : Held S) (rows : List Row)
    (r : Result T E) → old.schema ≡ kept_schema →
    (old.schema ≡ kept_schema → IsTrue (state g new).is_open → new.schema ≡ kept_schema) →
    (old.schema ≡ kept_schema → IsTrue (state g new).is_open → AreApart rows →
    AreApart ((state g new).now.trees 0)) → OnOk r (AreApart rows) →
    OnOk r (StaysOurs (state g new))
ours_tested g old new rows (Ok value) is schema apart numbered =
    λ o. record { schema = schema is o; apart = apart is o numbered }
ours_tested g old new rows (Err e) is schema apart numbered = tt
