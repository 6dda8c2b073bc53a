-- What the table's text commits to a database that lists nothing: the table, without rows.
use Rattle.std.proofs.Common.{◌≡◌, ◌⊎◌, inl, inr, ℕ, Bool, true, false, List, [], map, flat_map}
use Rattle.std.proofs.Common.{Some, None, Result, Ok, Err, OnOk, IfSome, IsTrue}
use Rattle.std.proofs.Common.{if◌then◌else◌, refl, sym, ap, subst, ◌∙◌}
use Rattle.sqlite.specs.Order.{Row}
use Rattle.sqlite.specs.Tree.{Trees}
use Rattle.sqlite.specs.Command.TheVariants.{CreateTable}
use Rattle.sqlite.specs.Compile.{table_defined_by}
use Rattle.sqlite.specs.Change.{created, next_tree}
use Rattle.sqlite.specs.Does.{lacks_sequence, Does, Tally}
use Rattle.sqlite.specs.declared.error.Error.{Error}
use Rattle.sqlite.specs.Effect.{Database}
use Rattle.sqlite.specs.State.{State, mode_of, text_of, CommitsBy, Executes, HasCleanDisk}
use Rattle.sqlite.specs.State.{MayCommit, Survives}
use Rattle.sqlite.specs.Clock.{timed}
use Rattle.sqlite.specs.Listing.{understood}
use Rattle.sqlite.proofs.Callers.{command_of, statement_of, IsPlain, runs_as}
use Rattle.sqlite_tied.specs.Compute.{everything}
use Rattle.pl_keeper.specs.Keeping.{all_changed}
use Rattle.pl_sqlkeeper.specs.Kept.{kept_of, put_of, rows_in, TellsNoRows}
use Rattle.pl_sqlkeeper.specs.Schema.{blank_schema, kept_schema, kept_table}
use Rattle.pl_sqlkeeper.specs.Statements.{make_text}
use Rattle.pl_sqlkeeper.proofs.Meaning.{same_value, went}

make_is : (command_of (understood blank_schema make_text) ≡ CreateTable) ×
    (statement_of make_text (understood blank_schema make_text) ≡ make_text) ×
    (table_defined_by make_text ≡ Ok kept_table)
unfolding understood everything
make_is = (refl, refl, refl)

make_plain : IsPlain (understood blank_schema make_text)
unfolding understood everything
make_plain = (refl, refl)

created_is : created blank_schema kept_table ≡ kept_schema
unfolding understood everything
created_is = refl

makes_none : (s : State) (params : Row) (tally : Tally) (after : Database) →
    s.now.schema ≡ blank_schema → Does s.step_limit (mode_of s) params s.now make_text None
    CreateTable (Ok (tally, after)) → (rows_in after.trees ≡ []) × (after.schema ≡ kept_schema)
makes_none s params tally after has done =
    let all = went done in
    let first = went all.1 in
    let made = first.1 in
    let both : Ok made.table ≡ Ok kept_table = sym made.defined ∙ make_is.2 in
    let same : made.table ≡ kept_table = cc in
    let schema : first.0.schema ≡ created blank_schema kept_table = made.is ∙
    (ap (λ s. created s made.table) has ∙ ap (created blank_schema) same) in
    let plain : lacks_sequence first.0.schema ≡ false = ap lacks_sequence schema in
    let now : after ≡ first.0 = ap (λ (p : Tally × Database). p.1) (same_value all.2) ∙
    same_value (rw plain at first.2) in
    let none : first.0.trees 0 ≡ [] =
    subst (λ s. first.0.trees (next_tree s) ≡ []) has made.empty in (
      ap (λ (rows : List Row). all_changed (map put_of (flat_map kept_of rows)) [])
          (ap (λ (d : Database). d.trees 0) now ∙ none),
      ap (λ (d : Database). d.schema) now ∙ (schema ∙ created_is),
    )

commits_none : (s : State) (params : Row) (db : Trees) → s.now.schema ≡ blank_schema →
    MayCommit s None CreateTable make_text params db → rows_in db ≡ []
commits_none s params db has (inl (inl e, is)) = absurd cc
commits_none s params db has (inl (inr it, is)) = absurd (let e = it.2 in cc)
commits_none s params db has (inr it) =
    ap rows_in it.5 ∙ (makes_none s params it.1 it.2 has it.3).0

-- the table's text makes a table without rows
ran_blank : (old new : State) (count : ℕ) → old.now.schema ≡ blank_schema →
    Executes make_text [] old new (Ok count) →
    (rows_in new.now.trees ≡ []) × (new.now.schema ≡ kept_schema)
ran_blank old new count has h =
    let w = runs_as make_text [] old new blank_schema has CreateTable make_is.0 make_plain count h
    in
    makes_none old [] w.tally new.now has
    (subst (λ t. Does old.step_limit (mode_of old) [] old.now t None CreateTable
    (Ok (w.tally, new.now))) make_is.1 w.changed)

-- the table's text commits no rows
pub made_blank : (old new : State) → old.now.schema ≡ blank_schema →
    Survives old new (CommitsBy make_text [] old) → Survives old new (λ db. rows_in db ≡ [])
unfolding CommitsBy
made_blank old new has it = record {
  clean = it.clean;
  shield = it.shield;
  counts = it.counts;
  limit = it.limit;
  closes = it.closes;
  crash = λ clean db may. one db (it.crash clean db may);
} where
  one : (db : Trees) → old.may_leave db ⊎ CommitsBy make_text [] old db →
      old.may_leave db ⊎ (rows_in db ≡ [])
  one db (inl before) = inl before
  one db (inr h) =
      let known = sym h.1.is ∙ ap (λ s. understood s make_text) has in
      let bare = subst IsPlain (sym known) make_plain in
      let command : h.0.command ≡ CreateTable = ap command_of known ∙ make_is.0 in
      let text = ap (statement_of make_text) known ∙ make_is.1 in
      let params = timed [] h.0.formats h.1.now in
      inr (commits_none old params db has
      (subst (λ k. MayCommit old None k make_text params db) command
      (subst (λ t. MayCommit old None h.0.command t params db) text
      (subst (λ r. MayCommit old r h.0.command (text_of make_text h.0) params db) bare.0 h.2))))

-- where the rows are told, there are none
told_none : (s : State) → (IsTrue s.is_open → rows_in s.now.trees ≡ []) → TellsNoRows s
told_none s none = one s.is_open refl where
  one : (b : Bool) → s.is_open ≡ b →
      IfSome (if b then Some (rows_in s.now.trees) else None) (λ held. held ≡ [])
  one true e = none e
  one false e = tt

pub blank_after : (old new : State) (r : Result ℕ Error) →
    (IsTrue new.is_open → HasCleanDisk new) → old.now.schema ≡ blank_schema →
    (HasCleanDisk new → Executes make_text [] old new r) → OnOk r (TellsNoRows new)
blank_after old new (Ok count) clean has runs =
    told_none new (λ o. (ran_blank old new count has (runs (clean o))).0)
blank_after old new (Err e) clean has runs = tt

pub made_ours : (old new : State) (r : Result ℕ Error) → (IsTrue new.is_open → HasCleanDisk new) →
    old.now.schema ≡ blank_schema → (HasCleanDisk new → Executes make_text [] old new r) →
    OnOk r (IsTrue new.is_open → new.now.schema ≡ kept_schema)
made_ours old new (Ok count) clean has runs =
    λ o. (ran_blank old new count has (runs (clean o))).1
made_ours old new (Err e) clean has runs = tt
