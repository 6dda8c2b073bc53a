-- What the statements' texts mean under the keeper's schema.
use Rattle.std.proofs.Common.{◌≡◌, ◌⊎◌, inl, inr, ◌&&◌, ℕ, ℤ, pos, negsuc, Bool, true, false, not}
use Rattle.std.proofs.Common.{cond}
use Rattle.std.proofs.Common.{List, [], ◌∷◌, map, flat_map, filter, codes, None, Ok, Err, Result}
use Rattle.std.proofs.Common.{if◌then◌else◌, ◌||◌, refl, sym, ap, subst, subst₂, ◌∙◌, IsPermutation}
use Rattle.std.specs.List.{list_any}
use Rattle.std.proofs.lemmas.List.Sorted.{list_any-IsPermutation, IsPermutation-map}
use Rattle.sqlite.specs.declared.types.Value.{Value}
use Rattle.sqlite.specs.declared.types.Value.TheVariants.{Null, Int, Blob}
use Rattle.sqlite.specs.Order.{Row}
use Rattle.sqlite.specs.Term.{Env, Term, lit, col, op2, eval_all}
use Rattle.sqlite.specs.Ops.{unary}
use Rattle.sqlite_sql.specs.declared.ops.BinaryOp.TheVariants.{Compare}
use Rattle.sqlite_sql.specs.declared.ops.CompareOp.TheVariants.{Eq}
use Rattle.sqlite.specs.Query.{Query, inner, end, IsAnswer, Output, output}
use Rattle.sqlite.specs.Program.{overlay}
use Rattle.sqlite.specs.Source.TheVariants.{Values}
use Rattle.sqlite.specs.Collation.TheVariants.{Binary}
use Rattle.sqlite.specs.Kind.TheVariants.{Integer}
use Rattle.sqlite.specs.Command.TheVariants.{Delete, Insert, Select}
use Rattle.sqlite.specs.Cast.{cast}
use Rattle.sqlite.specs.Rowids.TheVariants.{Chosen, Given}
use Rattle.sqlite.specs.Edit.{edit_of, id_in, is_taken, next_rowid, put_all}
use Rattle.sqlite.specs.Edit.{are_fresh, with_rowid}
use Rattle.sqlite.specs.Tree.{Trees, has_rowid, put_row, rowid}
use Rattle.sqlite.specs.Does.{Does, Tally}
use Rattle.sqlite.specs.Rows.{Written}
use Rattle.sqlite.specs.Effect.{Database}
use Rattle.sqlite.specs.State.{State, mode_of, Executes, Shown}
use Rattle.sqlite_rules.specs.Calls.{ids_of}
use Rattle.sqlite_value.specs.Keys.{ascending}
use Rattle.sqlite_value.specs.declared.keys.Key.{Key}
use Rattle.sqlite.specs.Listing.{understood, reads_listing}
use Rattle.sqlite.proofs.Callers.{command_of, statement_of, IsPlain, one_step, reads_as, runs_as}
use Rattle.sqlite_tied.specs.Compute.{everything}
use Rattle.pl_sqlkeeper.specs.Schema.{kept_schema, kept_table}
use Rattle.pl_sqlkeeper.specs.Statements.{count_text, put_text, read_text, take_text}
use Rattle.pl_sqlkeeper.specs.Kept.{has_number_of, number_row, read_row, IsOurs}
use Rattle.pl_sqlkeeper.proofs.Apart.{without_passed}
use Rattle.pl_sqlkeeper.proofs.Standing.{is_at, taken}

abbrev query_of : List Term → List Term → List (Term × Key) → Query
query_of filter project order = record {
  from = inner 0 end;
  filter = filter;
  group = None;
  project = project;
  distinct = false;
  collations = [];
  order = order;
  limit = lit (Int (negsuc 0));
  offset = lit (Int (pos 0));
}

abbrev put_terms : List Term
put_terms = lit Null ∷ col 0 0 ∷ col 0 1 ∷ []

abbrev take_query : Query
take_query = query_of (op2 (Compare Eq Binary) (col 1 1) (col 0 0) ∷ []) (col 1 0 ∷ []) []

abbrev read_query : Query
read_query = query_of [] (col 1 1 ∷ col 1 2 ∷ []) ((col 1 1, ascending Binary) ∷ [])

abbrev count_query : Query
count_query = query_of [] (col 1 0 ∷ []) ((col 1 0, ascending Binary) ∷ [])

put_is : command_of (understood kept_schema put_text) ≡ Insert 0 (Values put_terms 3)
unfolding understood everything
put_is = refl

put_plain : IsPlain (understood kept_schema put_text)
unfolding understood everything
put_plain = (refl, refl)

take_is : command_of (understood kept_schema take_text) ≡
    Delete 0 (record { lets = []; body = take_query })
unfolding understood everything
take_is = refl

take_plain : IsPlain (understood kept_schema take_text)
unfolding understood everything
take_plain = (refl, refl)

read_is : (command_of (understood kept_schema read_text) ≡
    Select (record { lets = []; body = read_query }) (codes "place" ∷ codes "body" ∷ [])) ×
    (reads_listing kept_schema read_text ≡ false)
unfolding understood everything
read_is = (refl, refl)

read_plain : IsPlain (understood kept_schema read_text)
unfolding understood everything
read_plain = (refl, refl)

count_is : (command_of (understood kept_schema count_text) ≡
    Select (record { lets = []; body = count_query }) (codes "rowid" ∷ [])) ×
    (reads_listing kept_schema count_text ≡ false)
unfolding understood everything
count_is = (refl, refl)

count_plain : IsPlain (understood kept_schema count_text)
unfolding understood everything
count_plain = (refl, refl)

-- a part that gave a value did not stop on the way
pub went : {B E R : Type 0} {b : B} {Stops : E → Type 0} →
    ((stop : E) × Stops stop × (Ok b ≡ Err stop)) ⊎ R → R
went (inl stopped) = absurd (let e = stopped.2 in cc)
went (inr on) = on

pub same_value : {B E : Type 0} {a b : B} → ◌≡◌ {A = Result B E} (Ok a) (Ok b) → a ≡ b
same_value e = cc

either : (b : Bool) (v : Value) → cond b v v ≡ v
either true v = refl
either false v = refl

cast_null : cast Integer Null ≡ Null
unfolding unary
cast_null = either _ Null

abbrev stored : ℤ → List ℕ → List ℕ → Row
stored id place body = Int id ∷ Blob place ∷ Blob body ∷ []

not_taken : (b : Bool) → (not b && true) ≡ true → b ≡ false
not_taken true e = absurd cc
not_taken false e = refl

-- an insertion leaves the schema, and puts a row with a new number in
pub puts : (old new : State) (place body : List ℕ) (count : ℕ) → old.now.schema ≡ kept_schema →
    Executes put_text (Blob place ∷ Blob body ∷ []) old new (Ok count) →
    (new.now.schema ≡ kept_schema) × ((id : ℤ) ×
    (new.now.trees 0 ≡ put_row (stored id place body) (old.now.trees 0)) ×
    (is_taken (old.now.trees 0) (stored id place body) ≡ false))
puts old new place body count has h =
    let params = Blob place ∷ Blob body ∷ [] in
    let db = old.now.trees in
    let command = Insert 0 (Values put_terms 3) in
    let w = runs_as put_text params old new kept_schema has command put_is put_plain count h in
    let text = statement_of put_text (understood kept_schema put_text) in
    let done = went (subst (λ s. Does old.step_limit (mode_of old) params
    (record old.now { schema = s }) text None command (Ok (w.tally, new.now))) has w.changed) in
    let now = ap (λ (p : Tally × Database). p.1) (same_value (went (went done.2).2).2) in
    let given = went done.1 in
    let written = went (went given.2).2 in
    let counted = went written.2 in
    let trees : done.0.trees ≡ written.0 =
    ap (λ (it : Written). it.trees) (same_value counted.2) ∙ same_value counted.1 in
    let source = Null ∷ Blob place ∷ Blob body ∷ [] in
    let id = next_rowid (db 0) in
    let step = one_step kept_schema _ db written.0 (edit_of db kept_table [] Chosen 0 given.0) refl
    written.1 in
    let news : (edit_of db kept_table [] Chosen 0 given.0).news ≡ stored id place body ∷ [] =
    ap (λ all. (edit_of db kept_table [] Chosen 0 all).news) given.1.1 ∙
    ap (λ (v : Value). with_rowid Chosen (db 0) (v ∷ Blob place ∷ Blob body ∷ []) ∷ [])
    cast_null in (
      ap (λ (d : Database). d.schema) now,
      (
        id,
        ap (λ (d : Database). d.trees 0) now ∙ (ap (λ (t : Trees). t 0) trees ∙ (step.rows ∙
            ap (put_all (db 0)) news)),
        not_taken (is_taken (db 0) (stored id place body))
            (ap (are_fresh (db 0)) (sym news) ∙ step.fresh),
      ),
    )

any_map : {X Y : Type 0} (p : Y → Bool) (f : X → Y) (xs : List X) →
    list_any p (map f xs) ≡ list_any (λ x. p (f x)) xs
any_map p f [] = refl
any_map p f (x ∷ xs) = ap (λ b. p (f x) || b) (any_map p f xs)

-- the row, where it has the place
abbrev met : List ℕ → Row → List Env
met place row = if is_at place row && true then ((Blob place ∷ []) ∷ row ∷ []) ∷ [] else []

abbrev numbers_of : Row → Env → Bool
numbers_of row env = has_rowid (id_in (rowid (eval_all (col 1 0 ∷ []) env))) row

any_met : (place : List ℕ) (row : Row) (rows : List Row) →
    list_any (numbers_of row) (flat_map (met place) rows) ≡
    list_any (λ other. is_at place other && has_number_of other row) rows
any_met place row [] = refl
any_met place row (other ∷ rows) =
    one (is_at place other) refl (any_met place row rows) where
      one : (b : Bool) → is_at place other ≡ b →
          list_any (numbers_of row) (flat_map (met place) rows) ≡
          list_any (λ other. is_at place other && has_number_of other row) rows →
          list_any (numbers_of row) (flat_map (met place) (other ∷ rows)) ≡
          list_any (λ other. is_at place other && has_number_of other row) (other ∷ rows)
      one true e more = rw e (ap (λ b. has_number_of other row || b) more)
      one false e more = rw e more

-- a deletion leaves the schema, and takes out just the rows that have the place
pub takes : (old new : State) (place : List ℕ) (count : ℕ) → IsOurs old.now →
    Executes take_text (Blob place ∷ []) old new (Ok count) →
    (new.now.schema ≡ kept_schema) × (new.now.trees 0 ≡ taken place (old.now.trees 0))
takes old new place count ours h =
    let params = Blob place ∷ [] in
    let db = old.now.trees in
    let command = Delete 0 (record { lets = []; body = take_query }) in
    let w = runs_as take_text params old new kept_schema ours.schema command take_is take_plain
    count h in
    let text = statement_of take_text (understood kept_schema take_text) in
    let done = went (subst (λ s. Does old.step_limit (mode_of old) params
    (record old.now { schema = s }) text None command (Ok (w.tally, new.now))) ours.schema
    w.changed) in
    let now = ap (λ (p : Tally × Database). p.1) (same_value (went (went done.2).2).2) in
    let given = went done.1 in
    let written = went given.2 in
    let trees : done.0.trees ≡ written.0 = ap (λ (it : Written). it.trees) (same_value written.2) in
    let step = one_step kept_schema _ db written.0
    (edit_of db kept_table (ids_of given.0) Given 0 []) refl written.1 in
    let a : IsAnswer take_query (overlay db []) params given.0 = given.1.answer Null in
    let each : (row : Row) → list_any (λ id. has_rowid id row) (ids_of given.0) ≡
    list_any (λ other. is_at place other && has_number_of other row) (db 0) =
    λ row.
    any_map (λ id. has_rowid id row) (λ (r : Row). id_in (rowid r)) given.0 ∙
    (ap (list_any (λ (r : Row). has_rowid (id_in (rowid r)) row)) a.shown ∙
    (any_map (λ (r : Row). has_rowid (id_in (rowid r)) row) (λ (o : Output). o.1) a.ordered ∙
    (sym (list_any-IsPermutation (λ (o : Output). has_rowid (id_in (rowid o.1)) row) a.kept
    a.ordered a.same) ∙
    (ap (list_any (λ (o : Output). has_rowid (id_in (rowid o.1)) row))
    (a.distinct ∙ ap (map (output take_query)) a.grouped) ∙
    (any_map (λ (o : Output). has_rowid (id_in (rowid o.1)) row) (output take_query)
    (flat_map (met place) (db 0)) ∙ any_met place row (db 0)))))) in (
      ap (λ (d : Database). d.schema) now,
      ap (λ (d : Database). d.trees 0) now ∙ (ap (λ (t : Trees). t 0) trees ∙ (step.rows ∙
          without_passed (is_at place) (db 0) (ids_of given.0) ours.apart each)),
    )

-- a query without a condition shows each row once
all_shown : (project : List Term) (order : List (Term × Key)) (params : Row) (rows : List Row) →
    map (λ (o : Output). o.1) (map (output (query_of [] project order))
    (flat_map (λ row. (params ∷ row ∷ []) ∷ []) rows)) ≡
    map (λ row. eval_all project (params ∷ row ∷ [])) rows
all_shown project order params [] = refl
all_shown project order params (row ∷ rows) =
    ap (λ (more : List Row). eval_all project (params ∷ row ∷ []) ∷ more)
    (all_shown project order params rows)

scans : (project : List Term) (order : List (Term × Key)) (db : Trees) (params : Row)
    (rows : List Row) → IsAnswer (query_of [] project order) (overlay db []) params rows →
    IsPermutation (map (λ row. eval_all project (params ∷ row ∷ [])) (db 0)) rows
scans project order db params rows a =
    let shown : map (λ (o : Output). o.1) a.kept ≡
    map (λ row. eval_all project (params ∷ row ∷ [])) (db 0) =
    ap (map (λ (o : Output). o.1))
    (a.distinct ∙ ap (map (output (query_of [] project order))) a.grouped) ∙
    all_shown project order params (db 0) in
    subst₂ IsPermutation shown (sym a.shown)
    (IsPermutation-map (λ (o : Output). o.1) a.kept a.ordered a.same)

pub reads : (old new : State) (rows : List Row) → old.now.schema ≡ kept_schema →
    Shown read_text [] old new rows → IsPermutation (map read_row (old.now.trees 0)) rows
reads old new rows has h =
    let read = reads_as read_text [] old new kept_schema has _ read_is.0 read_plain read_is.1 rows
    h in
    scans (col 1 1 ∷ col 1 2 ∷ []) ((col 1 1, ascending Binary) ∷ []) old.now.trees [] rows
    (read.answer Null)

pub counts : (old new : State) (rows : List Row) → old.now.schema ≡ kept_schema →
    Shown count_text [] old new rows → IsPermutation (map number_row (old.now.trees 0)) rows
counts old new rows has h =
    let read = reads_as count_text [] old new kept_schema has _ count_is.0 count_plain count_is.1
    rows h in
    scans (col 1 0 ∷ []) ((col 1 0, ascending Binary) ∷ []) old.now.trees [] rows
    (read.answer Null)
