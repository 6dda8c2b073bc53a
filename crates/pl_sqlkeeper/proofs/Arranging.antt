-- Rows that were read, put in order and found to be at places of their own are the rows told.
use Rattle.std.proofs.Common.{◌≡◌, suc, ◌<◌, Bool, true, false, List, [], ◌∷◌, ◌++◌}
use Rattle.std.proofs.Common.{filter, flat_map, fold, length, map, refl, sym, subst, ◌∙◌}
use Rattle.std.proofs.Common.{true≢false, arith, IsPermutation}
use Rattle.std.specs.List.{AllZip}
use Rattle.std.proofs.lemmas.List.Sorted.{length_permutation, IsPermutation-trans}
use Rattle.sqlite_trees.proofs.ListLemmas.{flat_map-map, IsPermutation-filter}
use Rattle.sqlite_trees.proofs.ListLemmas.{IsPermutation-flat_map}
use Rattle.sqlite.proofs.Callers.{one_permutation}
use Rattle.sqlite.specs.Order.{Row, column}
use Rattle.sqlite.specs.Tree.{Trees}
use Rattle.pl_base.specs.declared.row.Row.{Row as Kept}
use Rattle.pl_keeper.specs.Keeping.{comes_before, IsInOrder}
use Rattle.pl_keeper.proofs.Changing.{weak}
use Rattle.pl_sqlkeeper.specs.Kept.{kept_at, kept_of, read_row, rows_in, IsStrict}
use Rattle.pl_sqlkeeper.specs.Stored.{Stores}
use Rattle.pl_sqlkeeper.proofs.Places.{here, is_false, not_before, not_behind, same_rows, shift}
use Rattle.pl_sqlkeeper.proofs.Standing.{found, rows_here, rows_in_order}

-- the kept rows of an answer
abbrev shown_kept : Row → List Kept
shown_kept row = kept_at (column row 0) (column row 1)

zipped : (stored : List Row) (rows : List Kept) → AllZip Stores stored rows →
    flat_map shown_kept stored ≡ rows
zipped [] [] all = refl
zipped [] (row ∷ rows) all = absurd all
zipped (it ∷ stored) [] all = absurd all
zipped (it ∷ stored) (row ∷ rows) all =
    let one : shown_kept it ≡ row ∷ [] =
    (λ i. kept_at (all.0.place i) (all.0.body i)) in
    (λ i. one i ++ zipped stored rows all.1 i)

tail_strict : (first : Kept) (rows : List Kept) → IsStrict (first ∷ rows) → IsStrict rows
tail_strict first rows strict k d within =
    shift (λ before behind. comes_before before behind ≡ true) first rows k d
    (strict (suc k) d (omega arith))

-- behind a row that comes before the next one nothing stands at its place or before it
later : (first : Kept) (rows : List Kept) → IsStrict (first ∷ rows) → (at : Kept) →
    comes_before first at ≡ false → filter (here at) rows ≡ []
later first [] strict at not_less = refl
later first (row ∷ rows) strict at not_less =
    let less : comes_before first row ≡ true = strict 0 first (omega arith) in
    let behind : comes_before row at ≡ false = is_false (comes_before row at) (λ h.
    true≢false (sym less ∙ weak.chain first at row not_less (weak.one_way row at h))) in
    let ahead : comes_before at row ≡ true = is_ahead at row (λ no.
    true≢false (sym less ∙ weak.chain first at row not_less no)) in
    let away : here at row ≡ false = is_false (here at row) (λ h.
    true≢false (sym ahead ∙ not_behind at row h)) in
    rw away (later row rows (tail_strict first (row ∷ rows) strict) at behind)
  where
    is_ahead : (at row : Kept) → (comes_before at row ≡ false → ⊥) → comes_before at row ≡ true
    is_ahead at row denied = one (comes_before at row) refl where
      one : (b : Bool) → comes_before at row ≡ b → comes_before at row ≡ true
      one true e = e
      one false e = absurd (denied e)

-- so at a place there is one row at most
single : (rows : List Kept) → IsStrict rows → (at : Kept) → length (filter (here at) rows) < 2
single [] strict at = omega arith
single (row ∷ rows) strict at = one (here at row) refl
    (single rows (tail_strict row rows strict) at) where
      one : (b : Bool) → here at row ≡ b → length (filter (here at) rows) < 2 →
          length (filter (here at) (row ∷ rows)) < 2
      one true e more = rw (e, later row rows strict at (not_before at row e)) (omega arith)
      one false e more = rw e more

-- a list of one item at most is what its last item leaves, in any order
last_same : (xs ys : List Kept) → IsPermutation xs ys → length ys < 2 →
    fold (λ (_ : List Kept) (row : Kept). row ∷ []) [] xs ≡ ys
last_same [] [] same short = refl
last_same [] (y ∷ ys) same short = absurd (omega (arith, length_permutation [] (y ∷ ys) same))
last_same (x ∷ []) ys same short = sym (one_permutation x ys same)
last_same (x ∷ y ∷ xs) ys same short =
    absurd (omega (arith, length_permutation (x ∷ y ∷ xs) ys same))

pub are_told : (db : Trees) (stored : List Row) (rows sorted : List Kept) →
    AllZip Stores stored rows → IsPermutation rows sorted → IsInOrder sorted → IsStrict sorted →
    IsPermutation (map read_row (db 0)) stored → sorted ≡ rows_in db
are_told db stored rows sorted zip same order strict shown =
    same_rows sorted (rows_in db) order (rows_in_order db) each where
      kept : IsPermutation (flat_map shown_kept (map read_row (db 0))) rows
      kept = subst (IsPermutation (flat_map shown_kept (map read_row (db 0))))
          (zipped stored rows zip)
          (IsPermutation-flat_map shown_kept (map read_row (db 0)) stored shown)

      all : IsPermutation (flat_map kept_of (db 0)) sorted
      all = IsPermutation-trans _ _ _ (subst (λ l. IsPermutation l rows)
          (flat_map-map shown_kept read_row (db 0)) kept) same

      each : (at : Kept) → filter (here at) sorted ≡ filter (here at) (rows_in db)
      each at = sym (rows_here at db ∙ last_same (found at (db 0)) (filter (here at) sorted)
          (IsPermutation-filter (here at) (flat_map kept_of (db 0)) sorted all)
          (single sorted strict at))
