-- What the table's rows stand for at one place, and what the statements leave of that.
use Rattle.std.proofs.Common.{if◌then◌else◌, ◌≡◌, ◌⊎◌, inl, inr, ℕ, ℤ, Bool, true, false, not, List}
use Rattle.std.proofs.Common.{[], ◌∷◌, ◌++◌}
use Rattle.std.proofs.Common.{map, flat_map, filter, fold, Some, None, refl, sym, ap, ◌∙◌}
use Rattle.std.proofs.Common.{true≢false}
use Rattle.std.proofs.Common.{◌&&◌, arith}
use Rattle.std.specs.declared.cmp.Ordering.{Ordering}
use Rattle.std.specs.declared.cmp.Ordering.TheVariants.{Less, Equal, Greater}
use Rattle.std.specs.Ordering.{is_eq, is_lt, nat_cmp, ordering_reverse}
use Rattle.std.specs.Cmp.Lexicographic.{slice_cmp}
use Rattle.std.specs.FinMap.{nat_cmp-IsAntisymmetric, slice_cmp-IsAntisymmetric}
use Rattle.std.proofs.lemmas.Cmp.{nat_list_cmp_total, tied_itself}
use Rattle.std.proofs.lemmas.List.Elements.{filter-append}
use Rattle.std.proofs.lemmas.Grind.{flat_map-append}
use Rattle.sqlite.specs.declared.types.Value.{Value}
use Rattle.sqlite.specs.declared.types.Value.TheVariants.{Null, Int, Real, Text, Blob}
use Rattle.sqlite.specs.Collation.TheVariants.{Binary}
use Rattle.sqlite.specs.Order.{Row, column, value_cmp}
use Rattle.sqlite.specs.Ops.{binary, from_truth, is_true as holds_true}
use Rattle.sqlite.specs.Tree.{Trees}
use Rattle.sqlite_schema.specs.Rules.{equal}
use Rattle.sqlite_value.proofs.OrderLemmas.{value_cmp-Blob}
use Rattle.pl_base.specs.declared.row.Change.{Change}
use Rattle.pl_base.specs.declared.row.Row.{Row as Kept}
use Rattle.pl_keeper.specs.Keeping.{changed, made, row_at, IsInOrder}
use Rattle.pl_keeper.proofs.Changing.{order_kept}
use Rattle.pl_sqlkeeper.specs.Kept.{kept_at, kept_of, put_of, rows_in}
use Rattle.pl_sqlkeeper.proofs.Places.{all_here, all_in_order, here, here_itself, is_false, latest}
use Rattle.pl_sqlkeeper.proofs.Places.{not_before, not_behind, one_here, same_rows}

-- a place's bytes, as the table has them
abbrev pub bytes_of : Kept → List ℕ
bytes_of row = row.table ∷ row.key

tied : (o p : Ordering) → o ≡ ordering_reverse p → is_lt o ≡ false → is_lt p ≡ false → o ≡ Equal
tied Less p e f g = absurd cc
tied Equal p e f g = refl
tied Greater Less e f g = absurd cc
tied Greater Equal e f g = absurd cc
tied Greater Greater e f g = absurd cc

equal_of : (o : Ordering) → is_eq o ≡ true → o ≡ Equal
equal_of Less e = absurd cc
equal_of Equal e = refl
equal_of Greater e = absurd cc

same_place : (at row : Kept) → here at row ≡ true → bytes_of row ≡ bytes_of at
same_place at row e =
    slice_cmp-IsAntisymmetric nat_cmp-IsAntisymmetric (bytes_of row) (bytes_of at)
    (tied (slice_cmp nat_cmp (bytes_of row) (bytes_of at))
    (slice_cmp nat_cmp (bytes_of at) (bytes_of row))
    (nat_list_cmp_total.antisymm (bytes_of row) (bytes_of at)) (not_before at row e)
    (not_behind at row e))

same_here : (at row : Kept) → bytes_of row ≡ bytes_of at → here at row ≡ true
same_here at row e = ap (λ (bs : List ℕ). not (is_lt (slice_cmp nat_cmp bs (bytes_of at))) &&
    not (is_lt (slice_cmp nat_cmp (bytes_of at) bs))) e ∙ here_itself at

-- the row of the table has the place, as SQL compares
abbrev pub is_at : List ℕ → Row → Bool
is_at place row = equal Binary (column row 1) (Blob place)

truth_of : (b : Bool) → holds_true (from_truth (Some b)) ≡ b
truth_of true = refl
truth_of false = refl

equal_blobs : (p q : List ℕ) → equal Binary (Blob p) (Blob q) ≡ is_eq (slice_cmp nat_cmp p q)
unfolding binary
equal_blobs p q = truth_of (is_eq (value_cmp (Blob p) (Blob q))) ∙ ap is_eq (value_cmp-Blob p q)

same_bytes : (p q : List ℕ) → equal Binary (Blob p) (Blob q) ≡ true → p ≡ q
same_bytes p q e = slice_cmp-IsAntisymmetric nat_cmp-IsAntisymmetric p q
    (equal_of (slice_cmp nat_cmp p q) (sym (equal_blobs p q) ∙ e))

bytes_themselves : (p : List ℕ) → equal Binary (Blob p) (Blob p) ≡ true
bytes_themselves p = equal_blobs p p ∙ ap is_eq (tied_itself nat_list_cmp_total p)

-- what a place and a body stand for has this place
shown : (v w : Value) → (kept_at v w ≡ []) ⊎ ((row : Kept) × (kept_at v w ≡ row ∷ []) ×
    (v ≡ Blob (bytes_of row)))
shown Null w = inl refl
shown (Int n) w = inl refl
shown (Real x) w = inl refl
shown (Text t) w = inl refl
shown (Blob []) w = inl refl
shown (Blob (table ∷ key)) Null = inl refl
shown (Blob (table ∷ key)) (Int n) = inl refl
shown (Blob (table ∷ key)) (Real x) = inl refl
shown (Blob (table ∷ key)) (Text t) = inl refl
shown (Blob (table ∷ key)) (Blob body) =
    inr (record { table = table; key = key; body = body }, refl, refl)

-- a row that has another place stands for nothing here
gone : (place : List ℕ) (row : Row) (at : Kept) → is_at place row ≡ true →
    (bytes_of at ≡ place → ⊥) → filter (here at) (kept_of row) ≡ []
gone place row at e other = one (shown (column row 1) (column row 2)) where
  one : (kept_of row ≡ []) ⊎ ((kept : Kept) × (kept_of row ≡ kept ∷ []) ×
      (column row 1 ≡ Blob (bytes_of kept))) → filter (here at) (kept_of row) ≡ []
  one (inl empty) = ap (filter (here at)) empty
  one (inr it) =
      let same : bytes_of it.0 ≡ place = same_bytes (bytes_of it.0) place
      (ap (λ v. equal Binary v (Blob place)) (sym it.2) ∙ e) in
      let away : here at it.0 ≡ false = is_false (here at it.0) (λ h.
      other (sym (same_place at it.0 h) ∙ same)) in
      ap (filter (here at)) it.1 ∙ rw away refl

-- a row whose place isn't this one stands for nothing here
stays : (place : List ℕ) (row : Row) (at : Kept) → is_at place row ≡ false →
    bytes_of at ≡ place → filter (here at) (kept_of row) ≡ []
stays place row at e same = one (shown (column row 1) (column row 2)) where
  one : (kept_of row ≡ []) ⊎ ((kept : Kept) × (kept_of row ≡ kept ∷ []) ×
      (column row 1 ≡ Blob (bytes_of kept))) → filter (here at) (kept_of row) ≡ []
  one (inl empty) = ap (filter (here at)) empty
  one (inr it) =
      let away : here at it.0 ≡ false = is_false (here at it.0) (λ h.
      let is : column row 1 ≡ Blob place = it.2 ∙ ap Blob (same_place at it.0 h ∙ same) in
      true≢false (sym (ap (λ v. equal Binary v (Blob place)) is ∙ bytes_themselves place) ∙ e)) in
      ap (filter (here at)) it.1 ∙ rw away refl

-- what the table's rows stand for at a place
abbrev pub found : Kept → List Row → List Kept
found at rows = filter (here at) (flat_map kept_of rows)

found_more : (at : Kept) (row : Row) (rows : List Row) →
    found at (row ∷ rows) ≡ filter (here at) (kept_of row) ++ found at rows
found_more at row rows = filter-append (here at) (kept_of row) (flat_map kept_of rows)

found_both : (at : Kept) (front back : List Row) →
    found at (front ++ back) ≡ found at front ++ found at back
found_both at front back = ap (filter (here at)) (flat_map-append kept_of front back) ∙
    filter-append (here at) (flat_map kept_of front) (flat_map kept_of back)

abbrev pub taken : List ℕ → List Row → List Row
taken place rows = filter (λ row. not (is_at place row)) rows

taken_here : (place : List ℕ) (rows : List Row) (at : Kept) → bytes_of at ≡ place →
    found at (taken place rows) ≡ []
taken_here place [] at same = refl
taken_here place (row ∷ rows) at same =
    one (is_at place row) refl (taken_here place rows at same) where
      one : (b : Bool) → is_at place row ≡ b → found at (taken place rows) ≡ [] →
          found at (taken place (row ∷ rows)) ≡ []
      one true e more = rw e more
      one false e more = rw e (found_more at row (taken place rows) ∙
          (λ i. stays place row at e same i ++ more i))

taken_past : (place : List ℕ) (rows : List Row) (at : Kept) → (bytes_of at ≡ place → ⊥) →
    found at (taken place rows) ≡ found at rows
taken_past place [] at other = refl
taken_past place (row ∷ rows) at other =
    one (is_at place row) refl (taken_past place rows at other) where
      one : (b : Bool) → is_at place row ≡ b → found at (taken place rows) ≡ found at rows →
          found at (taken place (row ∷ rows)) ≡ found at (row ∷ rows)
      one true e more = rw e (more ∙ sym (found_more at row rows ∙
          ap (λ front. front ++ found at rows) (gone place row at e other)))
      one false e more = rw e (found_more at row (taken place rows) ∙
          (ap (λ back. filter (here at) (kept_of row) ++ back) more ∙
          sym (found_more at row rows)))

abbrev pub last_of : List Kept → List Kept → List Kept
last_of rest rows = fold (λ _ row. row ∷ []) rest rows

latest_of : (at : Kept) (rows rest : List Kept) →
    latest at (map put_of rows) rest ≡ last_of rest (filter (here at) rows)
latest_of at [] rest = refl
latest_of at (row ∷ rows) rest =
    one (here at row) refl (λ rest. latest_of at rows rest) where
      one : (b : Bool) → here at row ≡ b → ((rest : List Kept) →
          latest at (map put_of rows) rest ≡ last_of rest (filter (here at) rows)) →
          latest at (map put_of (row ∷ rows)) rest ≡ last_of rest (filter (here at) (row ∷ rows))
      one true e more =
          let kept : filter (here at) (row ∷ rows) ≡ row ∷ filter (here at) rows = rw e refl in
          ap (λ (b : Bool). latest at (map put_of rows) (if b then row ∷ [] else rest)) e ∙
          (more (row ∷ []) ∙ ap (last_of rest) (sym kept))
      one false e more =
          let lost : filter (here at) (row ∷ rows) ≡ filter (here at) rows = rw e refl in
          ap (λ (b : Bool). latest at (map put_of rows) (if b then row ∷ [] else rest)) e ∙
          (more rest ∙ ap (last_of rest) (sym lost))

-- at a place the last of them counts
pub rows_here : (at : Kept) (db : Trees) →
    filter (here at) (rows_in db) ≡ last_of [] (found at (db 0))
rows_here at db = all_here at (map put_of (flat_map kept_of (db 0))) [] ∙
    latest_of at (flat_map kept_of (db 0)) []

pub rows_in_order : (db : Trees) → IsInOrder (rows_in db)
rows_in_order db = all_in_order (map put_of (flat_map kept_of (db 0))) []
    (λ k d low high. absurd (omega arith))

-- what a place holds is told by the change there, and elsewhere by what was found before
by_place : (change : Change) (old new : Trees) → ((at : Kept) → here at (row_at change) ≡ true →
    last_of [] (found at (new 0)) ≡ made change) → ((at : Kept) → here at (row_at change) ≡ false →
    found at (new 0) ≡ found at (old 0)) → rows_in new ≡ changed (rows_in old) change
by_place change old new there elsewhere = same_rows (rows_in new) (changed (rows_in old) change)
    (rows_in_order new) (order_kept (rows_in old) change (rows_in_order old)) each where
      each : (at : Kept) →
          filter (here at) (rows_in new) ≡ filter (here at) (changed (rows_in old) change)
      each at = one (here at (row_at change)) refl where
        one : (b : Bool) → here at (row_at change) ≡ b →
            filter (here at) (rows_in new) ≡ filter (here at) (changed (rows_in old) change)
        one true e = rows_here at new ∙ (there at e ∙
            sym (one_here at (rows_in old) change ∙ rw e refl))
        one false e = rows_here at new ∙ (ap (last_of []) (elsewhere at e) ∙
            (sym (rows_here at old) ∙ sym (one_here at (rows_in old) change ∙ rw e refl)))

-- the row that a change at a place makes, or none, in the place of those that had it
module _ (table : ℕ) (key : List ℕ) (old : Trees) where
  abbrev place : List ℕ
  place = table ∷ key

  not_there : (change : Change) → bytes_of (row_at change) ≡ place → (at : Kept) →
      here at (row_at change) ≡ false → bytes_of at ≡ place → ⊥
  not_there change is at e same =
      true≢false (sym (same_here at (row_at change) (is ∙ sym same)) ∙ e)

  pub take_rows : (new : Trees) → new 0 ≡ taken place (old 0) →
      rows_in new ≡ changed (rows_in old) (record { table = table; key = key; body = None })
  take_rows new is = by_place (record { table = table; key = key; body = None }) old new
      (λ at e. ap (λ rows. last_of [] (found at rows)) is ∙
      ap (last_of []) (taken_here place (old 0) at (sym (same_place at
      (record { table = table; key = key; body = [] }) e))))
      (λ at e. ap (found at) is ∙ taken_past place (old 0) at
      (not_there (record { table = table; key = key; body = None }) refl at e))

  -- the row of the table for a body, by its number
  abbrev pub stored : ℤ → List ℕ → Row
  stored id body = Int id ∷ Blob place ∷ Blob body ∷ []

  abbrev row_with : List ℕ → Kept
  row_with body = record { table = table; key = key; body = body }

  nothing_left : (xs ys : List Kept) → xs ++ ys ≡ [] → (xs ≡ []) × (ys ≡ [])
  nothing_left [] ys e = (refl, e)
  nothing_left (x ∷ xs) ys e = absurd cc

  pub put_rows : (new : Trees) (id : ℤ) (body : List ℕ) (front back : List Row) →
      taken place (old 0) ≡ front ++ back → new 0 ≡ front ++ (stored id body ∷ back) →
      rows_in new ≡ changed (rows_in old) (record { table = table; key = key; body = Some body })
  put_rows new id body front back cut is =
      by_place (record { table = table; key = key; body = Some body }) old new there past where
        between : (at : Kept) → found at (new 0) ≡
            found at front ++ (filter (here at) (row_with body ∷ []) ++ found at back)
        between at = ap (found at) is ∙ (found_both at front (stored id body ∷ back) ∙
            ap (λ rows. found at front ++ rows) (found_more at (stored id body) back))

        there : (at : Kept) → here at (row_with []) ≡ true →
            last_of [] (found at (new 0)) ≡ row_with body ∷ []
        there at e =
            let none : found at front ++ found at back ≡ [] = sym (found_both at front back) ∙
            (ap (found at) (sym cut) ∙ taken_here place (old 0) at
            (sym (same_place at (row_with []) e))) in
            let both = nothing_left (found at front) (found at back) none in
            let near : here at (row_with body) ≡ true = e in
            let kept : filter (here at) (row_with body ∷ []) ≡ row_with body ∷ [] = rw near refl in
            ap (last_of []) (between at ∙ (λ i. both.0 i ++ (kept i ++ both.1 i)))

        past : (at : Kept) → here at (row_with []) ≡ false → found at (new 0) ≡ found at (old 0)
        past at e =
            let far : here at (row_with body) ≡ false = e in
            let lost : filter (here at) (row_with body ∷ []) ≡ [] = rw far refl in
            between at ∙ (ap (λ rows. found at front ++ (rows ++ found at back)) lost ∙
            (sym (found_both at front back) ∙ (ap (found at) (sym cut) ∙
            taken_past place (old 0) at
            (not_there (record { table = table; key = key; body = Some body }) refl at e))))
