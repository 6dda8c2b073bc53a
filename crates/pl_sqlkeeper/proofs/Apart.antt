-- Rows with numbers of their own: which rows go by their numbers, and what stays of that.
use Rattle.std.proofs.Common.{◌≡◌, ◌&&◌, ◌||◌, ℤ, Bool, true, false, not, List, [], ◌∷◌, ◌++◌}
use Rattle.std.proofs.Common.{filter}
use Rattle.std.proofs.Common.{refl, sym, ap, ◌∙◌, IsPermutation}
use Rattle.std.specs.declared.cmp.Ordering.{Ordering}
use Rattle.std.specs.declared.cmp.Ordering.TheVariants.{Less, Equal, Greater}
use Rattle.std.specs.Ordering.{is_eq, match_ordering, ordering_reverse}
use Rattle.std.specs.List.{AllByRecursion, list_any}
use Rattle.std.proofs.lemmas.Cmp.{tied_itself}
use Rattle.sqlite.specs.declared.types.Value.{Value}
use Rattle.sqlite.specs.declared.types.Value.TheVariants.{Int}
use Rattle.sqlite.specs.Order.{Row, value_cmp}
use Rattle.sqlite.specs.Tree.{has_rowid, put_row, rowid, IsAscending}
use Rattle.sqlite.specs.Edit.{id_in, is_taken, without_all}
use Rattle.sqlite_trees.proofs.ListLemmas.{all-filter, all-permutation, all_both, all_of}
use Rattle.sqlite_trees.proofs.ListLemmas.{all_weaker}
use Rattle.sqlite_trees.proofs.ListLemmas.{along_permutation, ascending-filter, filter_all}
use Rattle.sqlite_trees.proofs.ListLemmas.{filter_same}
use Rattle.sqlite_value.proofs.OrderLemmas.{value_cmp_total}
use Rattle.pl_sqlkeeper.specs.Kept.{has_number_of, AreApart}

and_none : (a b : Bool) → b ≡ false → (a && b) ≡ false
and_none true b e = e
and_none false b e = refl

alone : (a b c : Bool) → b ≡ true → c ≡ false → ((a && b) || c) ≡ a
alone true true false e f = refl
alone true true true e f = absurd cc
alone true false c e f = absurd cc
alone false b c e f = f

past : (a b c d : Bool) → b ≡ false → c ≡ d → ((a && b) || c) ≡ d
past true true c d e f = absurd cc
past true false c d e f = f
past false b c d e f = f

pub or_none : (a b : Bool) → (a || b) ≡ false → (a ≡ false) × (b ≡ false)
or_none true b e = absurd cc
or_none false b e = (refl, e)

any_none : (p : Row → Bool) (rows : List Row) → AllByRecursion (λ row. p row ≡ false) rows →
    list_any p rows ≡ false
any_none p [] all = refl
any_none p (row ∷ rows) all = rw all.0 (any_none p rows all.1)

abbrev pub Strangers : Row → Row → Type 0
Strangers first second = (has_number_of first second ≡ false) ×
    (has_number_of second first ≡ false)

-- a row has the number of one that passes a test exactly where it passes it itself
picks : (m : Row → Bool) (rows : List Row) →
    AllByRecursion (λ row. has_number_of row row ≡ true) rows → IsAscending Strangers rows →
    AllByRecursion (λ row. list_any (λ other. m other && has_number_of other row) rows ≡ m row) rows
picks m [] own apart = tt
picks m (row ∷ rows) own apart = (
  alone (m row) (has_number_of row row)
      (list_any (λ other. m other && has_number_of other row) rows) own.0
      (any_none (λ other. m other && has_number_of other row) rows
      (all_weaker (Strangers row) (λ other. (m other && has_number_of other row) ≡ false)
      (λ other h. and_none (m other) (has_number_of other row) h.1) rows apart.0)),
  all_both (Strangers row) (λ it. list_any (λ other. m other && has_number_of other it) rows ≡ m it)
      (λ it. list_any (λ other. m other && has_number_of other it) (row ∷ rows) ≡ m it)
      (λ it h same. past (m row) (has_number_of row it) _ (m it) h.0 same) rows apart.0
      (picks m rows own.1 apart.1),
)

both_filters : (p q : Row → Bool) (rows : List Row) → filter (λ row. not (q row))
    (filter (λ row. not (p row)) rows) ≡ filter (λ row. not (p row || q row)) rows
both_filters p q [] = refl
both_filters p q (row ∷ rows) = one (p row) (q row) refl refl (both_filters p q rows) where
  one : (a b : Bool) → p row ≡ a → q row ≡ b → filter (λ row. not (q row))
      (filter (λ row. not (p row)) rows) ≡ filter (λ row. not (p row || q row)) rows →
      filter (λ row. not (q row)) (filter (λ row. not (p row)) (row ∷ rows)) ≡
      filter (λ row. not (p row || q row)) (row ∷ rows)
  one true b e f more = rw e more
  one false true e f more = rw (e, f) more
  one false false e f more = rw (e, f) (ap (λ (others : List Row). row ∷ others) more)

without_each : (ids : List ℤ) (rows : List Row) → without_all rows ids ≡
    filter (λ row. not (list_any (λ id. has_rowid id row) ids)) rows
without_each [] rows = sym (filter_all (λ row. true) rows
    (all_of (λ row. ◌≡◌ {A = Bool} true true) (λ row. refl) rows))
without_each (id ∷ ids) rows =
    without_each ids (filter (λ row. not (has_rowid id row)) rows) ∙
    both_filters (λ row. has_rowid id row) (λ row. list_any (λ id. has_rowid id row) ids) rows

-- where the numbers are those of the rows that pass a test, just these rows go
pub without_passed : (m : Row → Bool) (rows : List Row) (ids : List ℤ) → AreApart rows →
    ((row : Row) → list_any (λ id. has_rowid id row) ids ≡
    list_any (λ other. m other && has_number_of other row) rows) →
    without_all rows ids ≡ filter (λ row. not (m row)) rows
without_passed m rows ids apart each = without_each ids rows ∙
    filter_same (λ row. not (list_any (λ id. has_rowid id row) ids)) (λ row. not (m row)) rows
    (all_weaker (λ row. list_any (λ other. m other && has_number_of other row) rows ≡ m row)
    (λ row. not (list_any (λ id. has_rowid id row) ids) ≡ not (m row))
    (λ row same. ap not (each row ∙ same)) rows (picks m rows apart.numbered apart.strangers))

pub apart_filter : (p : Row → Bool) (rows : List Row) → AreApart rows → AreApart (filter p rows)
apart_filter p rows apart = record {
  numbered = all-filter (λ row. has_number_of row row ≡ true) p rows apart.numbered;
  strangers = ascending-filter Strangers p rows apart.strangers;
}

all_put : (P : Row → Type 0) (new : Row) (front back : List Row) → P new →
    AllByRecursion P (front ++ back) → AllByRecursion P (front ++ (new ∷ back))
all_put P new [] back here all = (here, all)
all_put P new (row ∷ front) back here all = (all.0, all_put P new front back here all.1)

strangers_put : (new : Row) (front back : List Row) → IsAscending Strangers (front ++ back) →
    AllByRecursion (λ row. Strangers row new) (front ++ back) →
    IsAscending Strangers (front ++ (new ∷ back))
strangers_put new [] back apart all = (
  all_weaker (λ row. Strangers row new) (Strangers new) (λ row h. (h.1, h.0)) back all,
  apart,
)
strangers_put new (row ∷ front) back apart all = (
  all_put (Strangers row) new front back all.0 apart.0,
  strangers_put new front back apart.1 all.1,
)

reversed : (o : Ordering) → is_eq (ordering_reverse o) ≡ is_eq o
reversed Less = refl
reversed Equal = refl
reversed Greater = refl

pub equal_of : (o : Ordering) → is_eq o ≡ true → o ≡ Equal
equal_of Less e = absurd cc
equal_of Equal e = refl
equal_of Greater e = absurd cc

other_way : (a b c : Value) → is_eq (value_cmp a b) ≡ true → is_eq (value_cmp a c) ≡ false →
    is_eq (value_cmp c b) ≡ false
other_way a b c tie apart =
    let turned : value_cmp a c ≡ value_cmp b c =
    value_cmp_total.congr a b c (equal_of (value_cmp a b) tie) in
    ap is_eq (value_cmp_total.antisymm c b) ∙ (reversed (value_cmp b c) ∙
    (ap is_eq (sym turned) ∙ apart))

-- a number that isn't taken is no row's
free : (n : ℤ) (new : Row) (rows : List Row) → rowid new ≡ Int n → is_taken rows new ≡ false →
    AllByRecursion (λ row. has_number_of row row ≡ true) rows →
    AllByRecursion (λ row. Strangers row new) rows
free n new [] is none own = tt
free n new (row ∷ rows) is none own =
    let parts = or_none (is_eq (value_cmp (rowid row) (rowid new))) (is_taken rows new) none in (
      (
        ap (λ v. is_eq (value_cmp v (Int (id_in (rowid row))))) is ∙
            other_way (rowid row) (Int (id_in (rowid row))) (Int n) own.0
            (ap (λ v. is_eq (value_cmp (rowid row) v)) (sym is) ∙ parts.0),
        ap (λ v. is_eq (value_cmp (rowid row) (Int (id_in v)))) is ∙
            (ap (λ v. is_eq (value_cmp (rowid row) v)) (sym is) ∙ parts.0),
      ),
      free n new rows is parts.1 own.1,
    )

numbered : (n : ℤ) (new : Row) → rowid new ≡ Int n → has_number_of new new ≡ true
numbered n new is = ap (λ v. is_eq (value_cmp v (Int (id_in v)))) is ∙
    ap is_eq (tied_itself value_cmp_total (Int n))

pub apart_put : (n : ℤ) (new : Row) (front back : List Row) → rowid new ≡ Int n →
    is_taken (front ++ back) new ≡ false → AreApart (front ++ back) →
    AreApart (front ++ (new ∷ back))
apart_put n new front back is none apart = record {
  numbered = all_put (λ row. has_number_of row row ≡ true) new front back (numbered n new is)
      apart.numbered;
  strangers = strangers_put new front back apart.strangers
      (free n new (front ++ back) is none apart.numbered);
}

-- a row with a number that isn't taken comes between the others
pub put_between : (new : Row) (rows : List Row) → is_taken rows new ≡ false →
    (front : List Row) × (back : List Row) × (rows ≡ front ++ back) ×
    (put_row new rows ≡ front ++ (new ∷ back))
put_between new [] none = ([], [], refl, refl)
put_between new (row ∷ rows) none =
    let parts = or_none (is_eq (value_cmp (rowid row) (rowid new))) (is_taken rows new) none in
    go (value_cmp (rowid row) (rowid new)) parts.0 (put_between new rows parts.1) where
      go : (o : Ordering) → is_eq o ≡ false → ((front : List Row) × (back : List Row) ×
          (rows ≡ front ++ back) × (put_row new rows ≡ front ++ (new ∷ back))) →
          (front : List Row) × (back : List Row) × (row ∷ rows ≡ front ++ back) ×
          (match_ordering o (row ∷ put_row new rows) (new ∷ rows) (new ∷ row ∷ rows) ≡
          front ++ (new ∷ back))
      go Less other (front, back, cut, put) = (
        row ∷ front,
        back,
        ap (λ (more : List Row). row ∷ more) cut,
        ap (λ (more : List Row). row ∷ more) put,
      )
      go Equal other it = absurd cc
      go Greater other it = ([], row ∷ rows, refl, refl)

-- in any order the rows have numbers of their own
abbrev Follows : List Row → List Row → Type 0
Follows xs ys = ((row : Row) → AllByRecursion (Strangers row) xs →
    AllByRecursion (Strangers row) ys) × (IsAscending Strangers xs → IsAscending Strangers ys)

follows : (xs ys : List Row) → IsPermutation xs ys → Follows xs ys
follows = along_permutation Follows (λ xs. (λ row h. h, λ up. up))
    (λ x xs ys h. (λ row all. (all.0, h.0 row all.1), λ up. (h.0 x up.0, h.1 up.1)))
    (λ x y xs. (
      λ row all. (all.1.0, (all.0, all.1.1)),
      λ up. (((up.0.0.1, up.0.0.0), up.1.0), (up.0.1, up.1.1)),
    ))
    (λ xs ys zs h k. (λ row all. k.0 row (h.0 row all), λ up. k.1 (h.1 up)))

pub apart_permuted : (xs ys : List Row) → IsPermutation xs ys → AreApart xs → AreApart ys
apart_permuted xs ys same apart = record {
  numbered = all-permutation (λ row. has_number_of row row ≡ true) xs ys same apart.numbered;
  strangers = (follows xs ys same).1 apart.strangers;
}
