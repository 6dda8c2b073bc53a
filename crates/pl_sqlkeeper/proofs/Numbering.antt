-- Rows whose numbers rise have numbers of their own.
use Rattle.std.proofs.Common.{◌≡◌, ℕ, zero, suc, ◌+◌, ◌-◌, ◌<◌, get_or, subst₂, ℤ, ◌<ℤ◌, true}
use Rattle.std.proofs.Common.{false, List, [], ◌∷◌, length}
use Rattle.std.proofs.Common.{refl, ap, ◌∙◌, arith}
use Rattle.std.specs.Ordering.{int_cmp, is_eq}
use Rattle.std.specs.List.{AllAdjacentBelow, AllByRecursion}
use Rattle.std.specs.FinMap.{int_cmp-IsAntisymmetric}
use Rattle.std.proofs.lemmas.Cmp.{tied_itself}
use Rattle.std.proofs.lemmas.Int.{ints}
use Rattle.std.proofs.lemmas.List.Sorted.{all_adjacent_more}
use Rattle.sqlite.specs.declared.types.Value.TheVariants.{Int}
use Rattle.sqlite.specs.Order.{Row, value_cmp}
use Rattle.sqlite.specs.Tree.{rowid, IsAscending}
use Rattle.sqlite.specs.Edit.{id_in}
use Rattle.sqlite_trees.proofs.ListLemmas.{all_both, all_weaker}
use Rattle.sqlite_rules.proofs.TableLemmas.{int_is}
use Rattle.sqlite_value.proofs.OrderLemmas.{value_cmp-Int, value_cmp_total}
use Rattle.pl_sqlkeeper.specs.Kept.{has_number_of, AreApart, HasNumber, Rises}
use Rattle.pl_sqlkeeper.proofs.Apart.{equal_of, Strangers}
use Rattle.pl_sqlkeeper.proofs.Places.{is_false, shift}

apart_numbers : (m n : ℤ) → m <ℤ n → is_eq (int_cmp m n) ≡ false
apart_numbers m n less = is_false (is_eq (int_cmp m n)) (λ e.
    let same : m ≡ n = int_cmp-IsAntisymmetric m n (equal_of (int_cmp m n) e) in
    absurd (omega (arith, ints)))

apart_numbers_back : (m n : ℤ) → n <ℤ m → is_eq (int_cmp m n) ≡ false
apart_numbers_back m n less = is_false (is_eq (int_cmp m n)) (λ e.
    let same : m ≡ n = int_cmp-IsAntisymmetric m n (equal_of (int_cmp m n) e) in
    absurd (omega (arith, ints)))

as_numbers : (first second : Row) → HasNumber second → has_number_of first second ≡
    is_eq (int_cmp (id_in (rowid second)) (id_in (rowid first)))
as_numbers first second has =
    ap (λ v. is_eq (value_cmp v (Int (id_in (rowid first))))) (int_is (rowid second) has) ∙
    ap is_eq (value_cmp-Int (id_in (rowid second)) (id_in (rowid first)))

strangers : (first second : Row) → HasNumber first → HasNumber second → Rises first second →
    Strangers first second
strangers first second a b up = (
  as_numbers first second b ∙ apart_numbers_back (id_in (rowid second)) (id_in (rowid first)) up,
  as_numbers second first a ∙ apart_numbers (id_in (rowid first)) (id_in (rowid second)) up,
)

itself : (row : Row) → HasNumber row → has_number_of row row ≡ true
itself row has = ap (λ v. is_eq (value_cmp v (Int (id_in (rowid row))))) (int_is (rowid row) has) ∙
    ap is_eq (tied_itself value_cmp_total (Int (id_in (rowid row))))

tail_rises : (row : Row) (rows : List Row) →
    AllAdjacentBelow Rises (row ∷ rows) (length (row ∷ rows)) →
    AllAdjacentBelow Rises rows (length rows)
tail_rises row rows all k d within = shift Rises row rows k d (all (suc k) d (omega arith))

same_item : (rows : List Row) (k : ℕ) (d e : Row) → k < length rows →
    get_or rows k d ≡ get_or rows k e
same_item [] k d e within = absurd (omega arith)
same_item (row ∷ rows) zero d e within = refl
same_item (row ∷ rows) (suc k) d e within = same_item rows k d e (omega arith)

-- one row more rises
pub rise_more : (rows : List Row) (at : ℕ) (first second : Row) → 0 < at → at < length rows →
    first ≡ get_or rows (at - 1) first → second ≡ get_or rows at second → Rises first second →
    AllAdjacentBelow Rises rows at → AllAdjacentBelow Rises rows (at + 1)
rise_more rows at first second some within is_first is_second up before =
    all_adjacent_more rows Rises at some before (λ d. subst₂ Rises
    (is_first ∙ same_item rows (at - 1) first d (omega arith))
    (is_second ∙ same_item rows at second d within) up)

above : (low row : Row) (rows : List Row) → Rises low row →
    AllAdjacentBelow Rises (row ∷ rows) (length (row ∷ rows)) →
    AllByRecursion (Rises low) (row ∷ rows)
above low row [] up all = (up, tt)
above low row (next ∷ rows) up all =
    let step : Rises row next = all 0 row (omega arith) in
    let far : Rises low next = omega (arith, ints) in
    (up, above low next rows far (tail_rises row (next ∷ rows) all))

ascends : (rows : List Row) → AllByRecursion HasNumber rows →
    AllAdjacentBelow Rises rows (length rows) → IsAscending Strangers rows
ascends [] has all = tt
ascends (row ∷ []) has all = (tt, tt)
ascends (row ∷ next ∷ rows) has all = (
  all_both (Rises row) HasNumber (Strangers row) (λ other up b. strangers row other has.0 b up)
      (next ∷ rows) (above row next rows (all 0 row (omega arith))
      (tail_rises row (next ∷ rows) all)) has.1,
  ascends (next ∷ rows) has.1 (tail_rises row (next ∷ rows) all),
)

pub apart_from_rising : (rows : List Row) → AllByRecursion HasNumber rows →
    AllAdjacentBelow Rises rows (length rows) → AreApart rows
apart_from_rising rows has all = record {
  numbered = all_weaker HasNumber (λ row. has_number_of row row ≡ true) itself rows has;
  strangers = ascends rows has all;
}
