-- Places of rows, and what rows have at one.
use Rattle.std.proofs.Common.{◌≡◌, ℕ, Bool, true, false, cond, true≢false, List, [], ◌∷◌, ◌++◌}
use Rattle.std.proofs.Common.{Option, Some, None, refl, sym, ap, ◌∙◌}
use Rattle.std.specs.Cmp.{IsTotalOrder}
use Rattle.std.specs.Cmp.Lexicographic.{slice_cmp}
use Rattle.std.specs.List.{filter, find, AllByRecursion}
use Rattle.std.specs.Option.{option_or}
use Rattle.std.specs.Ordering.{is_eq, is_lt, nat_cmp, ordering_reverse}
use Rattle.std.specs.declared.cmp.Ordering.{Ordering}
use Rattle.std.specs.declared.cmp.Ordering.TheVariants.{Less, Equal, Greater}
use Rattle.std.proofs.lemmas.Cmp.{nat_cmp_total, nat_list_cmp_total, on_total, then_total}
use Rattle.std.proofs.lemmas.Cmp.{tied_itself}
use Rattle.std.proofs.lemmas.Map.Lookups.{exact_bytes, exact_pairs, exact_unsigned}
use Rattle.pl_base.specs.declared.row.Row.{Row}
use Rattle.pl_keeper.specs.Keeping.{comes_before, place, place_cmp}
use Rattle.pl_changes.specs.Differing.{row_in, stands_at}

abbrev pub Place : Type 0
Place = ℕ × List ℕ

pub places_total : IsTotalOrder place_cmp
places_total = then_total (on_total (λ p. p.0) nat_cmp_total)
    (on_total (λ p. p.1) nat_list_cmp_total)

pub is_equal : (o : Ordering) → is_eq o ≡ true → o ≡ Equal
is_equal Less e = absurd (true≢false (sym e))
is_equal Equal e = refl
is_equal Greater e = absurd (true≢false (sym e))

pub is_less : (o : Ordering) → is_lt o ≡ true → o ≡ Less
is_less Less e = refl
is_less Equal e = absurd (true≢false (sym e))
is_less Greater e = absurd (true≢false (sym e))

pub same_place : (p q : Place) → is_eq (place_cmp p q) ≡ true → p ≡ q
same_place p q e = exact_pairs nat_cmp (slice_cmp nat_cmp) exact_unsigned exact_bytes p q
    (is_equal (place_cmp p q) e)

pub itself : (p : Place) → is_eq (place_cmp p p) ≡ true
itself p = ap is_eq (tied_itself places_total p)

pub stands : (at : Place) (row : Row) → stands_at at row ≡ true → place row ≡ at
stands at row e = same_place (place row) at e

pub then_not : (p q : Place) → place_cmp p q ≡ Less → is_eq (place_cmp p q) ≡ false
then_not p q less = ap is_eq less

pub then_not_back : (p q : Place) → place_cmp p q ≡ Less → is_eq (place_cmp q p) ≡ false
then_not_back p q less =
    ap is_eq (places_total.antisymm q p ∙ ap ordering_reverse less)

-- ---- choices and options

pub if_true : {X : Type 0} (b : Bool) (x y : X) → b ≡ true → cond b x y ≡ x
if_true b x y e = ap (λ (c : Bool). cond c x y) e

pub if_false : {X : Type 0} (b : Bool) (x y : X) → b ≡ false → cond b x y ≡ y
if_false b x y e = ap (λ (c : Bool). cond c x y) e

pub or_cond : {X : Type 0} (b : Bool) (x : X) (r s : Option X) →
    option_or (cond b (Some x) r) s ≡ cond b (Some x) (option_or r s)
or_cond true x r s = refl
or_cond false x r s = refl

pub or_none : {X : Type 0} (r : Option X) → option_or r None ≡ r
or_none None = refl
or_none (Some x) = refl

pub cond_none : {X : Type 0} (o : Option X) (b : Bool) → o ≡ None → o ≡ cond b o None
cond_none o true e = refl
cond_none o false e = e

-- ---- searches

pub find_behind : {X : Type 0} (p : X → Bool) (xs ys : List X) →
    find p (xs ++ ys) ≡ option_or (find p xs) (find p ys)
find_behind p [] ys = refl
find_behind p (x ∷ xs) ys =
    ap (cond (p x) (Some x)) (find_behind p xs ys) ∙ sym (or_cond (p x) x (find p xs) (find p ys))

-- of what a test of places lets through, a search for a place finds what it found, or nothing
module _ (test : Place → Bool) (at : Place) where
  one_kept : (row : Row) (rows : List Row) (s t : Bool) → stands_at at row ≡ s →
      test (place row) ≡ t → find (stands_at at) (filter (λ one. test (place one)) rows) ≡
      cond (test at) (find (stands_at at) rows) None →
      find (stands_at at) (cond t (row ∷ filter (λ one. test (place one)) rows)
      (filter (λ one. test (place one)) rows)) ≡
      cond (test at) (cond s (Some row) (find (stands_at at) rows)) None
  one_kept row rows true true e f rest =
      let g : test at ≡ true = ap test (sym (stands at row e)) ∙ f in
      if_true (stands_at at row) (Some row)
      (find (stands_at at) (filter (λ one. test (place one)) rows)) e ∙
      sym (if_true (test at) (Some row) None g)
  one_kept row rows true false e f rest =
      let g : test at ≡ false = ap test (sym (stands at row e)) ∙ f in
      rest ∙ (if_false (test at) (find (stands_at at) rows) None g ∙
      sym (if_false (test at) (Some row) None g))
  one_kept row rows false true e f rest = if_false (stands_at at row) (Some row)
      (find (stands_at at) (filter (λ one. test (place one)) rows)) e ∙ rest
  one_kept row rows false false e f rest = rest

  pub find_kept : (rows : List Row) →
      find (stands_at at) (filter (λ one. test (place one)) rows) ≡
      cond (test at) (find (stands_at at) rows) None
  find_kept [] = cond_none None (test at) refl
  find_kept (row ∷ rows) = one_kept row rows (stands_at at row) (test (place row)) refl refl
      (find_kept rows)

-- ---- rows that ascend

-- behind a row none stands at its place or before it
pub none_behind : (at : Place) (row : Row) (rows : List Row) →
    is_eq (place_cmp (place row) at) ≡ true →
    AllByRecursion (λ later. comes_before row later ≡ true) rows → row_in at rows ≡ None
none_behind at row [] e each = refl
none_behind at row (later ∷ rows) e each =
    let less : place_cmp (place row) (place later) ≡ Less =
    is_less (place_cmp (place row) (place later)) each.0 in
    let off : is_eq (place_cmp (place later) at) ≡ false =
    ap (λ (p : Place). is_eq (place_cmp (place later) p)) (sym (same_place (place row) at e)) ∙
    then_not_back (place row) (place later) less in
    if_false (stands_at at later) (Some later) (row_in at rows) off ∙
    none_behind at row rows e each.1

-- a place that comes before all rows has none
pub none_from : (at : Place) (rows : List Row) →
    AllByRecursion (λ later. place_cmp at (place later) ≡ Less) rows → row_in at rows ≡ None
none_from at [] each = refl
none_from at (row ∷ rows) each =
    if_false (stands_at at row) (Some row) (row_in at rows) (then_not_back at (place row) each.0) ∙
    none_from at rows each.1

pub before_all : (at : Place) (row : Row) (rows : List Row) → place_cmp at (place row) ≡ Less →
    AllByRecursion (λ later. comes_before row later ≡ true) rows →
    AllByRecursion (λ later. place_cmp at (place later) ≡ Less) rows
before_all at row [] less each = each
before_all at row (later ∷ rows) less each = (
  places_total.trans at (place row) (place later) less
      (is_less (place_cmp (place row) (place later)) each.0),
  before_all at row rows less each.1,
)
