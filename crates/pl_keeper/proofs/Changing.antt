-- Rows that are in order, and what a change leaves of them.
use Rattle.std.proofs.Common.{◌≡◌, ℕ, zero, suc, ◌+◌, ◌≤◌, ◌<◌, Bool, true, false, not, true≢false}
use Rattle.std.proofs.Common.{List, [], ◌∷◌, ◌++◌, length, take, drop, get_or, length-drop, Option}
use Rattle.std.proofs.Common.{Some, None, refl, sym, ap, ◌∙◌, arith}
use Rattle.std.specs.declared.cmp.Ordering.{Ordering}
use Rattle.std.specs.declared.cmp.Ordering.TheVariants.{Less, Equal, Greater}
use Rattle.std.specs.Ordering.{is_lt, nat_cmp, ordering_then}
use Rattle.std.specs.Cmp.Lexicographic.{slice_cmp}
use Rattle.std.specs.Cmp.{IsStrictWeakOrder, IsTotalOrder}
use Rattle.std.specs.List.{All, AllPairs, AllWithin, filter, insert, remove}
use Rattle.std.specs.Option.{option_map, option_to_list}
use Rattle.std.specs.List.Sorted.{IsPartitionedBy}
use Rattle.std.proofs.lemmas.Cmp.{nat_cmp_total, nat_list_cmp_total, on_total, then_total}
use Rattle.std.proofs.lemmas.List.{take_at, drop_at, drop-drop, length-take}
use Rattle.std.proofs.lemmas.List.Elements.{All-append, All-cons, All-weaker, filter_passes}
use Rattle.std.proofs.lemmas.List.Kept.{AllPairs-cons, AllPairs-filter}
use Rattle.std.proofs.lemmas.List.Sorted.{ranks_by, sorted_far}
use Rattle.pl_base.specs.declared.row.Change.{Change}
use Rattle.pl_base.specs.declared.row.Row.{Row}
use Rattle.pl_keeper.specs.Keeping.{changed, comes_before, place, place_cmp, row_at, row_cmp}
use Rattle.pl_keeper.specs.Keeping.{IsInOrder}

places_total : IsTotalOrder place_cmp
places_total = then_total (on_total (λ p. p.0) nat_cmp_total)
    (on_total (λ p. p.1) nat_list_cmp_total)

pub weak : IsStrictWeakOrder comes_before
weak = ranks_by places_total place

true_else : (b : Bool) → (b ≡ false → ⊥) → b ≡ true
true_else true denied = refl
true_else false denied = absurd (denied refl)

not_true : (b : Bool) → not b ≡ true → b ≡ false
not_true true e = absurd cc
not_true false e = refl

not_false : (b : Bool) → b ≡ false → not b ≡ true
not_false true e = absurd cc
not_false false e = refl

pub twice : (b : Bool) → b ≡ not (not b)
twice true = refl
twice false = refl

far : (rows : List Row) → IsInOrder rows → (i j : ℕ) (d : Row) → i ≤ j → j < length rows
    → comes_before (get_or rows j d) (get_or rows i d) ≡ false
far rows order i j d le lt = sorted_far comes_before weak rows order i j d le lt

-- the rows before a place come first
pub before_first : (rows : List Row) (at : Row) → IsInOrder rows →
    IsPartitionedBy (λ row. comes_before row at) rows
before_first rows at order i j d le lt e =
    true_else (comes_before (get_or rows i d) at) (λ denied.
    true≢false (sym e ∙ weak.chain (get_or rows j d) (get_or rows i d) at
    (far rows order i j d le lt) denied))

pub not_behind_first : (rows : List Row) (at : Row) → IsInOrder rows →
    IsPartitionedBy (λ row. not (comes_before at row)) rows
not_behind_first rows at order i j d le lt e =
    not_false (comes_before at (get_or rows i d))
    (weak.chain at (get_or rows j d) (get_or rows i d)
    (not_true (comes_before at (get_or rows j d)) e) (far rows order i j d le lt))

module _ {X : Type 0} (p q : X → Bool) (other : (x : X) → q x ≡ not (p x)) where
  -- what passes a test first, and what fails it behind, are the items that do
  pub cut : (xs : List X) (i : ℕ) → i ≤ length xs → AllWithin (λ x. p x ≡ true) xs 0 i →
      AllWithin (λ x. p x ≡ false) xs i (length xs)
      → (take i xs ≡ filter p xs) × (drop i xs ≡ filter q xs)
  cut [] zero le front back = (refl, refl)
  cut [] (suc i) le front back = absurd (omega arith)
  cut (x ∷ xs) zero le front back =
      let here : p x ≡ false = back 0 x (omega arith) (omega arith) in
      let rest = cut xs zero (omega arith) (λ k d low high. absurd (omega arith))
      (λ k d low high. back (suc k) d (omega arith) (omega arith)) in
      (rw here rest.0, rw (other x, here) (ap (λ (ys : List X). x ∷ ys) rest.1))
  cut (x ∷ xs) (suc i) le front back =
      let here : p x ≡ true = front 0 x (omega arith) (omega arith) in
      let rest = cut xs i (omega arith)
      (λ k d low high. front (suc k) d (omega arith) (omega arith))
      (λ k d low high. back (suc k) d (omega arith) (omega arith)) in
      (rw here (ap (λ (ys : List X). x ∷ ys) rest.0), rw (other x, here) rest.1)

-- tests that don't pass one thing pass no more than there are
pub apart_len : {X : Type 0} (p q : X → Bool) → ((x : X) → p x ≡ true → q x ≡ false) →
    (xs : List X) → length (filter p xs) + length (filter q xs) ≤ length xs
apart_len p q apart [] = omega arith
apart_len p q apart (x ∷ xs) = one (p x) (q x) refl refl (apart_len p q apart xs) where
  one : (a b : Bool) → p x ≡ a → q x ≡ b → length (filter p xs) + length (filter q xs) ≤ length xs
      → length (filter p (x ∷ xs)) + length (filter q (x ∷ xs)) ≤ suc (length xs)
  one true true e f inner = absurd (true≢false (sym f ∙ apart x e))
  one true false e f inner = rw (e, f) (omega arith)
  one false true e f inner = rw (e, f) (omega arith)
  one false false e f inner = rw (e, f) (omega arith)

-- a list behind another one, where each of the one is in order with each of the other
pairs_append : {X : Type 0} (R : X → X → Type 0) (xs ys : List X) → AllPairs R xs → AllPairs R ys →
    All (λ x. All (R x) ys) xs → AllPairs R (xs ++ ys)
pairs_append R [] ys left right across = right
pairs_append R (x ∷ xs) ys left right across =
    AllPairs-cons R x (xs ++ ys)
    (All-append (R x) xs ys (λ k d h. left 0 (suc k) d (omega arith) (omega arith))
    (across 0 x (omega arith)))
    (pairs_append R xs ys (λ j k d h l. left (suc j) (suc k) d (omega arith) (omega arith)) right
    (λ k d h. across (suc k) d (omega arith)))

-- the later doesn't come before the earlier
abbrev R : Row → Row → Type 0
R earlier later = comes_before later earlier ≡ false

module _ (rows : List Row) (change : Change) (order : IsInOrder rows) where
  abbrev front : List Row
  front = filter (λ row. comes_before row (row_at change)) rows

  abbrev back : List Row
  back = filter (λ row. comes_before (row_at change) row) rows

  pairs : AllPairs R rows
  pairs i j d lt within = far rows order i j d (omega arith) within

  before : All (λ row. comes_before row (row_at change) ≡ true) front
  before = filter_passes (λ row. comes_before row (row_at change)) rows

  behind : All (λ row. comes_before (row_at change) row ≡ true) back
  behind = filter_passes (λ row. comes_before (row_at change) row) rows

  outer : (x : Row) → comes_before x (row_at change) ≡ true → All (R x) back
  outer x e = All-weaker (λ row. comes_before (row_at change) row ≡ true) (R x)
      (λ y f. weak.chain y (row_at change) x (weak.one_way (row_at change) y f)
      (weak.one_way x (row_at change) e)) back behind

  front_pairs : AllPairs R front
  front_pairs = AllPairs-filter R (λ row. comes_before row (row_at change)) rows pairs

  back_pairs : AllPairs R back
  back_pairs = AllPairs-filter R (λ row. comes_before (row_at change) row) rows pairs

  row_of_change : List ℕ → Row
  row_of_change body = record { table = change.table; key = change.key; body = body }

  all_pairs : (body : Option (List ℕ)) →
      AllPairs R (front ++ (option_to_list
      (option_map (λ body. record { table = change.table; key = change.key; body = body }) body) ++
      back))
  all_pairs None = pairs_append R front back front_pairs back_pairs
      (All-weaker (λ row. comes_before row (row_at change) ≡ true) (λ x. All (R x) back) outer front
      before)
  all_pairs (Some body) =
      let m : Row = record { table = change.table; key = change.key; body = body } in
      let first : All (R m) back = All-weaker (λ row. comes_before (row_at change) row ≡ true) (R m)
      (λ y f. weak.one_way m y f) back behind in
      pairs_append R front (m ∷ back) front_pairs (AllPairs-cons R m back first back_pairs)
      (All-weaker (λ row. comes_before row (row_at change) ≡ true) (λ x. All (R x) (m ∷ back))
      (λ x e. All-cons (R x) m back (weak.one_way x m e) (outer x e)) front before)

  pub order_kept : IsInOrder (changed rows change)
  order_kept k d low high = all_pairs change.body k (k + 1) d (omega arith) high

  pub from_le_to : (from to : ℕ) → from ≤ length rows → to ≤ length rows → take from rows ≡ front →
      drop to rows ≡ back → from ≤ to
  from_le_to from to small less is_front is_back =
      omega (
        arith,
        ap length is_front,
        length-take from rows,
        ap length is_back,
        length-drop to rows,
        apart_len (λ row. comes_before row (row_at change))
            (λ row. comes_before (row_at change) row) (λ x e. weak.one_way x (row_at change) e)
            rows,
      )

insert_seam : (xs ys : List Row) (n : ℕ) (m : Row) → length xs ≡ n → insert (xs ++ ys) n m ≡ xs ++
    (m ∷ ys)
insert_seam [] ys zero m len = refl
insert_seam [] ys (suc n) m len = absurd (omega arith)
insert_seam (x ∷ xs) ys zero m len = absurd (omega arith)
insert_seam (x ∷ xs) ys (suc n) m len =
    ap (λ (zs : List Row). x ∷ zs) (insert_seam xs ys n m (omega arith))

-- a row put in where others were taken out
pub put_in : (rows : List Row) (from to : ℕ) (m : Row) → from ≤ length rows →
    insert (take from rows ++ drop to rows) from m ≡ take from rows ++ (m ∷ drop to rows)
put_in rows from to m small = insert_seam (take from rows) (drop to rows) from m
    (omega (arith, length-take from rows))

-- what is left once the row at a place was taken out of what was left
pub one_less : (rows : List Row) (from k : ℕ) (old : List Row) → from ≤ k → k < length rows → old ≡
    take from rows ++ drop k rows
    → take from old ++ drop (from + 1) old ≡ take from rows ++ drop (k + 1) rows
one_less rows from k old le lt is =
    let len : length (take from rows) ≡ from = omega (arith, length-take from rows) in
    let front : take from old ≡ take from rows = ap (take from) is ∙
    take_at (take from rows) (drop k rows) from len in
    let rest : drop from old ≡ drop k rows = ap (drop from) is ∙
    drop_at (take from rows) (drop k rows) from len in
    let back : drop (from + 1) old ≡ drop (k + 1) rows = sym (drop-drop 1 from old) ∙
    (ap (drop 1) rest ∙ drop-drop 1 k rows) in
    λ i. front i ++ back i

abbrev full_cmp : (ℕ × List ℕ) × List ℕ → (ℕ × List ℕ) × List ℕ → Ordering
full_cmp left right = ordering_then (place_cmp left.0 right.0) (slice_cmp nat_cmp left.1 right.1)

full_total : IsTotalOrder full_cmp
full_total = then_total (on_total (λ p. p.0) places_total) (on_total (λ p. p.1) nat_list_cmp_total)

pub rows_weak : IsStrictWeakOrder (λ left right. is_lt (row_cmp left right))
rows_weak = ranks_by full_total (λ (row : Row). (place row, row.body))

-- what comes before by its place comes before
pub not_before : (by_place by_body : Ordering) → is_lt (ordering_then by_place by_body) ≡ false →
    is_lt by_place ≡ false
not_before Less by_body e = e
not_before Equal by_body e = refl
not_before Greater by_body e = refl

-- rows after a change, as they come about: some taken out, and one put in
module _ (rows : List Row) (change : Change) (from to : ℕ) (taken : List Row)
    (is_taken : taken ≡ take from rows ++ drop to rows)
    (is_front : take from rows ≡ filter (λ row. comes_before row (row_at change)) rows)
    (is_back : drop to rows ≡ filter (λ row. comes_before (row_at change) row) rows) where
  abbrev with_new : Option (List ℕ) → List Row
  with_new body = filter (λ row. comes_before row (row_at change)) rows ++
      (option_to_list (option_map
      (λ body. record { table = change.table; key = change.key; body = body }) body) ++
      filter (λ row. comes_before (row_at change) row) rows)

  pub none_made : change.body ≡ None → taken ≡ changed rows change
  none_made is = is_taken ∙ ((λ i. is_front i ++ is_back i) ∙ ap with_new (sym is))

  pub one_made : (new : List Row) (body : List ℕ) → from ≤ length rows
      → new ≡ insert taken from (record { table = change.table; key = change.key; body = body }) →
      change.body ≡ Some body → new ≡ changed rows change
  one_made new body small is_new is =
      let m : Row = record { table = change.table; key = change.key; body = body } in
      is_new ∙ (ap (λ (ys : List Row). insert ys from m) is_taken ∙ (put_in rows from to m small
      ∙ ((λ i. is_front i ++ (m ∷ is_back i)) ∙ ap with_new (sym is))))

-- a list's first item, and the others
pub first_taken : (xs : List Change) (x : Change) → 0 < length xs → x ≡ get_or xs 0 x → xs ≡ x ∷
    remove xs 0
first_taken [] x some is = absurd (omega arith)
first_taken (first ∷ xs) x some is = ap (λ (y : Change). y ∷ xs) (sym is)
