-- Rows in order are told by what they have at each place; and what changes leave at one place.
use Rattle.std.proofs.Common.{◌≡◌, ◌⊎◌, inl, inr, ◌&&◌, ℕ, suc, ◌+◌, ◌<◌, Bool, true, false, not}
use Rattle.std.proofs.Common.{if◌then◌else◌, List, [], ◌∷◌, ◌++◌, length, get_or, Option, Some}
use Rattle.std.proofs.Common.{None}
use Rattle.std.proofs.Common.{subst, refl, sym, ap, ◌∙◌, append-nil, true≢false, arith}
use Rattle.std.specs.List.{filter}
use Rattle.std.specs.Option.{option_map, option_to_list}
use Rattle.std.specs.Prelude.{fold}
use Rattle.std.proofs.lemmas.List.Elements.{filter-append}
use Rattle.std.proofs.lemmas.List.Sorted.{sorted_far}
use Rattle.pl_base.specs.declared.row.Change.{Change}
use Rattle.pl_base.specs.declared.row.Row.{Row}
use Rattle.pl_keeper.specs.Keeping.{all_changed, changed, comes_before, made, row_at, IsInOrder}
use Rattle.pl_keeper.proofs.Changing.{order_kept, weak}

-- what passed a test passes one that follows from it
inner : {X : Type 0} (p q : X → Bool) → ((x : X) → p x ≡ true → q x ≡ true) → (xs : List X) →
    filter q (filter p xs) ≡ filter p xs
inner p q follows [] = refl
inner p q follows (x ∷ xs) = one (p x) refl (inner p q follows xs) where
  one : (b : Bool) → p x ≡ b → filter q (filter p xs) ≡ filter p xs →
      filter q (filter p (x ∷ xs)) ≡ filter p (x ∷ xs)
  one true e more = rw (e, follows x e) (ap (λ zs. x ∷ zs) more)
  one false e more = rw e more

none : {X : Type 0} (p q : X → Bool) → ((x : X) → p x ≡ true → q x ≡ false) → (xs : List X) →
    filter q (filter p xs) ≡ []
none p q apart [] = refl
none p q apart (x ∷ xs) = one (p x) refl (none p q apart xs) where
  one : (b : Bool) → p x ≡ b → filter q (filter p xs) ≡ [] →
      filter q (filter p (x ∷ xs)) ≡ []
  one true e more = rw (e, apart x e) more
  one false e more = rw e more

pub swapped : {X : Type 0} (p q : X → Bool) (xs : List X) →
    filter q (filter p xs) ≡ filter p (filter q xs)
swapped p q [] = refl
swapped p q (x ∷ xs) = one (p x) (q x) refl refl (swapped p q xs) where
  one : (a b : Bool) → p x ≡ a → q x ≡ b → filter q (filter p xs) ≡ filter p (filter q xs) →
      filter q (filter p (x ∷ xs)) ≡ filter p (filter q (x ∷ xs))
  one true true e f more = rw (e, f, e) (ap (λ zs. x ∷ zs) more)
  one true false e f more = rw (e, f) more
  one false true e f more = rw (e, f, e) more
  one false false e f more = rw (e, f) more

-- what passes a test passes the other too, so the other leaves nothing out
outer : {X : Type 0} (p q : X → Bool) → ((x : X) → q x ≡ true → p x ≡ true) → (xs : List X) →
    filter q (filter p xs) ≡ filter q xs
outer p q follows xs = swapped p q xs ∙ inner q p follows xs

neither_left : (a b : Bool) → not a && not b ≡ true → a ≡ false
neither_left true b e = absurd cc
neither_left false b e = refl

neither_right : (a b : Bool) → not a && not b ≡ true → b ≡ false
neither_right true b e = absurd cc
neither_right false true e = absurd cc
neither_right false false e = refl

neither : (a b : Bool) → a ≡ false → b ≡ false → not a && not b ≡ true
neither true b e f = absurd cc
neither false true e f = absurd cc
neither false false e f = refl

one_of : (a b : Bool) → not a && not b ≡ false → (a ≡ true) ⊎ (b ≡ true)
one_of true b e = inl refl
one_of false true e = inr refl
one_of false false e = absurd cc

pub is_false : (b : Bool) → (b ≡ true → ⊥) → b ≡ false
is_false true denied = absurd (denied refl)
is_false false denied = refl

pub is_true : (b : Bool) → (b ≡ false → ⊥) → b ≡ true
is_true true denied = refl
is_true false denied = absurd (denied refl)

-- the rows at a place
abbrev pub here : Row → Row → Bool
here at row = not (comes_before row at) && not (comes_before at row)

pub not_before : (at row : Row) → here at row ≡ true → comes_before row at ≡ false
not_before at row e = neither_left (comes_before row at) (comes_before at row) e

pub not_behind : (at row : Row) → here at row ≡ true → comes_before at row ≡ false
not_behind at row e = neither_right (comes_before row at) (comes_before at row) e

pub here_itself : (row : Row) → here row row ≡ true
here_itself row = one (comes_before row row) refl where
  one : (b : Bool) → comes_before row row ≡ b → here row row ≡ true
  one true e = absurd (true≢false (sym e ∙ weak.one_way row row e))
  one false e = rw e refl

module _ (at : Row) (rows : List Row) (change : Change) where
  abbrev px : Row → Bool
  px row = comes_before row (row_at change)

  abbrev bx : Row → Bool
  bx row = comes_before (row_at change) row

  cut_by : filter (here at) (changed rows change) ≡ filter (here at) (filter px rows) ++
      (filter (here at) (made change) ++ filter (here at) (filter bx rows))
  cut_by = filter-append (here at) (filter px rows) (made change ++ filter bx rows) ∙
      ap (λ zs. filter (here at) (filter px rows) ++ zs)
      (filter-append (here at) (made change) (filter bx rows))

  kept_made : here at (row_at change) ≡ true → filter (here at) (made change) ≡ made change
  kept_made e = one change.body where
    one : (o : Option (List ℕ)) → filter (here at) (option_to_list (option_map (λ body.
        record { table = change.table; key = change.key; body = body }) o)) ≡
        option_to_list (option_map (λ body.
        record { table = change.table; key = change.key; body = body }) o)
    one None = refl
    one (Some body) = rw e refl

  lost_made : here at (row_at change) ≡ false → filter (here at) (made change) ≡ []
  lost_made e = one change.body where
    one : (o : Option (List ℕ)) → filter (here at) (option_to_list (option_map (λ body.
        record { table = change.table; key = change.key; body = body }) o)) ≡ []
    one None = refl
    one (Some body) = rw e refl

  -- a change at the place leaves there what it makes
  pub changed_here : here at (row_at change) ≡ true →
      filter (here at) (changed rows change) ≡ made change
  changed_here e = cut_by ∙ ((λ i. none px (here at) front rows i ++
      (kept_made e i ++ none bx (here at) back rows i)) ∙ append-nil (made change)) where
        front : (row : Row) → px row ≡ true → here at row ≡ false
        front row less = is_false (here at row) (λ h. true≢false (sym less ∙
            weak.chain row at (row_at change) (not_before at row h)
            (not_behind at (row_at change) e)))

        back : (row : Row) → bx row ≡ true → here at row ≡ false
        back row less = is_false (here at row) (λ h. true≢false (sym less ∙
            weak.chain (row_at change) at row (not_before at (row_at change) e)
            (not_behind at row h)))

  -- a change elsewhere leaves what was there
  pub changed_past : here at (row_at change) ≡ false →
      filter (here at) (changed rows change) ≡ filter (here at) rows
  changed_past e = side (one_of (comes_before (row_at change) at)
      (comes_before at (row_at change)) e) where
        side : (comes_before (row_at change) at ≡ true) ⊎ (comes_before at (row_at change) ≡ true) →
            filter (here at) (changed rows change) ≡ filter (here at) rows
        side (inl less) = cut_by ∙ (λ i. none px (here at) front rows i ++
            (lost_made e i ++ outer bx (here at) back rows i)) where
              back : (row : Row) → here at row ≡ true → bx row ≡ true
              back row h = is_true (bx row) (λ late. true≢false (sym less ∙
                  weak.chain (row_at change) row at late (not_before at row h)))

              front : (row : Row) → px row ≡ true → here at row ≡ false
              front row f = is_false (here at row) (λ h. true≢false (sym f ∙
                  weak.one_way (row_at change) row (back row h)))
        side (inr less) = cut_by ∙ ((λ i. outer px (here at) front rows i ++
            (lost_made e i ++ none bx (here at) back rows i)) ∙ append-nil (filter (here at) rows))
          where
            front : (row : Row) → here at row ≡ true → px row ≡ true
            front row h = is_true (px row) (λ late. true≢false (sym less ∙
                weak.chain at row (row_at change) (not_behind at row h) late))

            back : (row : Row) → bx row ≡ true → here at row ≡ false
            back row f = is_false (here at row) (λ h. true≢false (sym f ∙
                weak.one_way row (row_at change) (front row h)))

-- what the last change at a place made, or what was there
abbrev pub latest : Row → List Change → List Row → List Row
latest at changes rest =
    fold (λ rest change. if here at (row_at change) then made change else rest) rest changes

pub one_here : (at : Row) (rows : List Row) (change : Change) →
    filter (here at) (changed rows change) ≡
    (if here at (row_at change) then made change else filter (here at) rows)
one_here at rows change = one (here at (row_at change)) refl where
  one : (b : Bool) → here at (row_at change) ≡ b → filter (here at) (changed rows change) ≡
      (if here at (row_at change) then made change else filter (here at) rows)
  one true e = changed_here at rows change e ∙ rw e refl
  one false e = changed_past at rows change e ∙ rw e refl

pub all_here : (at : Row) (changes : List Change) (rows : List Row) →
    filter (here at) (all_changed changes rows) ≡ latest at changes (filter (here at) rows)
all_here at [] rows = refl
all_here at (change ∷ changes) rows = all_here at changes (changed rows change) ∙
    ap (latest at changes) (one_here at rows change)

pub all_in_order : (changes : List Change) (rows : List Row) → IsInOrder rows →
    IsInOrder (all_changed changes rows)
all_in_order [] rows order = order
all_in_order (change ∷ changes) rows order =
    all_in_order changes (changed rows change) (order_kept rows change order)

-- what holds of an item and the next one of a list holds of them in its tail
pub shift : {X : Type 0} (R : X → X → Type 0) (x : X) (xs : List X) (k : ℕ) (d : X) →
    R (get_or (x ∷ xs) (suc k) d) (get_or (x ∷ xs) (suc k + 1) d) →
    R (get_or xs k d) (get_or xs (k + 1) d)
shift R x xs k d h =
    let next : suc k + 1 ≡ suc (k + 1) = omega arith in
    subst (λ n. R (get_or xs k d) (get_or (x ∷ xs) n d)) next h

tail_order : (x : Row) (xs : List Row) → IsInOrder (x ∷ xs) → IsInOrder xs
tail_order x xs order k d low high =
    shift (λ first second. comes_before second first ≡ false) x xs k d
    (order (suc k) d (omega arith) (omega arith))

-- nothing is before the first row, so at a place before it there is none
late : (at first : Row) (rows : List Row) → comes_before at first ≡ true →
    ((k : ℕ) (d : Row) → k < length rows → comes_before (get_or rows k d) first ≡ false) →
    filter (here at) rows ≡ []
late at first [] less behind = refl
late at first (row ∷ rows) less behind =
    let away : here at row ≡ false = is_false (here at row) (λ h. true≢false (sym less ∙
    weak.chain at row first (not_behind at row h) (behind 0 row (omega arith)))) in
    rw away (late at first rows less (λ k d within. behind (suc k) d (omega arith)))

first_late : (at first : Row) (rows : List Row) → IsInOrder (first ∷ rows) →
    comes_before at first ≡ true → filter (here at) (first ∷ rows) ≡ []
first_late at first rows order less = late at first (first ∷ rows) less
    (λ k d within. sorted_far comes_before weak (first ∷ rows) order 0 k d (omega arith) within)

first_here : (first : Row) (rows : List Row) →
    filter (here first) (first ∷ rows) ≡ first ∷ filter (here first) rows
first_here first rows = rw (here_itself first) refl

some_none : (row : Row) (rows : List Row) → row ∷ rows ≡ [] → ⊥
some_none row rows e = cc

same_head : (x y : Row) (xs ys : List Row) → x ∷ xs ≡ y ∷ ys → x ≡ y
same_head x y xs ys e = cc

same_tail : (x y : Row) (xs ys : List Row) → x ∷ xs ≡ y ∷ ys → xs ≡ ys
same_tail x y xs ys e = cc

-- lists in order that have the same at each place are one list
pub same_rows : (xs ys : List Row) → IsInOrder xs → IsInOrder ys →
    ((at : Row) → filter (here at) xs ≡ filter (here at) ys) → xs ≡ ys
same_rows [] [] o p same = refl
same_rows [] (y ∷ ys) o p same =
    absurd (some_none y (filter (here y) ys) (sym (same y ∙ first_here y ys)))
same_rows (x ∷ xs) [] o p same =
    absurd (some_none x (filter (here x) xs) (sym (first_here x xs) ∙ same x))
same_rows (x ∷ xs) (y ∷ ys) o p same = λ i. heads i ∷
    same_rows xs ys (tail_order x xs o) (tail_order y ys p) rest i where
      not_less : comes_before x y ≡ false
      not_less = is_false (comes_before x y) (λ less. some_none x (filter (here x) xs)
          (sym (first_here x xs) ∙ (same x ∙ first_late x y ys p less)))

      not_more : comes_before y x ≡ false
      not_more = is_false (comes_before y x) (λ less. some_none y (filter (here y) ys)
          (sym (first_here y ys) ∙ (sym (same y) ∙ first_late y x xs o less)))

      tie : here x y ≡ true
      tie = neither (comes_before y x) (comes_before x y) not_more not_less

      at_first : x ∷ filter (here x) xs ≡ y ∷ filter (here x) ys
      at_first = sym (first_here x xs) ∙ (same x ∙ rw tie refl)

      heads : x ≡ y
      heads = same_head x y _ _ at_first

      rest : (at : Row) → filter (here at) xs ≡ filter (here at) ys
      rest at = one (here at x) (here at y) refl (sym (ap (here at) heads)) (same at) where
        one : (a b : Bool) → here at x ≡ a → here at y ≡ here at x →
            filter (here at) (x ∷ xs) ≡ filter (here at) (y ∷ ys) →
            filter (here at) xs ≡ filter (here at) ys
        one true b e f all = same_tail x y _ _ (rw (f, e) at all)
        one false b e f all = rw (f, e) at all
