-- What changes make of rows that ascend.
use Rattle.std.proofs.Common.{◌≡◌, ℕ, Bool, true, false, cond, ◌||◌, true≢false, List, [], ◌∷◌}
use Rattle.std.proofs.Common.{◌++◌}
use Rattle.std.proofs.Common.{Option, Some, None, refl, sym, ap, ◌∙◌}
use Rattle.std.specs.List.{filter, find, list_any, AllByRecursion}
use Rattle.std.specs.Option.{option_map, option_or, option_to_list}
use Rattle.std.specs.Ordering.{is_eq, is_lt, ordering_reverse}
use Rattle.std.specs.Prelude.{is_some, unwrap_or}
use Rattle.std.specs.declared.cmp.Ordering.{Ordering}
use Rattle.std.specs.declared.cmp.Ordering.TheVariants.{Less, Equal, Greater}
use Rattle.std.proofs.lemmas.Cmp.{eq_by_cmp_equiv}
use Rattle.pl_base.specs.declared.row.Change.{Change}
use Rattle.pl_base.specs.declared.row.Row.{Row}
use Rattle.pl_keeper.specs.Keeping.{all_changed, changed, comes_before, made, place, place_cmp}
use Rattle.pl_keeper.specs.Keeping.{row_at}
use Rattle.pl_changes.specs.Differing.{is_change_at, row_in, stands_at, Ascend}
use Rattle.pl_changes.proofs.Places.{before_all, find_behind, find_kept, if_false, if_true}
use Rattle.pl_changes.proofs.Places.{is_less, itself}
use Rattle.pl_changes.proofs.Places.{none_behind, none_from, or_none, places_total, same_place}
use Rattle.pl_changes.proofs.Places.{Place}

abbrev pub place_of : Change → Place
place_of change = (change.table, change.key)

-- the row that a change makes with a body, if it has one
abbrev pub with_body : Change → Option (List ℕ) → Option Row
with_body change body = option_map (λ body. record {
  table = change.table;
  key = change.key;
  body = body;
}) body

pub turned : (p q : Place) → is_eq (place_cmp p q) ≡ is_eq (place_cmp q p)
turned p q = (eq_by_cmp_equiv places_total).symm p q

-- ---- one change, seen from one place

made_here : (at : Place) (change : Change) (body : Option (List ℕ)) →
    is_eq (place_cmp (place_of change) at) ≡ true →
    find (stands_at at) (option_to_list (with_body change body)) ≡ with_body change body
made_here at change None e = refl
made_here at change (Some body) e = if_true (is_eq (place_cmp (place_of change) at))
    (with_body change (Some body)) None e

made_else : (at : Place) (change : Change) (body : Option (List ℕ)) →
    is_eq (place_cmp (place_of change) at) ≡ false →
    find (stands_at at) (option_to_list (with_body change body)) ≡ None
made_else at change None e = refl
made_else at change (Some body) e = if_false (is_eq (place_cmp (place_of change) at))
    (with_body change (Some body)) None e

joined : (o : Ordering) (r m w : Option Row) → (is_eq o ≡ false → m ≡ None) →
    (is_eq o ≡ true → m ≡ w) →
    option_or (cond (is_lt o) r None) (option_or m (cond (is_lt (ordering_reverse o)) r None)) ≡
    cond (is_eq o) w r
joined Less r m w off on =
    ap (λ (n : Option Row). option_or r (option_or n None)) (off refl) ∙ or_none r
joined Equal r m w off on =
    ap (λ (n : Option Row). option_or n None) (on refl) ∙ or_none w
joined Greater r m w off on = ap (λ (n : Option Row). option_or n r) (off refl)

module _ (at : Place) (change : Change) (rows : List Row) where
  abbrev to : Ordering
  to = place_cmp at (place_of change)

  abbrev from : Ordering
  from = place_cmp (place_of change) at

  abbrev had : Option Row
  had = row_in at rows

  abbrev new : Option Row
  new = find (stands_at at) (made change)

  abbrev front : List Row
  front = filter (λ row. comes_before row (row_at change)) rows

  abbrev back : List Row
  back = filter (λ row. comes_before (row_at change) row) rows

  in_front : find (stands_at at) front ≡ cond (is_lt to) had None
  in_front = find_kept (λ p. is_lt (place_cmp p (place_of change))) at rows

  in_back : find (stands_at at) back ≡ cond (is_lt from) had None
  in_back = find_kept (λ p. is_lt (place_cmp (place_of change) p)) at rows

  in_parts : row_in at (changed rows change) ≡
      option_or (cond (is_lt to) had None) (option_or new (cond (is_lt from) had None))
  in_parts = find_behind (stands_at at) front (made change ++ back) ∙
      (ap (λ (o : Option Row). option_or o (find (stands_at at) (made change ++ back))) in_front ∙
      ap (λ (o : Option Row). option_or (cond (is_lt to) had None) o)
      (find_behind (stands_at at) (made change) back ∙
      ap (λ (o : Option Row). option_or new o) in_back))

  pub changed_at : row_in at (changed rows change) ≡
      cond (is_eq (place_cmp at (place_of change))) (with_body change change.body) (row_in at rows)
  changed_at = in_parts ∙
      (ap (λ (o : Ordering). option_or (cond (is_lt to) had None)
      (option_or new (cond (is_lt o) had None))) (places_total.antisymm (place_of change) at) ∙
      joined to had new (with_body change change.body)
      (λ e. made_else at change change.body (turned (place_of change) at ∙ e))
      (λ e. made_here at change change.body (turned (place_of change) at ∙ e)))

-- ---- all changes, seen from one place

pub is_false : (b c : Bool) → (b || c) ≡ false → (b ≡ false) × (c ≡ false)
is_false true c e = absurd (true≢false e)
is_false false c e = (refl, e)

pub or_false : (b c : Bool) → b ≡ false → c ≡ false → (b || c) ≡ false
or_false true c e f = absurd (true≢false e)
or_false false c e f = f

-- where each change makes what stands behind at its place, and no other place differs, all changes
-- leave what stands behind
module _ (at : Place) (behind : List Row) where
  abbrev pub Tells : Change → Type 0
  Tells change = row_in (place_of change) behind ≡ with_body change change.body

  one_more : (change : Change) (rows : List Row) (b : Bool) →
      is_eq (place_cmp at (place_of change)) ≡ b → Tells change →
      (is_change_at at change ≡ false → row_in at rows ≡ row_in at behind) →
      row_in at (changed rows change) ≡ row_in at behind
  one_more change rows true e told rest =
      changed_at at change rows ∙ (if_true (is_eq (place_cmp at (place_of change)))
      (with_body change change.body) (row_in at rows) e ∙ (sym told ∙
      ap (λ (p : Place). row_in p behind) (sym (same_place at (place_of change) e))))
  one_more change rows false e told rest =
      changed_at at change rows ∙ (if_false (is_eq (place_cmp at (place_of change)))
      (with_body change change.body) (row_in at rows) e ∙ rest (turned (place_of change) at ∙ e))

  pub all_changes_at : (changes : List Change) (rows : List Row) →
      AllByRecursion Tells changes →
      (list_any (is_change_at at) changes ≡ false → row_in at rows ≡ row_in at behind) →
      row_in at (all_changed changes rows) ≡ row_in at behind
  all_changes_at [] rows told rest = rest refl
  all_changes_at (change ∷ changes) rows told rest =
      all_changes_at changes (changed rows change) told.1
      (λ others. one_more change rows (is_eq (place_cmp at (place_of change))) refl told.0
      (λ here. rest (or_false (is_change_at at change) (list_any (is_change_at at) changes) here
      others)))

-- ---- rows that ascend stay so

pub each_kept : {X : Type 0} (P : X → Type 0) (p : X → Bool) (xs : List X) →
    AllByRecursion P xs → AllByRecursion P (filter p xs)
each_kept P p [] each = each
each_kept P p (x ∷ xs) each = one (p x) (each_kept P p xs each.1) where
  one : (b : Bool) → AllByRecursion P (filter p xs) →
      AllByRecursion P (cond b (x ∷ filter p xs) (filter p xs))
  one true others = (each.0, others)
  one false others = others

pub each_joined : {X : Type 0} (P : X → Type 0) (xs ys : List X) → AllByRecursion P xs →
    AllByRecursion P ys → AllByRecursion P (xs ++ ys)
each_joined P [] ys left right = right
each_joined P (x ∷ xs) ys left right = (left.0, each_joined P xs ys left.1 right)

pub each_weaker : {X : Type 0} (P Q : X → Type 0) → ((x : X) → P x → Q x) → (xs : List X) →
    AllByRecursion P xs → AllByRecursion Q xs
each_weaker P Q leads [] each = each
each_weaker P Q leads (x ∷ xs) each = (leads x each.0, each_weaker P Q leads xs each.1)

each_passes : {X : Type 0} (p : X → Bool) (xs : List X) →
    AllByRecursion (λ x. p x ≡ true) (filter p xs)
each_passes p [] = tt
each_passes p (x ∷ xs) = one (p x) refl (each_passes p xs) where
  one : (b : Bool) → p x ≡ b → AllByRecursion (λ y. p y ≡ true) (filter p xs) →
      AllByRecursion (λ y. p y ≡ true) (cond b (x ∷ filter p xs) (filter p xs))
  one true e others = (e, others)
  one false e others = others

pub ascend_kept : (p : Row → Bool) (rows : List Row) → Ascend rows → Ascend (filter p rows)
ascend_kept p [] ascend = ascend
ascend_kept p (row ∷ rows) ascend = one (p row) (ascend_kept p rows ascend.1) where
  one : (b : Bool) → Ascend (filter p rows) → Ascend (cond b (row ∷ filter p rows) (filter p rows))
  one true others =
      (each_kept (λ later. comes_before row later ≡ true) p rows ascend.0, others)
  one false others = others

ascend_joined : (xs ys : List Row) → Ascend xs → Ascend ys →
    AllByRecursion (λ x. AllByRecursion (λ y. comes_before x y ≡ true) ys) xs → Ascend (xs ++ ys)
ascend_joined [] ys left right across = right
ascend_joined (x ∷ xs) ys left right across = (
  each_joined (λ y. comes_before x y ≡ true) xs ys left.0 across.0,
  ascend_joined xs ys left.1 right across.1,
)

comes_after : (x y z : Row) → comes_before x y ≡ true → comes_before y z ≡ true →
    comes_before x z ≡ true
comes_after x y z e f = ap is_lt (places_total.trans (place x) (place y) (place z)
    (is_less (place_cmp (place x) (place y)) e) (is_less (place_cmp (place y) (place z)) f))

module _ (change : Change) (rows : List Row) where
  abbrev at_change : Row
  at_change = row_at change

  abbrev fore : List Row
  fore = filter (λ row. comes_before row at_change) rows

  abbrev hind : List Row
  hind = filter (λ row. comes_before at_change row) rows

  behind_it : AllByRecursion (λ row. comes_before at_change row ≡ true) hind
  behind_it = each_passes (λ row. comes_before at_change row) rows

  over : (x : Row) → comes_before x at_change ≡ true →
      AllByRecursion (λ y. comes_before x y ≡ true) hind
  over x e = each_weaker (λ y. comes_before at_change y ≡ true) (λ y. comes_before x y ≡ true)
      (λ y f. comes_after x at_change y e f) hind behind_it

  with_one : (body : Option (List ℕ)) → Ascend rows →
      Ascend (fore ++ (option_to_list (with_body change body) ++ hind))
  with_one None ascend = ascend_joined fore hind
      (ascend_kept (λ row. comes_before row at_change) rows ascend)
      (ascend_kept (λ row. comes_before at_change row) rows ascend)
      (each_weaker (λ x. comes_before x at_change ≡ true)
      (λ x. AllByRecursion (λ y. comes_before x y ≡ true) hind) over fore
      (each_passes (λ row. comes_before row at_change) rows))
  with_one (Some body) ascend =
      let one : Row = record { table = change.table; key = change.key; body = body } in
      ascend_joined fore (one ∷ hind)
      (ascend_kept (λ row. comes_before row at_change) rows ascend)
      (behind_it, ascend_kept (λ row. comes_before at_change row) rows ascend)
      (each_weaker (λ x. comes_before x at_change ≡ true)
      (λ x. AllByRecursion (λ y. comes_before x y ≡ true) (one ∷ hind)) (λ x e. (e, over x e)) fore
      (each_passes (λ row. comes_before row at_change) rows))

  pub ascend_changed : Ascend rows → Ascend (changed rows change)
  ascend_changed ascend = with_one change.body ascend

pub ascend_all : (changes : List Change) (rows : List Row) → Ascend rows →
    Ascend (all_changed changes rows)
ascend_all [] rows ascend = ascend
ascend_all (change ∷ changes) rows ascend =
    ascend_all changes (changed rows change) (ascend_changed change rows ascend)

-- ---- rows that ascend are told by what they have at each place

pub none_some : {X : Type 0} (o : Option X) (x : X) → o ≡ None → o ≡ Some x → ⊥
none_some o x e f = true≢false (sym (ap is_some f) ∙ ap is_some e)

pub first : (row : Row) (rows : List Row) → row_in (place row) (row ∷ rows) ≡ Some row
first row rows = if_true (stands_at (place row) row) (Some row) (row_in (place row) rows)
    (itself (place row))

pub not_before : (x y : Row) (ys : List Row) → Ascend (y ∷ ys) →
    place_cmp (place x) (place y) ≡ Less → row_in (place x) (y ∷ ys) ≡ None
not_before x y ys ascend less =
    none_from (place x) (y ∷ ys) (less, before_all (place x) y ys less ascend.0)

module _ (x y : Row) (xs ys : List Row) (left : Ascend (x ∷ xs)) (right : Ascend (y ∷ ys))
    (same : (at : Place) → row_in at (x ∷ xs) ≡ row_in at (y ∷ ys)) where
  rest_at : place x ≡ place y → (at : Place) (b : Bool) → is_eq (place_cmp (place x) at) ≡ b →
      row_in at xs ≡ row_in at ys
  rest_at one at true e =
      let f : is_eq (place_cmp (place y) at) ≡ true =
      ap (λ (p : Place). is_eq (place_cmp p at)) (sym one) ∙ e in
      none_behind at x xs e left.0 ∙ sym (none_behind at y ys f right.0)
  rest_at one at false e =
      let f : is_eq (place_cmp (place y) at) ≡ false =
      ap (λ (p : Place). is_eq (place_cmp p at)) (sym one) ∙ e in
      let here : row_in at (x ∷ xs) ≡ row_in at xs =
      if_false (stands_at at x) (Some x) (row_in at xs) e in
      let there : row_in at (y ∷ ys) ≡ row_in at ys =
      if_false (stands_at at y) (Some y) (row_in at ys) f in
      sym here ∙ (same at ∙ there)

  heads : place x ≡ place y → x ≡ y
  heads one =
      let there : row_in (place x) (y ∷ ys) ≡ Some y =
      ap (λ (p : Place). row_in p (y ∷ ys)) one ∙ first y ys in
      ap (λ (o : Option Row). unwrap_or o x) (sym (first x xs) ∙ (same (place x) ∙ there))

pub same_rows : (xs ys : List Row) → Ascend xs → Ascend ys →
    ((at : Place) → row_in at xs ≡ row_in at ys) → xs ≡ ys
same_rows [] [] left right same = refl
same_rows [] (y ∷ ys) left right same =
    absurd (none_some (row_in (place y) (y ∷ ys)) y (sym (same (place y))) (first y ys))
same_rows (x ∷ xs) [] left right same =
    absurd (none_some (row_in (place x) (x ∷ xs)) x (same (place x)) (first x xs))
same_rows (x ∷ xs) (y ∷ ys) left right same =
    by (place_cmp (place x) (place y)) refl (same_rows xs ys left.1 right.1) where
      by : (o : Ordering) → place_cmp (place x) (place y) ≡ o →
          (((at : Place) → row_in at xs ≡ row_in at ys) → xs ≡ ys) → (x ∷ xs) ≡ (y ∷ ys)
      by Less e others = absurd (none_some (row_in (place x) (y ∷ ys)) x (not_before x y ys right e)
          (sym (same (place x)) ∙ first x xs))
      by Equal e others =
          let one : place x ≡ place y = same_place (place x) (place y) (ap is_eq e) in
          let tails : xs ≡ ys = others
          (λ at. rest_at x y xs ys left right same one at (is_eq (place_cmp (place x) at)) refl) in
          λ i. heads x y xs ys left right same one i ∷ tails i
      by Greater e others =
          let less : place_cmp (place y) (place x) ≡ Less =
          places_total.antisymm (place y) (place x) ∙ ap ordering_reverse e in
          absurd (none_some (row_in (place y) (x ∷ xs)) y (not_before y x xs left less)
          (same (place y) ∙ first y ys))
