-- The changes of what differs.
use Rattle.std.proofs.Common.{◌≡◌, ◌≢◌, ◌⊎◌, inl, inr, ℕ, Bool, true, false, not, cond, ◌&&◌, ◌||◌}
use Rattle.std.proofs.Common.{true≢false, List, []}
use Rattle.std.proofs.Common.{◌∷◌, ◌++◌, map, Option, Some, None, refl, sym, ap, ◌∙◌}
use Rattle.std.specs.Cmp.Lexicographic.{slice_cmp}
use Rattle.std.specs.List.{filter, list_any, AllByRecursion}
use Rattle.std.specs.Option.{option_map_or}
use Rattle.std.specs.Ordering.{is_eq, nat_cmp, ordering_then}
use Rattle.std.specs.Prelude.{is_some, unwrap_or, IsTrue, ◌↔◌}
use Rattle.std.specs.declared.cmp.Ordering.{Ordering}
use Rattle.std.proofs.lemmas.Cmp.{nat_list_cmp_total, tied_itself}
use Rattle.std.proofs.lemmas.Map.Lookups.{exact_bytes, exact_pairs, exact_unsigned}
use Rattle.pl_base.specs.declared.row.Change.{Change}
use Rattle.pl_base.specs.declared.row.Row.{Row}
use Rattle.pl_keeper.specs.Keeping.{all_changed, comes_before, place, place_cmp, row_cmp}
use Rattle.pl_changes.specs.Differing.{come, coming, differing, going, gone, have_place, have_row}
use Rattle.pl_changes.specs.Differing.{is_change_at, row_in, stands_at, Apart, Ascend}
use Rattle.pl_changes.specs.Differing.{AreOnePerPlace, OverlookNothing}
use Rattle.pl_changes.proofs.Places.{if_false, if_true, is_equal, is_less, itself, places_total}
use Rattle.pl_changes.proofs.Places.{stands, Place}
use Rattle.pl_changes.proofs.Leading.{all_changes_at, ascend_all, each_joined, each_weaker, first}
use Rattle.pl_changes.proofs.Leading.{is_false, none_some, place_of, same_rows, turned, with_body}

-- ---- rows and options

same_row : (left right : Row) → is_eq (row_cmp left right) ≡ true → left ≡ right
same_row left right e = ap (λ (p : Place × List ℕ). record {
  table = p.0.0;
  key = p.0.1;
  body = p.1;
}) (exact_pairs place_cmp (slice_cmp nat_cmp)
    (exact_pairs nat_cmp (slice_cmp nat_cmp) exact_unsigned exact_bytes) exact_bytes
    (place left, left.body) (place right, right.body) (is_equal (row_cmp left right) e))

pub row_itself : (row : Row) → is_eq (row_cmp row row) ≡ true
row_itself row =
    ap (λ (o : Ordering). is_eq (ordering_then o (slice_cmp nat_cmp row.body row.body)))
    (tied_itself places_total (place row)) ∙ ap is_eq (tied_itself nat_list_cmp_total row.body)

untold : (b : Bool) → not b ≡ false → b ≡ true
untold true e = refl
untold false e = absurd (true≢false e)

pub told : (b : Bool) → not b ≡ true → b ≡ false
told true e = absurd (true≢false (sym e))
told false e = refl

found_there : (at : Place) (rows : List Row) (row : Row) → row_in at rows ≡ Some row →
    place row ≡ at
found_there at [] row e = absurd (none_some None row refl e)
found_there at (other ∷ rows) row e =
    by (stands_at at other) refl (found_there at rows row) where
      by : (b : Bool) → stands_at at other ≡ b → (row_in at rows ≡ Some row → place row ≡ at) →
          place row ≡ at
      by true s others =
          let here : Some other ≡ Some row =
          sym (if_true (stands_at at other) (Some other) (row_in at rows) s) ∙ e in
          ap (λ (o : Option Row). place (unwrap_or o other)) (sym here) ∙ stands at other s
      by false s others =
          others (sym (if_false (stands_at at other) (Some other) (row_in at rows) s) ∙ e)

any_joined : {X : Type 0} (p : X → Bool) (xs ys : List X) →
    list_any p (xs ++ ys) ≡ (list_any p xs || list_any p ys)
any_joined p [] ys = refl
any_joined p (x ∷ xs) ys = one (p x) (any_joined p xs ys) where
  one : (b : Bool) → list_any p (xs ++ ys) ≡ (list_any p xs || list_any p ys) →
      (b || list_any p (xs ++ ys)) ≡ ((b || list_any p xs) || list_any p ys)
  one true e = refl
  one false e = e

-- ---- of rows that stand apart each is the one at its place

abbrev IsApart : Row → Row → Type 0
IsApart row later = is_eq (place_cmp (place row) (place later)) ≡ false

none_else : (at : Place) (row : Row) (rows : List Row) → stands_at at row ≡ true →
    AllByRecursion (IsApart row) rows → row_in at rows ≡ None
none_else at row [] e each = refl
none_else at row (later ∷ rows) e each =
    let off : stands_at at later ≡ false =
    ap (λ (p : Place). is_eq (place_cmp (place later) p)) (sym (stands at row e)) ∙
    (turned (place later) (place row) ∙ each.0) in
    if_false (stands_at at later) (Some later) (row_in at rows) off ∙
    none_else at row rows e each.1

both : {X : Type 0} (P Q R : X → Type 0) → ((x : X) → P x → Q x → R x) → (xs : List X) →
    AllByRecursion P xs → AllByRecursion Q xs → AllByRecursion R xs
both P Q R leads [] left right = left
both P Q R leads (x ∷ xs) left right =
    (leads x left.0 right.0, both P Q R leads xs left.1 right.1)

pub own : (rows : List Row) → Apart rows →
    AllByRecursion (λ row. row_in (place row) rows ≡ Some row) rows
own [] apart = apart
own (row ∷ rows) apart = (
  first row rows,
  both (IsApart row) (λ later. row_in (place later) rows ≡ Some later)
      (λ later. row_in (place later) (row ∷ rows) ≡ Some later)
      (λ later off is. if_false (stands_at (place later) row) (Some row)
      (row_in (place later) rows) off ∙ is) rows apart.0 (own rows apart.1),
)

-- rows that ascend stand apart
pub apart : (rows : List Row) → Ascend rows → Apart rows
apart [] ascend = ascend
apart (row ∷ rows) ascend = (
  each_weaker (λ later. comes_before row later ≡ true) (IsApart row)
      (λ later before. ap is_eq (is_less (place_cmp (place row) (place later)) before)) rows
      ascend.0,
  apart rows ascend.1,
)

-- ---- changes of some of the rows

-- the change of a row is of the row's place
module _ (f : Row → Change) (of_place : (row : Row) → place_of (f row) ≡ place row)
    (q : Row → Bool) where
  is_of : (at : Place) (row : Row) → is_change_at at (f row) ≡ stands_at at row
  is_of at row = ap (λ (p : Place). is_eq (place_cmp p at)) (of_place row)

  abbrev of_some : List Row → List Change
  of_some rows = map f (filter q rows)

  -- whether a change of a place is among those of one row and of others
  any_one : (at : Place) (other : Row) (rows : List Row) (b : Bool) →
      list_any (is_change_at at) (map f (cond b (other ∷ filter q rows) (filter q rows))) ≡
      ((b && is_change_at at (f other)) || list_any (is_change_at at) (of_some rows))
  any_one at other rows true = refl
  any_one at other rows false = refl

  any_parts : (at : Place) (other : Row) (rows : List Row) (s t : Bool) →
      stands_at at other ≡ s → q other ≡ t →
      list_any (is_change_at at) (of_some (other ∷ rows)) ≡
      ((t && s) || list_any (is_change_at at) (of_some rows))
  any_parts at other rows s t e g = any_one at other rows (q other) ∙
      (λ i. (g i && (is_of at other ∙ e) i) || list_any (is_change_at at) (of_some rows))

  skipped : (at : Place) (other : Row) (rows : List Row) → stands_at at other ≡ false →
      row_in at (other ∷ rows) ≡ row_in at rows
  skipped at other rows e = if_false (stands_at at other) (Some other) (row_in at rows) e

  taken : (at : Place) (other : Row) (rows : List Row) → stands_at at other ≡ true →
      row_in at (other ∷ rows) ≡ Some other
  taken at other rows e = if_true (stands_at at other) (Some other) (row_in at rows) e

  -- where no change is of the place, the row there doesn't pass
  pub none_passes : (at : Place) (rows : List Row) (row : Row) →
      list_any (is_change_at at) (of_some rows) ≡ false → row_in at rows ≡ Some row →
      q row ≡ false
  none_passes at [] row none e = absurd (none_some None row refl e)
  none_passes at (other ∷ rows) row none e =
      by (stands_at at other) (q other) refl refl (none_passes at rows row) where
        by : (s t : Bool) → stands_at at other ≡ s → q other ≡ t →
            (list_any (is_change_at at) (of_some rows) ≡ false → row_in at rows ≡ Some row →
            q row ≡ false) → q row ≡ false
        by true true s t others =
            absurd (true≢false (sym (any_parts at other rows true true s t) ∙ none))
        by true false s t others =
            let here : Some other ≡ Some row = sym (taken at other rows s) ∙ e in
            ap (λ (o : Option Row). q (unwrap_or o other)) (sym here) ∙ t
        by false true s t others = others (sym (any_parts at other rows false true s t) ∙ none)
            (sym (skipped at other rows s) ∙ e)
        by false false s t others = others (sym (any_parts at other rows false false s t) ∙ none)
            (sym (skipped at other rows s) ∙ e)

  -- a change of the place is that of a row there that passes
  pub record Passes (at : Place) (rows : List Row) : Type 0 where
    pub row : Row
    pub there : row_in at rows ≡ Some row
    pub passes : q row ≡ true

  later : (at : Place) (other : Row) (rows : List Row) → stands_at at other ≡ false →
      Passes at rows → Passes at (other ∷ rows)
  later at other rows s one = record {
    row = one.row;
    there = skipped at other rows s ∙ one.there;
    passes = one.passes;
  }

  pub one_passes : (at : Place) (rows : List Row) → Apart rows →
      list_any (is_change_at at) (of_some rows) ≡ true → Passes at rows
  one_passes at [] apart any = absurd (true≢false (sym any))
  one_passes at (other ∷ rows) apart any =
      by (stands_at at other) (q other) refl refl (one_passes at rows apart.1) where
        by : (s t : Bool) → stands_at at other ≡ s → q other ≡ t →
            (list_any (is_change_at at) (of_some rows) ≡ true → Passes at rows) →
            Passes at (other ∷ rows)
        by true true s t others =
            record { row = other; there = taken at other rows s; passes = t }
        by true false s t others =
            let one : Passes at rows =
            others (sym (any_parts at other rows true false s t) ∙ any) in
            absurd (none_some (row_in at rows) one.row (none_else at other rows s apart.0)
            one.there)
        by false true s t others =
            later at other rows s (others (sym (any_parts at other rows false true s t) ∙ any))
        by false false s t others =
            later at other rows s (others (sym (any_parts at other rows false false s t) ∙ any))

  -- there is one a place
  no_other : (row : Row) (rows : List Row) → Apart (row ∷ rows) → (b : Bool) →
      list_any (is_change_at (place row)) (of_some rows) ≡ b → b ≡ false
  no_other row rows apart false e = refl
  no_other row rows apart true e =
      let one = one_passes (place row) rows apart.1 e in
      absurd (none_some (row_in (place row) rows) one.row
      (none_else (place row) row rows (itself (place row)) apart.0) one.there)

  pub once_each : (rows : List Row) → Apart rows → AreOnePerPlace (of_some rows)
  once_each [] apart = tt
  once_each (row ∷ rows) apart = by (q row) (once_each rows apart.1) where
    by : (b : Bool) → AreOnePerPlace (of_some rows) →
        AreOnePerPlace (map f (cond b (row ∷ filter q rows) (filter q rows)))
    by true others = (
      ap (λ (p : Place). list_any (is_change_at p) (of_some rows)) (of_place row) ∙
          no_other row rows apart (list_any (is_change_at (place row)) (of_some rows)) refl,
      others,
    )
    by false others = others

-- ---- what differs

goings : (row : Row) → place_of (going row) ≡ place row
goings row = refl

comings : (row : Row) → place_of (coming row) ≡ place row
comings row = refl

module _ (old new : List Row) where
  abbrev p : Row → Bool
  p row = not (have_place new row)

  abbrev q : Row → Bool
  q row = not (have_row old row)

  abbrev any_at : Place → Bool
  any_at at = list_any (is_change_at at) (differing old new)

  any_in : (at : Place) → any_at at ≡ (list_any (is_change_at at) (map going (gone old new))
      || list_any (is_change_at at) (map coming (come old new)))
  any_in at =
      any_joined (is_change_at at) (map going (gone old new)) (map coming (come old new))

  -- where the row behind is found before, it is the same
  kept_row : (row other : Row) (o : Option Row) → o ≡ Some row →
      option_map_or (λ one. is_eq (row_cmp one other)) o false ≡ true → row ≡ other
  kept_row row other o is e = same_row row other
      (sym (ap (λ (n : Option Row). option_map_or (λ one. is_eq (row_cmp one other)) n false) is)
      ∙ e)

  module _ (at : Place) (none : any_at at ≡ false) where
    parts : (list_any (is_change_at at) (map going (gone old new)) ≡ false) ×
        (list_any (is_change_at at) (map coming (come old new)) ≡ false)
    parts = is_false (list_any (is_change_at at) (map going (gone old new)))
        (list_any (is_change_at at) (map coming (come old new))) (sym (any_in at) ∙ none)

    -- a row behind stands before too
    is_kept : (row : Row) → row_in at new ≡ Some row →
        option_map_or (λ one. is_eq (row_cmp one row)) (row_in at old) false ≡ true
    is_kept row e =
        ap (λ (s : Place). option_map_or (λ one. is_eq (row_cmp one row)) (row_in s old) false)
        (sym (found_there at new row e)) ∙
        untold (have_row old row) (none_passes coming comings q at new row parts.1 e)

    -- and a row old isn't gone
    is_there : (row : Row) → row_in at old ≡ Some row → is_some (row_in at new) ≡ true
    is_there row e =
        ap (λ (s : Place). is_some (row_in s new)) (sym (found_there at old row e)) ∙
        untold (have_place new row) (none_passes going goings p at old row parts.0 e)

    same_at : (had has : Option Row) → row_in at old ≡ had → row_in at new ≡ has → had ≡ has
    same_at None None e f = refl
    same_at None (Some row) e f =
        absurd (true≢false (sym (is_kept row f) ∙
        ap (λ (o : Option Row). option_map_or (λ one. is_eq (row_cmp one row)) o false) e))
    same_at (Some row) None e f = absurd (true≢false (sym (is_there row e) ∙ ap is_some f))
    same_at (Some row) (Some other) e f =
        ap Some (kept_row row other (row_in at old) e (is_kept other f))

    pub unchanged : row_in at old ≡ row_in at new
    unchanged = same_at (row_in at old) (row_in at new) refl refl

  -- ---- what old and new rows are that stand apart

  module _ (left : Apart old) (right : Apart new) where
    was_gone : (at : Place) → Passes going goings p at old → row_in at old ≡ row_in at new → ⊥
    was_gone at one same =
        let nothing : is_some (row_in at new) ≡ false =
        ap (λ (s : Place). is_some (row_in s new)) (sym (found_there at old one.row one.there)) ∙
        told (have_place new one.row) one.passes in
        true≢false (sym (ap is_some (sym same ∙ one.there)) ∙ nothing)

    has_come : (at : Place) → Passes coming comings q at new → row_in at old ≡ row_in at new → ⊥
    has_come at one same =
        let is : row_in (place one.row) old ≡ Some one.row =
        ap (λ (s : Place). row_in s old) (found_there at new one.row one.there) ∙
        (same ∙ one.there) in
        let kept : have_row old one.row ≡ true =
        ap (λ (o : Option Row). option_map_or (λ other. is_eq (row_cmp other one.row)) o false) is ∙
        row_itself one.row in
        true≢false (sym kept ∙ told (have_row old one.row) one.passes)

    either : (at : Place) (b c : Bool) →
        list_any (is_change_at at) (map going (gone old new)) ≡ b →
        list_any (is_change_at at) (map coming (come old new)) ≡ c → (b || c) ≡ true →
        row_in at old ≢ row_in at new
    either at true c e f any = was_gone at (one_passes going goings p at old left e)
    either at false true e f any = has_come at (one_passes coming comings q at new right f)
    either at false false e f any = absurd (true≢false (sym any))

    pub differs_there : (at : Place) → any_at at ≡ true → row_in at old ≢ row_in at new
    differs_there at any = either at (list_any (is_change_at at) (map going (gone old new)))
        (list_any (is_change_at at) (map coming (come old new))) refl refl
        (sym (any_in at) ∙ any)

    by_flag : (at : Place) (b : Bool) → any_at at ≡ b → row_in at old ≢ row_in at new → b ≡ true
    by_flag at true e off = refl
    by_flag at false e off = absurd (off (unchanged at e))

    pub differs_only : (at : Place) → row_in at old ≢ row_in at new → any_at at ≡ true
    differs_only at off = by_flag at (any_at at) refl off

    -- ---- one a place

    never_both : (row : Row) → p row ≡ true → (b : Bool) →
        list_any (is_change_at (place row)) (map coming (come old new)) ≡ b → b ≡ false
    never_both row gone_row false e = refl
    never_both row gone_row true e =
        let one = one_passes coming comings q (place row) new right e in
        absurd (true≢false (sym (ap is_some one.there) ∙ told (have_place new row) gone_row))

    once_joined : (rows : List Row) → AreOnePerPlace (map going (filter p rows)) →
        AreOnePerPlace (map going (filter p rows) ++ map coming (come old new))
    once_joined [] once = once_each coming comings q new right
    once_joined (row ∷ rows) once = by (p row) refl (once_joined rows) once where
      by : (b : Bool) → p row ≡ b →
          (AreOnePerPlace (map going (filter p rows)) →
          AreOnePerPlace (map going (filter p rows) ++ map coming (come old new))) →
          AreOnePerPlace (map going (cond b (row ∷ filter p rows) (filter p rows))) →
          AreOnePerPlace (map going (cond b (row ∷ filter p rows) (filter p rows)) ++
          map coming (come old new))
      by true e others was = (
        any_joined (is_change_at (place row)) (map going (filter p rows))
            (map coming (come old new)) ∙
            (ap (λ (b : Bool). b || list_any (is_change_at (place row))
            (map coming (come old new))) was.0 ∙
            never_both row e
            (list_any (is_change_at (place row)) (map coming (come old new))) refl),
        others was.1,
      )
      by false e others was = others was

    pub once : AreOnePerPlace (differing old new)
    once = once_joined old (once_each going goings p old left)

  -- ---- what all rows are before and behind

  module _ (before behind : List Row) (see : OverlookNothing before behind old new) where
    abbrev T : Change → Type 0
    T change = row_in (place_of change) behind ≡ with_body change change.body

    tells_gone : (rows : List Row) →
        AllByRecursion (λ row. row_in (place row) old ≡ Some row) rows →
        AllByRecursion T (map going (filter p rows))
    tells_gone [] each = tt
    tells_gone (row ∷ rows) each =
        by (row_in (place row) new) refl (see (place row)) (tells_gone rows each.1) where
          by : (o : Option Row) → row_in (place row) new ≡ o →
              ((row_in (place row) old ≡ row_in (place row) before) ×
              (row_in (place row) new ≡ row_in (place row) behind)) ⊎
              ((row_in (place row) old ≡ row_in (place row) new) ×
              (row_in (place row) before ≡ row_in (place row) behind)) →
              AllByRecursion T (map going (filter p rows)) →
              AllByRecursion T
              (map going (cond (not (is_some o)) (row ∷ filter p rows) (filter p rows)))
          by None e (inl seen) others = (sym seen.1 ∙ e, others)
          by None e (inr same) others =
              absurd (none_some (row_in (place row) old) row (same.0 ∙ e) each.0)
          by (Some other) e seen others = others

    tells_come : (rows : List Row) →
        AllByRecursion (λ row. row_in (place row) new ≡ Some row) rows →
        AllByRecursion T (map coming (filter q rows))
    tells_come [] each = tt
    tells_come (row ∷ rows) each =
        by (q row) refl (see (place row)) (tells_come rows each.1) where
          by : (b : Bool) → q row ≡ b →
              ((row_in (place row) old ≡ row_in (place row) before) ×
              (row_in (place row) new ≡ row_in (place row) behind)) ⊎
              ((row_in (place row) old ≡ row_in (place row) new) ×
              (row_in (place row) before ≡ row_in (place row) behind)) →
              AllByRecursion T (map coming (filter q rows)) →
              AllByRecursion T (map coming (cond b (row ∷ filter q rows) (filter q rows)))
          by true e (inl seen) others = (sym seen.1 ∙ each.0, others)
          by true e (inr same) others =
              let kept : have_row old row ≡ true = ap (λ (o : Option Row). option_map_or
              (λ other. is_eq (row_cmp other row)) o false) (same.0 ∙ each.0) ∙ row_itself row in
              absurd (true≢false (sym kept ∙ told (have_row old row) e))
          by false e seen others = others

    tells : Apart old → Apart new → AllByRecursion T (differing old new)
    tells left right = each_joined T (map going (gone old new)) (map coming (come old new))
        (tells_gone old (own old left)) (tells_come new (own new right))

    rest_same : (at : Place) → any_at at ≡ false → row_in at before ≡ row_in at behind
    rest_same at none = by (see at) where
      by : ((row_in at old ≡ row_in at before) × (row_in at new ≡ row_in at behind)) ⊎
          ((row_in at old ≡ row_in at new) × (row_in at before ≡ row_in at behind)) →
          row_in at before ≡ row_in at behind
      by (inl seen) = sym seen.0 ∙ (unchanged at none ∙ seen.1)
      by (inr same) = same.1

    pub leads : Ascend before → Ascend behind → Apart old → Apart new →
        all_changed (differing old new) before ≡ behind
    leads up along left right = same_rows (all_changed (differing old new) before) behind
        (ascend_all (differing old new) before up) along
        (λ at. all_changes_at at behind (differing old new) before (tells left right)
        (λ none. rest_same at none))

    there : Apart old → Apart new → (at : Place) → any_at at ≡ true →
        row_in at before ≢ row_in at behind
    there left right at any equal = by (see at) where
      by : ((row_in at old ≡ row_in at before) × (row_in at new ≡ row_in at behind)) ⊎
          ((row_in at old ≡ row_in at new) × (row_in at before ≡ row_in at behind)) → ⊥
      by (inl seen) = differs_there left right at any (seen.0 ∙ (equal ∙ sym seen.1))
      by (inr same) = differs_there left right at any same.0

    only : Apart old → Apart new → (at : Place) → row_in at before ≢ row_in at behind →
        any_at at ≡ true
    only left right at off = by (see at) where
      by : ((row_in at old ≡ row_in at before) × (row_in at new ≡ row_in at behind)) ⊎
          ((row_in at old ≡ row_in at new) × (row_in at before ≡ row_in at behind)) →
          any_at at ≡ true
      by (inl seen) = differs_only left right at
          (λ equal. off (sym seen.0 ∙ (equal ∙ seen.1)))
      by (inr same) = absurd (off same.1)

pub all_lead : (before behind old new : List Row) → Ascend before → Ascend behind → Apart old →
    Apart new → OverlookNothing before behind old new → all_changed (differing old new) before ≡
    behind
all_lead before behind old new up along left right see =
    leads old new before behind see up along left right

pub differ : (before behind old new : List Row) → Apart old → Apart new →
    OverlookNothing before behind old new → (at : Place) →
    IsTrue (list_any (is_change_at at) (differing old new)) ↔
    (row_in at before ≢ row_in at behind)
differ before behind old new left right see at =
    (there old new before behind see left right at, only old new before behind see left right at)
