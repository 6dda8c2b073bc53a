-- What is looked at of an entry's rows is all that its facts change.
use Rattle.std.proofs.Common.{◌≡◌, ◌⊎◌, inl, inr, ℕ, nat_eq, nat_lt, Bool, true, false, cond, ◌&&◌}
use Rattle.std.proofs.Common.{if◌then◌else◌, ◌||◌}
use Rattle.std.proofs.Common.{true≢false, List, [], ◌∷◌, ◌++◌, Option, Some, None, refl, sym, ap}
use Rattle.std.proofs.Common.{subst, ◌∙◌}
use Rattle.std.specs.List.{cons_option}
use Rattle.std.specs.Option.{option_map, option_or, option_to_list}
use Rattle.std.specs.Ordering.{is_eq}
use Rattle.std.specs.Prelude.{is_some, unwrap_or, IfSome}
use Rattle.pl_base.specs.Files.{text_cmp}
use Rattle.pl_base.specs.declared.row.Row.{Row}
use Rattle.pl_touched.specs.Below.pl_facts.specs.declared.fact.Fact.{Fact}
use Rattle.pl_touched.specs.Below.pl_facts.specs.Sizes.{counted}
use Rattle.pl_touched.specs.Below.pl_journal.specs.Log.{Log, last_moment, last_run, version}
use Rattle.pl_keeper.specs.Keeping.{place, place_cmp}
use Rattle.pl_keeper.specs.Rows.{row_of, IsKept}
use Rattle.pl_keeper.specs.declared.records.Record.{Record}
use Rattle.pl_keeper.specs.declared.records.Record.TheVariants as kept
use Rattle.pl_log.specs.Keys as named
use Rattle.pl_log.specs.Keys.{stage_cmp}
use Rattle.pl_log.proofs.Naming.{exact_key}
use Rattle.pl_changes.specs.Differing.{row_in, stands_at, OverlookNothing}
use Rattle.pl_changes.proofs.Leading.{first, none_some}
use Rattle.pl_changes.proofs.Places.{find_behind, if_false, if_true, itself, or_none, same_place}
use Rattle.pl_changes.proofs.Places.{stands, Place}
use Rattle.pl_places.specs.Below.pl_kept.specs.Kept.{kept_at, numbers_kept, row_at, Where, File}
use Rattle.pl_places.specs.Below.pl_kept.specs.Kept.{Pipeline}
use Rattle.pl_places.specs.Below.pl_kept.specs.Kept.{Resource}
use Rattle.pl_places.specs.Below.pl_kept.specs.Kept.{Principal, Agent, Run, Stage, Job, Decision}
use Rattle.pl_places.specs.Places.{place_at, Fits}
use Rattle.pl_places.proofs.OnePlace.{fits_there, one_place, stands_there}
use Rattle.pl_touched.specs.Touched.{is_among, rows_at, same_where, touched_by, AreNewTo}
use Rattle.pl_touched.specs.Touched.{FitAt}
use Rattle.pl_touched.proofs.Staying.{all_stay}
use Rattle.pl_rows.specs.Entry.{with_added, AllFit, AreLookedAt}
use Rattle.pl_rows.specs.State.{AreRows, IsPlace}

-- ---- places that are one

bytes_of : (a b : List ℕ) → is_eq (text_cmp a b) ≡ true → a ≡ b
bytes_of a b e = named_pipeline (exact_key (named.Pipeline a) (named.Pipeline b) e) where
  named_pipeline : named.Pipeline a ≡ named.Pipeline b → a ≡ b
  named_pipeline same = cc

parts_of : (b c : Bool) → (b && c) ≡ true → (b ≡ true) × (c ≡ true)
parts_of true c e = (refl, e)
parts_of false c e = absurd (true≢false (sym e))

exact_where : (a b : Where) → same_where a b ≡ true → a ≡ b
exact_where (File a) (File b) e =
    let same : named.File a ≡ named.File b = exact_key (named.File a) (named.File b) e in
    let one : a ≡ b = cc in ap File one
exact_where (Pipeline a) (Pipeline b) e = ap Pipeline (bytes_of a b e)
exact_where (Resource a) (Resource b) e =
    let same : named.Resource a ≡ named.Resource b =
    exact_key (named.Resource a) (named.Resource b) e in
    let one : a ≡ b = cc in ap Resource one
exact_where (Principal a) (Principal b) e = ap Principal (bytes_of a b e)
exact_where (Agent a) (Agent b) e = ap Agent (bytes_of a b e)
exact_where (Run a) (Run b) e =
    let same : named.Run a ≡ named.Run b = exact_key (named.Run a) (named.Run b) e in
    let one : a ≡ b = cc in ap Run one
exact_where (Stage run stage) (Stage r s) e =
    let same : named.Stage run stage ≡ named.Stage r s =
    exact_key (named.Stage run stage) (named.Stage r s) e in
    let one : run ≡ r = cc in
    let two : stage ≡ s = cc in λ i. Stage (one i) (two i)
exact_where (Job run stage job) (Job r s j) e =
    let same : named.Job run stage job ≡ named.Job r s j =
    exact_key (named.Job run stage job) (named.Job r s j) e in
    let one : run ≡ r = cc in
    let two : stage ≡ s = cc in
    let three : job ≡ j = cc in λ i. Job (one i) (two i) (three i)
exact_where (Decision run stage by_whom) (Decision r s who) e =
    let parts = parts_of (is_eq (stage_cmp (run, stage) (r, s))) (is_eq (text_cmp by_whom who)) e in
    let same : named.Stage run stage ≡ named.Stage r s =
    exact_key (named.Stage run stage) (named.Stage r s) parts.0 in
    let one : run ≡ r = cc in
    let two : stage ≡ s = cc in
    let three : by_whom ≡ who = bytes_of by_whom who parts.1 in
    λ i. Decision (one i) (two i) (three i)
exact_where _ _ e = absurd (true≢false (sym e))

-- ---- the rows at places

abbrev pub Among : Where → List Where → Type 0
Among at [] = ⊥
Among at (other ∷ places) = (other ≡ at) ⊎ Among at places

pub among : (at : Where) (places : List Where) → is_among at places ≡ true → Among at places
among at [] e = absurd (true≢false (sym e))
among at (other ∷ places) e = by (same_where other at) refl e (among at places) where
  by : (b : Bool) → same_where other at ≡ b → (b || is_among at places) ≡ true →
      (is_among at places ≡ true → Among at places) → Among at (other ∷ places)
  by true same e others = inl (exact_where other at same)
  by false same e others = inr (others e)

-- what is kept at touched places fits, and what is kept elsewhere did before
fit_among : (facts : List Fact) (places : List Where) (at : Where) → Among at places →
    FitAt places facts → IfSome (kept_at at facts) IsKept
fit_among facts [] at is_in fits = absurd is_in
fit_among facts (other ∷ places) at (inl same) fits =
    subst (λ (here : Where). IfSome (kept_at here facts) IsKept) same fits.0
fit_among facts (other ∷ places) at (inr rest) fits = fit_among facts places at rest fits.1

pub all_fit : (facts added : List Fact) → AllFit facts → AreNewTo facts added →
    FitAt (touched_by added) (facts ++ added) → AllFit (facts ++ added)
all_fit facts added fit news fits at = by (is_among at (touched_by added)) refl where
  by : (b : Bool) → is_among at (touched_by added) ≡ b →
      IfSome (kept_at at (facts ++ added)) IsKept
  by true e =
      fit_among (facts ++ added) (touched_by added) at (among at (touched_by added) e) fits
  by false e = subst (λ (o : Option Record). IfSome o IsKept)
      (sym (all_stay added facts at news e)) (fit at)

module _ (facts : List Fact) (fit : AllFit facts) where
  pub record FoundAt (at : Place) (places : List Where) (row : Row) : Type 0 where
    pub here : Where
    pub is_in : Among here places
    pub keeps : row_at here facts ≡ Some row
    pub there : place row ≡ at

  more : (at : Place) (other : Where) (places : List Where) (row : Row) → FoundAt at places row →
      FoundAt at (other ∷ places) row
  more at other places row one = record {
    here = one.here;
    is_in = inr one.is_in;
    keeps = one.keeps;
    there = one.there;
  }

  pub found_at : (at : Place) (places : List Where) (row : Row) →
      row_in at (rows_at places facts) ≡ Some row → FoundAt at places row
  found_at at [] row e = absurd (none_some None row refl e)
  found_at at (other ∷ places) row e =
      by (row_at other facts) refl e (found_at at places row) where
        by : (o : Option Row) → row_at other facts ≡ o →
            row_in at (cons_option o (rows_at places facts)) ≡ Some row →
            (row_in at (rows_at places facts) ≡ Some row → FoundAt at places row) →
            FoundAt at (other ∷ places) row
        by None is e others = more at other places row (others e)
        by (Some one) is e others = which (stands_at at one) refl where
          which : (b : Bool) → stands_at at one ≡ b → FoundAt at (other ∷ places) row
          which true s =
              let same : Some one ≡ Some row =
              sym (if_true (stands_at at one) (Some one) (row_in at (rows_at places facts)) s) ∙ e
              in
              record {
                here = other;
                is_in = inl refl;
                keeps = is ∙ same;
                there =
                    ap (λ (o : Option Row). place (unwrap_or o one)) (sym same) ∙ stands at one s;
              }
          which false s = more at other places row (others
              (sym (if_false (stands_at at one) (Some one) (row_in at (rows_at places facts)) s) ∙
              e))

  some_there : (places : List Where) (here : Where) (row : Row) → Among here places →
      row_at here facts ≡ Some row → is_some (row_in (place row) (rows_at places facts)) ≡ true
  some_there [] here row is_in e = absurd is_in
  some_there (other ∷ places) here row is_in e =
      by (row_at other facts) refl is_in (λ rest. some_there places here row rest e) where
        some_or : (b : Bool) (one : Row) (o : Option Row) → is_some o ≡ true →
            is_some (cond b (Some one) o) ≡ true
        some_or true one o told = refl
        some_or false one o told = told

        by : (o : Option Row) → row_at other facts ≡ o → (other ≡ here) ⊎ Among here places →
            (Among here places → is_some (row_in (place row) (rows_at places facts)) ≡ true) →
            is_some (row_in (place row) (cons_option o (rows_at places facts))) ≡ true
        by None is (inl same) others = absurd (none_some (row_at other facts) row is
            (ap (λ (w : Where). row_at w facts) same ∙ e))
        by None is (inr rest) others = others rest
        by (Some one) is (inl same) others =
            let it : Some one ≡ Some row = sym is ∙ (ap (λ (w : Where). row_at w facts) same ∙ e) in
            let one_is : one ≡ row = ap (λ (o : Option Row). unwrap_or o one) it in
            ap is_some (ap (λ (r : Row). row_in (place row) (r ∷ rows_at places facts)) one_is ∙
            first row (rows_at places facts))
        by (Some one) is (inr rest) others =
            some_or (stands_at (place row) one) one (row_in (place row) (rows_at places facts))
            (others rest)

  -- at the place of one of them stands what is kept there
  pub kept_there : (places : List Where) (here : Where) → Among here places → Fits here →
      row_in (place_at here) (rows_at places facts) ≡ row_at here facts
  kept_there places here is_in fits = by (row_in (place_at here) (rows_at places facts))
      (row_at here facts) refl refl where
        by : (had has : Option Row) → row_in (place_at here) (rows_at places facts) ≡ had →
            row_at here facts ≡ has → had ≡ has
        by None None e f = refl
        by None (Some row) e f =
            let is : is_some (row_in (place_at here) (rows_at places facts)) ≡ true =
            ap (λ (p : Place). is_some (row_in p (rows_at places facts)))
            (sym (stands_there facts here row f)) ∙ some_there places here row is_in f in
            absurd (true≢false (sym is ∙ ap is_some e))
        by (Some row) has e f =
            let one : FoundAt (place_at here) places row =
            found_at (place_at here) places row e in
            let same : one.here ≡ here = one_place one.here here
            (fits_there facts one.here row (fit one.here) one.keeps) fits
            (sym (stands_there facts one.here row one.keeps) ∙ one.there) in
            sym one.keeps ∙ (ap (λ (w : Where). row_at w facts) same ∙ f)

-- ---- the service's numbers

apart : (n : ℕ) → nat_eq n 0 ≡ false → n ≡ 0 → ⊥
apart n off e = true≢false (sym (ap (λ (m : ℕ). nat_eq m 0) e) ∙ off)

pub not_first : (here : Where) → place_at here ≡ (0, []) → ⊥
not_first (File at) e = apart 1 refl (ap (λ (p : Place). p.0) e)
not_first (Pipeline at) e = apart 2 refl (ap (λ (p : Place). p.0) e)
not_first (Resource at) e = apart 3 refl (ap (λ (p : Place). p.0) e)
not_first (Principal at) e = apart 4 refl (ap (λ (p : Place). p.0) e)
not_first (Agent at) e = apart 5 refl (ap (λ (p : Place). p.0) e)
not_first (Run run) e = apart 6 refl (ap (λ (p : Place). p.0) e)
not_first (Stage run stage) e = apart 7 refl (ap (λ (p : Place). p.0) e)
not_first (Job run stage job) e = apart 8 refl (ap (λ (p : Place). p.0) e)
not_first (Decision run stage by_whom) e = apart 9 refl (ap (λ (p : Place). p.0) e)

module _ (change : ℕ) (log : Log) where
  abbrev numbers : List Row
  numbers = option_to_list (option_map row_of (numbers_kept change log))

  abbrev counts : Record
  counts = kept.Meta (record {
    moment = last_moment log;
    run = last_run log;
    version = counted (version log);
    change = change;
  })

  numbers_here : (b : Bool) → row_in (0, [])
      (option_to_list (option_map row_of (if b then Some counts else None))) ≡
      option_map row_of (if b then Some counts else None)
  numbers_here true = first (row_of counts) []
  numbers_here false = refl

  numbers_else : (at : Place) (b : Bool) → is_eq (place_cmp (0, []) at) ≡ false → row_in at
      (option_to_list (option_map row_of (if b then Some counts else None))) ≡ None
  numbers_else at true off =
      if_false (is_eq (place_cmp (0, []) at)) (Some (row_of counts)) None off
  numbers_else at false off = refl

  module _ (added : List Fact) (rows : List Row) (seen : AreLookedAt change log added rows)
      (fit : AllFit log.facts) where
    abbrev T : List Where
    T = touched_by added

    pub touched_in : (at : Place) → row_in at seen.touched ≡ row_in at (rows_at T log.facts)
    touched_in at = seen.joins at

    pub none_first : (o : Option Row) → row_in (0, []) (rows_at T log.facts) ≡ o → o ≡ None
    none_first None e = refl
    none_first (Some row) e =
        let one : FoundAt log.facts fit (0, []) T row =
        found_at log.facts fit (0, []) T row e in
        absurd (not_first one.here (sym (stands_there log.facts one.here row one.keeps) ∙
        one.there))

    rows_parts : (at : Place) →
        row_in at rows ≡ option_or (row_in at numbers) (row_in at (rows_at T log.facts))
    rows_parts at = ap (row_in at) seen.whole ∙
        (find_behind (stands_at at) numbers seen.touched ∙
        ap (λ (o : Option Row). option_or (row_in at numbers) o) (touched_in at))

    -- at the numbers' place they stand, and elsewhere what is kept at touched places
    pub at_first : row_in (0, []) rows ≡ option_map row_of (numbers_kept change log)
    at_first = rows_parts (0, []) ∙
        ((λ i. option_or (numbers_here (nat_lt 0 change) i)
        (none_first (row_in (0, []) (rows_at T log.facts)) refl i)) ∙
        or_none (option_map row_of (numbers_kept change log)))

    pub at_other : (at : Place) → is_eq (place_cmp (0, []) at) ≡ false →
        row_in at rows ≡ row_in at (rows_at T log.facts)
    at_other at off = rows_parts at ∙
        ap (λ (o : Option Row). option_or o (row_in at (rows_at T log.facts)))
        (numbers_else at (nat_lt 0 change) off)

-- ---- an entry

module _ (change next : ℕ) (log : Log) (added : List Fact) (before behind old new : List Row)
    (was : AreRows change log before) (is : AreRows next (with_added log added) behind)
    (fit : AllFit log.facts) (fits : AllFit (log.facts ++ added))
    (news : AreNewTo log.facts added) (seen_old : AreLookedAt change log added old)
    (seen_new : AreLookedAt next (with_added log added) added new) where
  abbrev places : List Where
  places = touched_by added

  abbrev facts : List Fact
  facts = log.facts ++ added

  abbrev Sees : Place → Type 0
  Sees at = ((row_in at old ≡ row_in at before) × (row_in at new ≡ row_in at behind)) ⊎
      ((row_in at old ≡ row_in at new) × (row_in at before ≡ row_in at behind))

  numbers_seen : (at : Place) → (0, []) ≡ at → Sees at
  numbers_seen at e = inl (
    ap (λ (p : Place). row_in p old) (sym e) ∙ (at_first change log added old seen_old fit ∙
        (sym was.numbers ∙ ap (λ (p : Place). row_in p before) e)),
    ap (λ (p : Place). row_in p new) (sym e) ∙
        (at_first next (with_added log added) added new seen_new fits ∙
        (sym is.numbers ∙ ap (λ (p : Place). row_in p behind) e)),
  )

  module _ (at : Place) (off : is_eq (place_cmp (0, []) at) ≡ false) where
    abbrev A : Option Row
    A = row_in at (rows_at places log.facts)

    abbrev B : Option Row
    B = row_in at (rows_at places facts)

    old_is : row_in at old ≡ A
    old_is = at_other change log added old seen_old fit at off

    new_is : row_in at new ≡ B
    new_is = at_other next (with_added log added) added new seen_new fits at off

    -- where a touched place stands there
    touched_seen : (here : Where) → Among here places → Fits here → place_at here ≡ at → Sees at
    touched_seen here is_in good there = inl (
      old_is ∙ (ap (λ (p : Place). row_in p (rows_at places log.facts)) (sym there) ∙
          (kept_there log.facts fit places here is_in good ∙ (sym (was.each here good) ∙
          ap (λ (p : Place). row_in p before) there))),
      new_is ∙ (ap (λ (p : Place). row_in p (rows_at places facts)) (sym there) ∙
          (kept_there facts fits places here is_in good ∙ (sym (is.each here good) ∙
          ap (λ (p : Place). row_in p behind) there))),
    )

    not_numbers : {X : Type 0} → at ≡ (0, []) → X
    not_numbers e = absurd (true≢false (sym (ap (λ (p : Place). is_eq (place_cmp (0, []) p)) e
        ∙ itself (0, [])) ∙ off))

    -- where none does, rows before and behind are one
    row_stays : (b : Bool) (place : IsPlace at) → is_among place.here places ≡ b → A ≡ None →
        B ≡ None → row_in at before ≡ row_in at behind
    row_stays true place e none_old none_new =
        let is_in : Among place.here places = among place.here places e in
        let old_none : row_at place.here log.facts ≡ None =
        sym (kept_there log.facts fit places place.here is_in place.fits) ∙
        (ap (λ (p : Place). row_in p (rows_at places log.facts)) place.same ∙ none_old) in
        let new_none : row_at place.here facts ≡ None =
        sym (kept_there facts fits places place.here is_in place.fits) ∙
        (ap (λ (p : Place). row_in p (rows_at places facts)) place.same ∙ none_new) in
        ap (λ (p : Place). row_in p before) (sym place.same) ∙
        (was.each place.here place.fits ∙ (old_none ∙ (sym new_none ∙
        (sym (is.each place.here place.fits) ∙
        ap (λ (p : Place). row_in p behind) place.same))))
    row_stays false place e none_old none_new =
        let same : row_at place.here facts ≡ row_at place.here log.facts =
        ap (λ (o : Option Record). option_map row_of o)
        (all_stay added log.facts place.here news e) in
        ap (λ (p : Place). row_in p before) (sym place.same) ∙
        (was.each place.here place.fits ∙ (sym same ∙
        (sym (is.each place.here place.fits) ∙
        ap (λ (p : Place). row_in p behind) place.same)))

    untouched : (had has : Option Row) → row_in at before ≡ had → row_in at behind ≡ has →
        A ≡ None → B ≡ None → row_in at before ≡ row_in at behind
    untouched None None e f none_old none_new = e ∙ sym f
    untouched (Some row) has e f none_old none_new = by (was.only at row e) where
      by : (at ≡ (0, [])) ⊎ IsPlace at → row_in at before ≡ row_in at behind
      by (inl zero_place) = not_numbers zero_place
      by (inr place) =
          row_stays (is_among place.here places) place refl none_old none_new
    untouched None (Some row) e f none_old none_new = by (is.only at row f) where
      by : (at ≡ (0, [])) ⊎ IsPlace at → row_in at before ≡ row_in at behind
      by (inl zero_place) = not_numbers zero_place
      by (inr place) =
          row_stays (is_among place.here places) place refl none_old none_new

    look : (had has : Option Row) → A ≡ had → B ≡ has → Sees at
    look (Some row) has e f =
        let one : FoundAt log.facts fit at places row = found_at log.facts fit at places row e in
        touched_seen one.here one.is_in
        (fits_there log.facts one.here row (fit one.here) one.keeps)
        (sym (stands_there log.facts one.here row one.keeps) ∙ one.there)
    look None (Some row) e f =
        let one : FoundAt facts fits at places row = found_at facts fits at places row f in
        touched_seen one.here one.is_in (fits_there facts one.here row (fits one.here) one.keeps)
        (sym (stands_there facts one.here row one.keeps) ∙ one.there)
    look None None e f = inr (
      old_is ∙ (e ∙ (sym f ∙ sym new_is)),
      untouched (row_in at before) (row_in at behind) refl refl e f,
    )

  sees : (at : Place) (b : Bool) → is_eq (place_cmp (0, []) at) ≡ b → Sees at
  sees at true e = numbers_seen at (same_place (0, []) at e)
  sees at false e = look at e (row_in at (rows_at places log.facts))
      (row_in at (rows_at places facts)) refl refl

  pub overlooks_nothing : OverlookNothing before behind old new
  overlooks_nothing at = sees at (is_eq (place_cmp (0, []) at)) refl
