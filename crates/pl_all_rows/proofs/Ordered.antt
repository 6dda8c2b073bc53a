-- Rows of all places that were brought, in order and one of each place, are those of the state.
use Rattle.std.proofs.Common.{◌≡◌, ◌⊎◌, inl, inr, ℕ, Bool, true, false, nat_lt, true≢false}
use Rattle.std.proofs.Common.{List, [], ◌∷◌, ◌++◌, Option, Some, None, refl, sym, ap, subst, ◌∙◌}
use Rattle.std.specs.List.{cons_option, AllByRecursion, Contains}
use Rattle.std.specs.Option.{option_map, option_to_list}
use Rattle.std.specs.Ordering.{is_eq, is_lt}
use Rattle.std.specs.Prelude.{if◌then◌else◌, unwrap_or, IfSome}
use Rattle.std.specs.declared.cmp.Ordering.TheVariants.{Less}
use Rattle.pl_base.specs.declared.row.Row.{Row}
use Rattle.pl_facts.specs.Sizes.{counted}
use Rattle.pl_facts.specs.declared.fact.Fact.{Fact}
use Rattle.pl_journal.specs.Log.{Log, last_moment, last_run, version}
use Rattle.pl_keeper.specs.Keeping.{comes_before, place, place_cmp}
use Rattle.pl_keeper.specs.Rows.{row_of, IsKept}
use Rattle.pl_keeper.specs.declared.records.Record.{Record}
use Rattle.pl_keeper.specs.declared.records.Record.TheVariants as kept
use Rattle.pl_changes.specs.Differing.{row_in, stands_at, Apart, Ascend}
use Rattle.pl_changes.proofs.Differs.{apart, own}
use Rattle.pl_changes.proofs.Leading.{each_weaker, first, none_some}
use Rattle.pl_changes.proofs.Places.{if_false, if_true, none_from, stands, then_not, Place}
use Rattle.pl_kept.specs.Kept.{kept_at, numbers_kept, row_at, Where, File, Pipeline, Resource}
use Rattle.pl_kept.specs.Kept.{Principal, Agent, Run, Stage, Job, Decision}
use Rattle.pl_row_changes.specs.Below.pl_places.specs.Places.{place_at, Fits}
use Rattle.pl_row_changes.specs.Below.pl_places.proofs.OnePlace.{fits_there, one_place}
use Rattle.pl_row_changes.specs.Below.pl_places.proofs.OnePlace.{stands_there}
use Rattle.pl_row_changes.specs.Below.pl_rows.proofs.Entry.{Among}
use Rattle.pl_row_changes.specs.Below.pl_rows.specs.Entry.{AllFit}
use Rattle.pl_row_changes.specs.Below.pl_rows.specs.State.{AreRows, IsPlace}
use Rattle.pl_row_changes.specs.Looking.{numbers}
use Rattle.pl_touched.specs.Touched.{rows_at, FitAt}
use Rattle.pl_all_rows.specs.Brought.{brought_by}
use Rattle.pl_all_rows.proofs.Bringing.{kept_brought}
use Rattle.pl_all_rows.proofs.Members.{contained, member, In}

-- ---- among rows

-- a row that is found is one of them, and stands there
found_in : (at : Place) (rows : List Row) (row : Row) → row_in at rows ≡ Some row →
    In row rows × (place row ≡ at)
found_in at [] row e = absurd (none_some None row refl e)
found_in at (one ∷ rows) row e = by (stands_at at one) refl (found_in at rows row) where
  by : (b : Bool) → stands_at at one ≡ b →
      (row_in at rows ≡ Some row → In row rows × (place row ≡ at)) →
      In row (one ∷ rows) × (place row ≡ at)
  by true s rest =
      let same : Some one ≡ Some row =
      sym (if_true (stands_at at one) (Some one) (row_in at rows) s) ∙ e in
      let is : one ≡ row = ap (λ (o : Option Row). unwrap_or o one) same in
      (inl is, ap place (sym is) ∙ stands at one s)
  by false s rest =
      let there = rest (sym (if_false (stands_at at one) (Some one) (row_in at rows) s) ∙ e) in
      (inr there.0, there.1)

-- of rows that stand apart each is found at its place
of_each : (P : Row → Type 0) (rows : List Row) (row : Row) → AllByRecursion P rows → In row rows →
    P row
of_each P [] row each is_in = absurd is_in
of_each P (one ∷ rows) row each (inl same) = subst P same each.0
of_each P (one ∷ rows) row each (inr rest) = of_each P rows row each.1 rest

-- ---- the rows at places

at_places : (facts : List Fact) (places : List Where) (row : Row) → In row (rows_at places facts) →
    (here : Where) × Among here places × (row_at here facts ≡ Some row)
at_places facts [] row is_in = absurd is_in
at_places facts (here ∷ places) row is_in =
    by (row_at here facts) refl is_in (at_places facts places row) where
      by : (o : Option Row) → row_at here facts ≡ o →
          In row (cons_option o (rows_at places facts)) →
          (In row (rows_at places facts) →
          (other : Where) × Among other places × (row_at other facts ≡ Some row)) →
          (other : Where) × Among other (here ∷ places) × (row_at other facts ≡ Some row)
      by None e there rest = let one = rest there in (one.0, inr one.1, one.2)
      by (Some one) e (inl same) rest = (here, inl refl, e ∙ ap (λ (r : Row). Some r) same)
      by (Some one) e (inr there) rest = let other = rest there in
          (other.0, inr other.1, other.2)

in_places : (facts : List Fact) (places : List Where) (here : Where) (row : Row) →
    Among here places → row_at here facts ≡ Some row → In row (rows_at places facts)
in_places facts [] here row is_in e = absurd is_in
in_places facts (other ∷ places) here row is_in e =
    by (row_at other facts) refl is_in (λ rest. in_places facts places here row rest e) where
      by : (o : Option Row) → row_at other facts ≡ o → (other ≡ here) ⊎ Among here places →
          (Among here places → In row (rows_at places facts)) →
          In row (cons_option o (rows_at places facts))
      by None is (inl same) rest = absurd (none_some (row_at other facts) row is
          (ap (λ (w : Where). row_at w facts) same ∙ e))
      by None is (inr there) rest = rest there
      by (Some one) is (inl same) rest =
          let it : Some one ≡ Some row =
          sym is ∙ (ap (λ (w : Where). row_at w facts) same ∙ e) in
          inl (ap (λ (o : Option Row). unwrap_or o one) it)
      by (Some one) is (inr there) rest = inr (rest there)

fit_there : (facts : List Fact) (places : List Where) (at : Where) → Among at places →
    FitAt places facts → IfSome (kept_at at facts) IsKept
fit_there facts [] at is_in fits = absurd is_in
fit_there facts (other ∷ places) at (inl same) fits =
    subst (λ (here : Where). IfSome (kept_at here facts) IsKept) same fits.0
fit_there facts (other ∷ places) at (inr rest) fits = fit_there facts places at rest fits.1

-- ---- all that is kept was brought

pub all_fit : (facts : List Fact) → FitAt (brought_by facts) facts → AllFit facts
all_fit facts fits at = by (kept_at at facts) refl where
  by : (o : Option Record) → kept_at at facts ≡ o → IfSome (kept_at at facts) IsKept
  by None e = subst (λ (some : Option Record). IfSome some IsKept) (sym e) tt
  by (Some one) e =
      fit_there facts (brought_by facts) at (kept_brought facts at one e) fits

row_brought : (facts : List Fact) (at : Where) (row : Row) → row_at at facts ≡ Some row →
    Among at (brought_by facts)
row_brought facts at row e = by (kept_at at facts) refl e where
  by : (o : Option Record) → kept_at at facts ≡ o → option_map row_of o ≡ Some row →
      Among at (brought_by facts)
  by None is f = absurd (none_some None row refl f)
  by (Some one) is f = kept_brought facts at one is

-- ---- behind the row of the service's numbers

less : (at : Where) → place_cmp (0, []) (place_at at) ≡ Less
less (File at) = refl
less (Pipeline at) = refl
less (Resource at) = refl
less (Principal at) = refl
less (Agent at) = refl
less (Run run) = refl
less (Stage run stage) = refl
less (Job run stage job) = refl
less (Decision run stage by_whom) = refl

behind_numbers : (here : Where) (row : Row) → place row ≡ place_at here →
    place_cmp (0, []) (place row) ≡ Less
behind_numbers here row there = ap (λ (p : Place). place_cmp (0, []) p) there ∙ less here

module _ (change : ℕ) (log : Log) (some rows all : List Row)
    (were : some ≡ rows_at (brought_by log.facts) log.facts)
    (fits : FitAt (brought_by log.facts) log.facts) (ascend : Ascend rows)
    (from : (row : Row) → Contains rows row → Contains some row)
    (each : (row : Row) → Contains some row →
    (one : Row) × Contains rows one × (place one ≡ place row))
    (are : all ≡ numbers change log ++ rows) where
  abbrev facts : List Fact
  facts = log.facts

  abbrev counts : Record
  counts = kept.Meta (record {
    moment = last_moment log;
    run = last_run log;
    version = counted (version log);
    change = change;
  })

  -- each row is one that is kept at a place
  kept_row : (row : Row) → In row rows →
      (here : Where) × Among here (brought_by facts) × (row_at here facts ≡ Some row)
  kept_row row is_in = at_places facts (brought_by facts) row
      (subst (λ (list : List Row). In row list) were
      (member some row (from row (contained rows row is_in))))

  fits_here : (here : Where) (row : Row) → Among here (brought_by facts) →
      row_at here facts ≡ Some row → Fits here
  fits_here here row is_in e =
      fits_there facts here row (fit_there facts (brought_by facts) here is_in fits) e

  -- a place has one row
  there : (here : Where) (row : Row) → row_at here facts ≡ Some row → In row rows
  there here row e =
      let brings = row_brought facts here row e in
      let was : Contains some row = contained some row (subst (λ (list : List Row). In row list)
      (sym were) (in_places facts (brought_by facts) here row brings e)) in
      let (one, is_in, together) = each row was in
      let here_one = kept_row one (member rows one is_in) in
      let same : here_one.0 ≡ here = one_place here_one.0 here
      (fits_here here_one.0 one here_one.1 here_one.2) (fits_here here row brings e)
      (sym (stands_there facts here_one.0 one here_one.2) ∙
      (together ∙ stands_there facts here row e)) in
      let it : Some one ≡ Some row =
      sym here_one.2 ∙ (ap (λ (w : Where). row_at w facts) same ∙ e) in
      let is : one ≡ row = ap (λ (o : Option Row). unwrap_or o one) it in
      subst (λ (r : Row). In r rows) is (member rows one is_in)

  each_here : (here : Where) → Fits here → row_in (place_at here) rows ≡ row_at here facts
  each_here here good = by (row_in (place_at here) rows) (row_at here facts) refl refl where
    by : (had has : Option Row) → row_in (place_at here) rows ≡ had → row_at here facts ≡ has →
        had ≡ has
    by None None e f = refl
    by None (Some row) e f =
        let is : row_in (place row) rows ≡ Some row =
        of_each (λ (one : Row). row_in (place one) rows ≡ Some one) rows row
        (own rows (apart rows ascend)) (there here row f) in
        absurd (none_some None row refl (sym e ∙
        (ap (λ (p : Place). row_in p rows) (sym (stands_there facts here row f)) ∙ is)))
    by (Some row) has e f =
        let found = found_in (place_at here) rows row e in
        let one = kept_row row found.0 in
        let same : one.0 ≡ here = one_place one.0 here (fits_here one.0 row one.1 one.2) good
        (sym (stands_there facts one.0 row one.2) ∙ found.1) in
        sym one.2 ∙ (ap (λ (w : Where). row_at w facts) same ∙ f)

  each_less : (list : List Row) → ((row : Row) → In row list → In row rows) →
      AllByRecursion (λ later. place_cmp (0, []) (place later) ≡ Less) list
  each_less [] within = tt
  each_less (row ∷ list) within =
      let one = kept_row row (within row (inl refl)) in (
        behind_numbers one.0 row (stands_there facts one.0 row one.2),
        each_less list (λ other is_in. within other (inr is_in)),
      )

  all_less : AllByRecursion (λ later. place_cmp (0, []) (place later) ≡ Less) rows
  all_less = each_less rows (λ row is_in. is_in)

  place_in : (at : Place) (row : Row) → row_in at rows ≡ Some row → IsPlace at
  place_in at row e =
      let found = found_in at rows row e in
      let one = kept_row row found.0 in
      record {
        here = one.0;
        fits = fits_here one.0 row one.1 one.2;
        same = sym (stands_there facts one.0 row one.2) ∙ found.1;
      }

  abbrev with_them : (b : Bool) → List Row
  with_them b = option_to_list (option_map row_of (if b then Some counts else None)) ++ rows

  ascend_by : (b : Bool) → Ascend (with_them b)
  ascend_by true = (
    each_weaker (λ later. place_cmp (0, []) (place later) ≡ Less)
        (λ later. comes_before (row_of counts) later ≡ true) (λ later is. ap is_lt is) rows all_less,
    ascend,
  )
  ascend_by false = ascend

  numbers_by : (b : Bool) → row_in (0, []) (with_them b) ≡
      option_map row_of (if b then Some counts else None)
  numbers_by true = first (row_of counts) rows
  numbers_by false = none_from (0, []) rows all_less

  each_by : (b : Bool) (at : Where) → Fits at →
      row_in (place_at at) (with_them b) ≡ row_at at facts
  each_by true at good =
      if_false (stands_at (place_at at) (row_of counts)) (Some (row_of counts))
      (row_in (place_at at) rows) (then_not (0, []) (place_at at) (less at)) ∙ each_here at good
  each_by false at good = each_here at good

  only_by : (b : Bool) (at : Place) (row : Row) → row_in at (with_them b) ≡ Some row →
      (at ≡ (0, [])) ⊎ IsPlace at
  only_by false at row e = inr (place_in at row e)
  only_by true at row e = by (stands_at at (row_of counts)) refl where
    by : (c : Bool) → stands_at at (row_of counts) ≡ c → (at ≡ (0, [])) ⊎ IsPlace at
    by true s = inl (sym (stands at (row_of counts) s))
    by false s = inr (place_in at row (sym (if_false (stands_at at (row_of counts))
        (Some (row_of counts)) (row_in at rows) s) ∙ e))

  made : (b : Bool) → nat_lt 0 change ≡ b → all ≡ with_them b → AreRows change log all
  made b is all_is = record {
    ascend = subst Ascend (sym all_is) (ascend_by b);
    numbers = ap (row_in (0, [])) all_is ∙ (numbers_by b ∙
        ap (λ (c : Bool). option_map row_of (if c then Some counts else None)) (sym is));
    each = λ at good. ap (row_in (place_at at)) all_is ∙ each_by b at good;
    only = λ at row e. only_by b at row (sym (ap (row_in at) all_is) ∙ e);
  }

  pub are_rows : AreRows change log all
  are_rows = made (nat_lt 0 change) refl are
