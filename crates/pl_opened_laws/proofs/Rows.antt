-- The rows of the facts are the rows that told them.
use Rattle.std.proofs.Common.{◌≡◌, ◌⊎◌, ℕ, ◌≤◌, ◌+◌, nat_lt, max, min, Bool, true, false, true≢false}
use Rattle.std.proofs.Common.{List, [], ◌∷◌, length, drop, Option, Some, None, refl, sym, ap, subst}
use Rattle.std.proofs.Common.{◌∙◌, inl, inr, arith}
use Rattle.std.specs.List.{find}
use Rattle.std.specs.Option.{option_and_then, option_map, option_map_or}
use Rattle.std.specs.Prelude.{IfSome}
use Rattle.pl_base.specs.declared.digest.Digest.{Digest}
use Rattle.pl_base.specs.declared.row.Row.{Row}
use Rattle.pl_changes.specs.Differing.{row_in, stands_at}
use Rattle.pl_changes.proofs.Places.{stands, Place}
use Rattle.pl_facts.specs.declared.fact.Fact.{Fact}
use Rattle.pl_keeper.specs.Keeping.{place}
use Rattle.pl_keeper.specs.Rows.{row_of, IsKept}
use Rattle.pl_keeper.specs.declared.records.Record.{Record}
use Rattle.pl_kept.specs.Kept.{kept_at, row_at, Where}
use Rattle.pl_rows.specs.Below.pl_places.specs.Places.{place_at, Fits}
use Rattle.pl_rows.specs.Entry.{AllFit}
use Rattle.pl_rows.specs.State.{IsPlace}
use Rattle.pl_torn.specs.Seen.{seen_at}
use Rattle.pl_torn.specs.declared.seen.Seen.{Seen}
use Rattle.pl_opened_laws.proofs.Again.{kept_again}
use Rattle.pl_opened_laws.proofs.Known.{fits_of, keeps_of, known, seen_of, standing, AreOpened, IsOf}
use Rattle.pl_opened_laws.proofs.Lists.{never_some, some_is, In}
use Rattle.pl_opened_laws.proofs.Standing.{row_seen, seen_is}
use Rattle.pl_opened_laws.proofs.Telling.{numbers_where, stands_where, where_of}
use Rattle.pl_opened_laws.proofs.There.{row_there}

module _ {admin : Digest} {rows : List Row} {all : List Seen} {facts : List Fact}
    (opens : AreOpened admin rows all facts) where
  -- a row that stands at a place is the one that the facts keep there
  row_again : (at : Where) (row : IsOf all at) → row_at at facts ≡ Some row.one.row.now
  row_again at row =
      ap (option_map row_of) (kept_again opens row.one row.there row.told row.is at row.here) ∙
      ap Some (sym (keeps_of opens row.one row.there row.told row.is).same)

  row_stands : (at : Where) (row : IsOf all at) → row_in (place_at at) rows ≡ Some row.one.row.now
  row_stands at row = row_seen (place_at at) rows all opens.seen ∙
      ap (option_map (λ (s : Seen). s.row.now)) (seen_of opens at row)

  -- where none stands, the facts keep none
  none_again : (at : Where) → seen_at (place_at at) all ≡ None → (o : Option Record) →
      kept_at at facts ≡ o → o ≡ None
  none_again at none None is = refl
  none_again at none (Some told) is = let row = row_there opens at told is in
      absurd (never_some row.one (sym (seen_of opens at row) ∙ none))

  each_by : (at : Where) → Fits at → (o : Option Seen) → seen_at (place_at at) all ≡ o →
      row_in (place_at at) rows ≡ row_at at facts
  each_by at fits (Some one) is =
      let found = seen_is (place_at at) all one is in
      let row = standing opens one found.0 at fits found.1 in
      row_stands at row ∙ sym (row_again at row)
  each_by at fits None is = row_seen (place_at at) rows all opens.seen ∙
      ap (option_map (λ (s : Seen). s.row.now)) is ∙
      ap (option_map row_of) (sym (none_again at is (kept_at at facts) refl))

  pub each_again : (at : Where) → Fits at → row_in (place_at at) rows ≡ row_at at facts
  each_again at fits = each_by at fits (seen_at (place_at at) all) refl

  -- ---- all that is kept can be read again

  fit_by : (at : Where) (o : Option Record) → kept_at at facts ≡ o → IfSome o IsKept
  fit_by at None is = tt
  fit_by at (Some told) is =
      let row = row_there opens at told is in
      let same : row.told ≡ told = some_is row.told told
      (sym (kept_again opens row.one row.there row.told row.is at row.here) ∙ is) in
      subst IsKept same (keeps_of opens row.one row.there row.told row.is).fits

  pub all_fit : AllFit facts
  all_fit at = fit_by at (kept_at at facts) refl

  -- ---- no other row stands anywhere

  place_by : (one : Seen) (there : In one all) (told : Record) → one.kept ≡ Some told →
      (at : Place) → place one.row.now ≡ at → (o : Option Where) → where_of told ≡ o →
      (at ≡ (0, [])) ⊎ IsPlace at
  place_by one there told is at here None e = inl (sym here ∙
      (ap place (keeps_of opens one there told is).same ∙ numbers_where told e))
  place_by one there told is at here (Some other) e = inr (record {
    here = other;
    fits = fits_of opens one there told is other e;
    same = sym (stands_where told other e) ∙
        (sym (ap place (keeps_of opens one there told is).same) ∙ here);
  })

  only_by : (at : Place) (row : Row) (o : Option Seen) → seen_at at all ≡ o →
      option_map (λ (s : Seen). s.row.now) o ≡ Some row → (at ≡ (0, [])) ⊎ IsPlace at
  only_by at row None is e = absurd (never_some row (sym e))
  only_by at row (Some one) is e =
      let found = seen_is at all one is in
      let told = known opens one found.0 in
      place_by one found.0 told.told told.is at found.1 (where_of told.told) refl

  pub only_places : (at : Place) (row : Row) → row_in at rows ≡ Some row →
      (at ≡ (0, [])) ⊎ IsPlace at
  only_places at row e = only_by at row (seen_at at all) refl
      (sym (row_seen at rows all opens.seen) ∙ e)
