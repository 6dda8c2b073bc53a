-- What the rows of a state are read as.
use Rattle.std.proofs.Common.{◌≡◌, ◌⊎◌, inl, inr, ℕ, Bool, true, false, List, [], ◌∷◌, map}
use Rattle.std.proofs.Common.{Option, Some, None, refl, sym, ap, subst, ◌∙◌}
use Rattle.std.specs.List.{find, AllByRecursion}
use Rattle.std.specs.Option.{option_and_then, option_map}
use Rattle.std.specs.Prelude.{IfSome, IsTrue, is_some, unwrap_or}
use Rattle.pl_base.specs.declared.row.Row.{Row}
use Rattle.pl_journal.specs.Log.{Log}
use Rattle.pl_keeper.specs.Keeping.{place}
use Rattle.pl_keeper.specs.Rows.{row_of, IsKept}
use Rattle.pl_keeper.specs.declared.records.Record.{Record}
use Rattle.pl_changes.specs.Differing.{row_in, stands_at, Ascend}
use Rattle.pl_changes.proofs.Differs.{apart, own}
use Rattle.pl_changes.proofs.Leading.{none_some}
use Rattle.pl_changes.proofs.Places.{if_false, if_true, Place}
use Rattle.pl_kept.specs.Kept.{kept_at, numbers_kept, row_at, Where}
use Rattle.pl_places.specs.Places.{place_at, Fits}
use Rattle.pl_read.specs.Reading.{IsRead, Keeps}
use Rattle.pl_rows.specs.State.{IsPlace}
use Rattle.pl_torn.specs.Seen.{record_at, seen_at}
use Rattle.pl_torn.specs.declared.seen.Seen.{Seen}
use Rattle.pl_reread.specs.Reread.{AreReread, AreTheNumbers, AreToldBy, IsGood, IsToldAt}

-- ---- what is found among rows that were read

abbrev pub rows_in : List Seen → List Row
rows_in all = map (λ one. one.row.now) all

seen_in : (at : Place) (all : List Seen) →
    option_map (λ one. one.row.now) (seen_at at all) ≡ row_in at (rows_in all)
seen_in at [] = refl
seen_in at (one ∷ all) = by (stands_at at one.row.now) refl (seen_in at all) where
  by : (b : Bool) → stands_at at one.row.now ≡ b →
      option_map (λ other. other.row.now) (seen_at at all) ≡ row_in at (rows_in all) →
      option_map (λ other. other.row.now) (seen_at at (one ∷ all)) ≡
      row_in at (rows_in (one ∷ all))
  by true s rest = ap (option_map (λ other. other.row.now))
      (if_true (stands_at at one.row.now) (Some one) (seen_at at all) s) ∙
      sym (if_true (stands_at at one.row.now) (Some one.row.now) (row_in at (rows_in all)) s)
  by false s rest = ap (option_map (λ other. other.row.now))
      (if_false (stands_at at one.row.now) (Some one) (seen_at at all) s) ∙ (rest ∙
      sym (if_false (stands_at at one.row.now) (Some one.row.now) (row_in at (rows_in all)) s))

-- what is found has what each has
pub found_has : (P : Seen → Type 0) (at : Place) (all : List Seen) (one : Seen) →
    AllByRecursion P all → seen_at at all ≡ Some one → P one
found_has P at [] one each e = absurd (none_some None one refl e)
found_has P at (other ∷ all) one each e =
    by (stands_at at other.row.now) refl (λ f. found_has P at all one each.1 f) where
      by : (b : Bool) → stands_at at other.row.now ≡ b → (seen_at at all ≡ Some one → P one) →
          P one
      by true s rest = subst P (ap (λ (o : Option Seen). unwrap_or o other)
          (sym (if_true (stands_at at other.row.now) (Some other) (seen_at at all) s) ∙ e)) each.0
      by false s rest = rest
          (sym (if_false (stands_at at other.row.now) (Some other) (seen_at at all) s) ∙ e)

-- ---- a row is read as the record whose row it is

abbrev OneRecord : Type 0
OneRecord = (left right : Record) → IsKept left → IsKept right → row_of left ≡ row_of right →
    left ≡ right

-- the rows in a list of what was read
pub each_row : (P : Row → Type 0) (all : List Seen) → AllByRecursion P (rows_in all) →
    AllByRecursion (λ one. P one.row.now) all
each_row P [] each = tt
each_row P (one ∷ all) each = (each.0, each_row P all each.1)

pub both : (P Q R : Seen → Type 0) → ((one : Seen) → P one → Q one → R one) → (all : List Seen) →
    AllByRecursion P all → AllByRecursion Q all → AllByRecursion R all
both P Q R leads [] left right = tt
both P Q R leads (one ∷ all) left right =
    (leads one left.0 right.0, both P Q R leads all left.1 right.1)

some_of : {X : Type 0} (o : Option X) (x : X) → o ≡ Some x → is_some o ≡ true
some_of o x e = ap is_some e

module _ (one_record : OneRecord) where
  read_as : (row : Row) (kept : Option Record) (some : Record) → IsRead row kept → IsGood some →
      row ≡ row_of some → kept ≡ Some some
  read_as row None some read good same = absurd (read some (record {
    fits = good.fits;
    within = good.within;
    same = same;
  }))
  read_as row (Some other) some read good same = ap (λ (kept : Record). Some kept)
      (one_record other some read.fits good.fits (sym read.same ∙ same))

  -- what is read of a row that is that of what may be kept
  read_of : (row : Row) (kept some : Option Record) → IsRead row kept → IfSome some IsGood →
      Some row ≡ option_map row_of some → kept ≡ some
  read_of row kept None read good e = absurd (none_some None row refl (sym e))
  read_of row kept (Some some) read good e = read_as row kept some read good
      (ap (λ (o : Option Row). unwrap_or o row) e)

  -- ... and where none is there, nothing is
  none_of : (some : Option Record) → None ≡ option_map row_of some → None ≡ some
  none_of None e = refl
  none_of (Some some) e = absurd (none_some None (row_of some) refl e)

  module _ (change : ℕ) (log : Log) (all : List Seen) (is : AreReread change log all) where
    -- what is read at a place whose row is that of what may be kept
    at_place : (at : Place) (some : Option Record) → IfSome some IsGood →
        row_in at (rows_in all) ≡ option_map row_of some → record_at at all ≡ some
    at_place at some good e = by (seen_at at all) refl where
      by : (o : Option Seen) → seen_at at all ≡ o →
          option_and_then (λ one. one.kept) (seen_at at all) ≡ some
      by None f = ap (option_and_then (λ one. one.kept)) f ∙ none_of some
          (sym (ap (option_map (λ one. one.row.now)) f) ∙ (seen_in at all ∙ e))
      by (Some one) f = ap (option_and_then (λ other. other.kept)) f ∙
          read_of one.row.now one.kept some
          (found_has (λ other. IsRead other.row.now other.kept) at all one is.read f) good
          (sym (ap (option_map (λ other. other.row.now)) f) ∙ (seen_in at all ∙ e))

    each_told : (here : Where) → Fits here →
        record_at (place_at here) all ≡ kept_at here log.facts
    each_told here fits = at_place (place_at here) (kept_at here log.facts) (is.good here)
        (is.are.each here fits)

    numbers_told : record_at (0, []) all ≡ numbers_kept change log
    numbers_told = at_place (0, []) (numbers_kept change log) is.numbers is.are.numbers

    -- each row is one of these
    abbrev Own : Seen → Type 0
    Own one = AreTheNumbers change log one ⊎ IsToldAt log one

    some_kept : (one : Seen) (some : Option Record) → one.kept ≡ some →
        Some one.row.now ≡ option_map row_of some → is_some one.kept ≡ true
    some_kept one None e f = absurd (none_some None one.row.now refl (sym f))
    some_kept one (Some some) e f = ap is_some e

    own_numbers : (one : Seen) → IsRead one.row.now one.kept →
        row_in (place one.row.now) (rows_in all) ≡ Some one.row.now →
        place one.row.now ≡ (0, []) → AreTheNumbers change log one
    own_numbers one read found there =
        let row_is : Some one.row.now ≡ option_map row_of (numbers_kept change log) =
        sym found ∙ (ap (λ (at : Place). row_in at (rows_in all)) there ∙ is.are.numbers) in
        let kept_is : one.kept ≡ numbers_kept change log =
        read_of one.row.now one.kept (numbers_kept change log) read is.numbers row_is in
        record {
          there = there;
          told = kept_is;
          some = some_kept one (numbers_kept change log) kept_is row_is;
        }

    own_place : (one : Seen) → IsRead one.row.now one.kept →
        row_in (place one.row.now) (rows_in all) ≡ Some one.row.now →
        IsPlace (place one.row.now) → IsToldAt log one
    own_place one read found at =
        let row_is : Some one.row.now ≡ row_at at.here log.facts =
        sym found ∙ (ap (λ (p : Place). row_in p (rows_in all)) (sym at.same) ∙
        is.are.each at.here at.fits) in
        let kept_is : one.kept ≡ kept_at at.here log.facts =
        read_of one.row.now one.kept (kept_at at.here log.facts) read (is.good at.here) row_is in
        record {
          here = at.here;
          fits = at.fits;
          there = sym at.same;
          told = kept_is;
          some = some_kept one (kept_at at.here log.facts) kept_is row_is;
        }

    own_by : (one : Seen) → IsRead one.row.now one.kept →
        row_in (place one.row.now) (rows_in all) ≡ Some one.row.now →
        (place one.row.now ≡ (0, [])) ⊎ IsPlace (place one.row.now) → Own one
    own_by one read found (inl first) = inl (own_numbers one read found first)
    own_by one read found (inr at) = inr (own_place one read found at)

    own_one : (one : Seen) → IsRead one.row.now one.kept →
        row_in (place one.row.now) (rows_in all) ≡ Some one.row.now → Own one
    own_one one read found =
        own_by one read found (is.are.only (place one.row.now) one.row.now found)

    all_own : AllByRecursion Own all
    all_own = both (λ one. IsRead one.row.now one.kept)
        (λ one. row_in (place one.row.now) (rows_in all) ≡ Some one.row.now) Own own_one all
        is.read (each_row (λ row. row_in (place row) (rows_in all) ≡ Some row) all
        (own (rows_in all) (apart (rows_in all) is.are.ascend)))

    pub told_by : AreToldBy change log all
    told_by = record { each = each_told; numbers = numbers_told; own = all_own }
