-- Each row of a state is read, stands at a place of its own, and the numbers stand in front.
use Rattle.std.proofs.Common.{◌≡◌, ◌<◌, ◌⊎◌, inl, inr, ℕ, zero, suc, ◌-◌, Bool, true, false, true≢false}
use Rattle.std.proofs.Common.{nat_eq, ◌&&◌, ◌||◌, List, [], ◌∷◌, ◌++◌, length, slice_get, cond}
use Rattle.std.proofs.Common.{Option, Some, None, refl, sym, ap, subst, ◌∙◌, append_assoc, arith}
use Rattle.std.proofs.lemmas.Bool.Decides.{nat_tests}
use Rattle.std.specs.List.{AllByRecursion}
use Rattle.std.specs.Option.{option_and_then, option_map_or}
use Rattle.std.specs.Ordering.{is_eq, ordering_reverse}
use Rattle.std.specs.declared.cmp.Ordering.{Ordering}
use Rattle.std.specs.declared.cmp.Ordering.TheVariants.{Less, Greater}
use Rattle.std.specs.Prelude.{is_none, is_some, unwrap_or}
use Rattle.pl_base.specs.declared.digest.Digest.{Digest}
use Rattle.pl_base.specs.declared.row.Row.{Row}
use Rattle.pl_journal.specs.Log.{Log}
use Rattle.pl_keeper.specs.Keeping.{comes_before, place, place_cmp}
use Rattle.pl_keeper.specs.declared.records.Meta.{Meta}
use Rattle.pl_keeper.specs.declared.records.Record.{Record}
use Rattle.pl_keeper.specs.declared.records.Record.TheVariants as kept
use Rattle.pl_kept.specs.Kept.{numbers_kept}
use Rattle.pl_kept.specs.Kept.{Where, File, Pipeline, Resource, Principal, Agent, Run, Stage, Job}
use Rattle.pl_kept.specs.Kept.{Decision}
use Rattle.pl_places.specs.Places.{place_at}
use Rattle.pl_changes.specs.Differing.{stands_at, Ascend}
use Rattle.pl_changes.proofs.Leading.{none_some, or_false}
use Rattle.pl_changes.proofs.Places.{if_false, if_true, is_less, places_total, stands, then_not}
use Rattle.pl_changes.proofs.Places.{Place}
use Rattle.pl_torn.specs.Seen.{meta_in, record_at, seen_at}
use Rattle.pl_torn.specs.Torn.{is_bad, is_bad_record, is_second, lacks_numbers, torn, torn_from}
use Rattle.pl_torn.specs.declared.seen.Seen.{Seen}
use Rattle.pl_reread.specs.Reread.{AreTheNumbers, AreToldBy, IsToldAt, SayNothingBad}
use Rattle.pl_reread.proofs.Rereading.{each_row, found_has, rows_in}

-- ---- no row is the first bad one where none is bad

none_bad : (admin : Digest) (all before later : List Seen) → before ++ later ≡ all →
    ((front : List Seen) (one : Seen) (rest : List Seen) → front ++ one ∷ rest ≡ all →
    is_bad admin all front one ≡ false) → torn_from admin all before later ≡ None
none_bad admin all before [] e good = refl
none_bad admin all before (one ∷ later) e good =
    if_false (is_bad admin all before one) (Some one)
    (torn_from admin all (before ++ one ∷ []) later) (good before one later e) ∙
    none_bad admin all (before ++ one ∷ []) later (append_assoc before (one ∷ []) later ∙ e) good

-- ---- one of a list

pub picked : (P : Seen → Type 0) (front : List Seen) (one : Seen) (rest : List Seen) →
    AllByRecursion P (front ++ one ∷ rest) → P one
picked P [] one rest each = each.0
picked P (other ∷ front) one rest each = picked P front one rest each.1

got : (P : Seen → Type 0) (all : List Seen) (k : ℕ) (one : Seen) → AllByRecursion P all →
    slice_get all k ≡ Some one → P one
got P [] k one each e = absurd (none_some None one refl e)
got P (other ∷ all) zero one each e =
    subst P (ap (λ (o : Option Seen). unwrap_or o other) e) each.0
got P (other ∷ all) (suc k) one each e = got P all k one each.1 e

-- ---- of rows that ascend each comes behind those in front of it

behind_row : (P : Row → Type 0) (front : List Seen) (one : Seen) (rest : List Seen) →
    AllByRecursion P (rows_in (front ++ one ∷ rest)) → P one.row.now
behind_row P [] one rest each = each.0
behind_row P (other ∷ front) one rest each = behind_row P front one rest each.1

in_front : (front : List Seen) (one : Seen) (rest : List Seen) →
    Ascend (rows_in (front ++ one ∷ rest)) →
    AllByRecursion (λ other. comes_before other.row.now one.row.now ≡ true) front
in_front [] one rest ascend = tt
in_front (other ∷ front) one rest ascend = (
  behind_row (λ later. comes_before other.row.now later ≡ true) front one rest ascend.0,
  in_front front one rest ascend.1,
)

no_second : (front : List Seen) (one : Seen) (rest : List Seen) →
    Ascend (rows_in (front ++ one ∷ rest)) → is_second front one ≡ false
no_second front one rest ascend = by (slice_get front (length front - 1)) refl where
  by : (o : Option Seen) → slice_get front (length front - 1) ≡ o →
      option_map_or (λ last. stands_at (place one.row.now) last.row.now)
      (slice_get front (length front - 1)) false ≡ false
  by None e = ap (λ (o : Option Seen). option_map_or
      (λ last. stands_at (place one.row.now) last.row.now) o false) e
  by (Some last) e =
      let before : comes_before last.row.now one.row.now ≡ true =
      got (λ other. comes_before other.row.now one.row.now ≡ true) front (length front - 1) last
      (in_front front one rest ascend) e in
      ap (λ (o : Option Seen). option_map_or
      (λ other. stands_at (place one.row.now) other.row.now) o false) e ∙
      then_not (place last.row.now) (place one.row.now)
      (is_less (place_cmp (place last.row.now) (place one.row.now)) before)

-- ---- the first row is that of the numbers, where they are there

less : (at : Where) → place_cmp (0, []) (place_at at) ≡ Less
less (File at) = refl
less (Pipeline at) = refl
less (Resource at) = refl
less (Principal at) = refl
less (Agent at) = refl
less (Run run) = refl
less (Stage run stage) = refl
less (Job run stage job) = refl
less (Decision run stage by_whom) = refl

less_greater : Less ≡ Greater → ⊥
less_greater e = true≢false (ap is_lesser e) where
  is_lesser : Ordering → Bool
  is_lesser Less = true
  is_lesser _ = false

-- where it stands behind one row, that row isn't one of what is kept at a place
not_told : (log : Log) (one other : Seen) → IsToldAt log one →
    comes_before one.row.now other.row.now ≡ true → place other.row.now ≡ (0, []) → ⊥
not_told log one other at before first =
    let here : place_cmp (place_at at.here) (0, []) ≡ Less =
    ap (λ (p : Place). place_cmp p (0, [])) (sym at.there) ∙
    (ap (λ (p : Place). place_cmp (place one.row.now) p) (sym first) ∙
    is_less (place_cmp (place one.row.now) (place other.row.now)) before) in
    less_greater (sym here ∙ (places_total.antisymm (place_at at.here) (0, []) ∙
    ap ordering_reverse (less at.here)))

-- what is found at a place stands there
found_at : (at : Place) (all : List Seen) (one : Seen) → seen_at at all ≡ Some one →
    place one.row.now ≡ at
found_at at [] one e = absurd (none_some None one refl e)
found_at at (other ∷ all) one e =
    by (stands_at at other.row.now) refl (found_at at all one) where
      by : (b : Bool) → stands_at at other.row.now ≡ b →
          (seen_at at all ≡ Some one → place one.row.now ≡ at) → place one.row.now ≡ at
      by true s rest =
          let same : Some other ≡ Some one =
          sym (if_true (stands_at at other.row.now) (Some other) (seen_at at all) s) ∙ e in
          let is : other ≡ one = ap (λ (o : Option Seen). unwrap_or o other) same in
          subst (λ (it : Seen). place it.row.now ≡ at) is (stands at other.row.now s)
      by false s rest = rest
          (sym (if_false (stands_at at other.row.now) (Some other) (seen_at at all) s) ∙ e)

-- the record at a place is that of a row there
at_row : (at : Place) (all : List Seen) (told : Record) → record_at at all ≡ Some told →
    (one : Seen) × (seen_at at all ≡ Some one)
at_row at all told e = by (seen_at at all) refl where
  by : (o : Option Seen) → seen_at at all ≡ o → (one : Seen) × (seen_at at all ≡ Some one)
  by None f = absurd (none_some (record_at at all) told
      (ap (option_and_then (λ one. one.kept)) f) e)
  by (Some one) f = (one, f)

not_zero : (n : ℕ) → 0 < n → nat_eq n 0 ≡ false
not_zero n more = grind (arith, nat_tests)

meta_some : (some : Option Record) (numbers : Meta) → some ≡ Some (kept.Meta numbers) →
    is_none (option_and_then meta_in some) ≡ false
meta_some some numbers e = ap (λ (o : Option Record). is_none (option_and_then meta_in o)) e

module _ (change : ℕ) (log : Log) (numbers : Meta)
    (there : numbers_kept change log ≡ Some (kept.Meta numbers)) where
  first_is : (one : Seen) (rest : List Seen) → Ascend (rows_in (one ∷ rest)) →
      record_at (0, []) (one ∷ rest) ≡ numbers_kept change log →
      AreTheNumbers change log one ⊎ IsToldAt log one →
      is_none (option_and_then meta_in one.kept) ≡ false
  first_is one rest ascend told (inl own) = meta_some one.kept numbers (own.told ∙ there)
  first_is one rest ascend told (inr at) =
      let (other, found) = at_row (0, []) (one ∷ rest) (kept.Meta numbers) (told ∙ there) in
      let off : stands_at (0, []) one.row.now ≡ false =
      not_there one at in
      let behind : seen_at (0, []) rest ≡ Some other =
      sym (if_false (stands_at (0, []) one.row.now) (Some one) (seen_at (0, []) rest) off) ∙ found in
      absurd (not_told log one other at
      (found_has (λ (it : Seen). comes_before one.row.now it.row.now ≡ true) (0, []) rest other
      (each_row (λ row. comes_before one.row.now row ≡ true) rest ascend.0) behind)
      (found_at (0, []) rest other behind)) where
        not_there : (it : Seen) → IsToldAt log it → stands_at (0, []) it.row.now ≡ false
        not_there it is = ap (λ (p : Place). is_eq (place_cmp p (0, []))) is.there ∙
            ap is_eq (places_total.antisymm (place_at is.here) (0, []) ∙
            ap ordering_reverse (less is.here))

  no_lack : (all : List Seen) (is : AreToldBy change log all) → Ascend (rows_in all) →
      (front : List Seen) (one : Seen) (rest : List Seen) → front ++ one ∷ rest ≡ all →
      lacks_numbers front one ≡ false
  no_lack all is ascend (other ∷ front) one rest e =
      ap (λ (b : Bool). b && is_none (option_and_then meta_in one.kept))
      (not_zero (length (other ∷ front)) (omega arith))
  no_lack all is ascend [] one rest e =
      let own : AllByRecursion (λ it. AreTheNumbers change log it ⊎ IsToldAt log it) (one ∷ rest) =
      subst (AllByRecursion (λ it. AreTheNumbers change log it ⊎ IsToldAt log it)) (sym e) is.own in
      first_is one rest (subst (λ (list : List Seen). Ascend (rows_in list)) (sym e) ascend)
      (ap (record_at (0, [])) e ∙ is.numbers) own.0

-- ---- rows are torn by what they say alone

said_by : (admin : Digest) (all front : List Seen) (one : Seen) → is_some one.kept ≡ true →
    ((told : Record) → one.kept ≡ Some told →
    is_bad_record admin all front one.compiled told ≡ false) →
    option_map_or (is_bad_record admin all front one.compiled) one.kept true ≡ false
said_by admin all front one some good = by one.kept refl some where
  by : (o : Option Record) → one.kept ≡ o → is_some o ≡ true →
      option_map_or (is_bad_record admin all front one.compiled) one.kept true ≡ false
  by None e is = absurd (true≢false (sym is))
  by (Some told) e is = ap (λ (o : Option Record).
      option_map_or (is_bad_record admin all front one.compiled) o true) e ∙ good told e

some_own : (change : ℕ) (log : Log) (one : Seen) →
    AreTheNumbers change log one ⊎ IsToldAt log one → is_some one.kept ≡ true
some_own change log one (inl own) = own.some
some_own change log one (inr own) = own.some

-- none is torn where each says nothing that is bad
pub none_torn : (admin : Digest) (change : ℕ) (log : Log) (numbers : Meta) (all : List Seen) →
    numbers_kept change log ≡ Some (kept.Meta numbers) → AreToldBy change log all →
    Ascend (rows_in all) → SayNothingBad admin all → torn admin all ≡ None
none_torn admin change log numbers all there is ascend good =
    none_bad admin all [] all refl (λ front one rest e.
    let ascends : Ascend (rows_in (front ++ one ∷ rest)) =
    subst (λ (list : List Seen). Ascend (rows_in list)) (sym e) ascend in
    or_false (lacks_numbers front one) _
    (no_lack change log numbers there all is ascend front one rest e)
    (or_false (is_second front one) _ (no_second front one rest ascends)
    (said_by admin all front one (some_own change log one
    (picked (λ it. AreTheNumbers change log it ⊎ IsToldAt log it) front one rest
    (subst (AllByRecursion (λ it. AreTheNumbers change log it ⊎ IsToldAt log it)) (sym e) is.own)))
    (λ told says. good front one rest e told says))))
