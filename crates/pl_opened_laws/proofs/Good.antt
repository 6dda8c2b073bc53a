-- What holds of rows that aren't torn.
use Rattle.std.proofs.Common.{◌≡◌, ℕ, ◌≤◌, Bool, true, false, true≢false, ◌&&◌, ◌||◌, List, []}
use Rattle.std.proofs.Common.{◌∷◌, ◌++◌, Option, Some, None, refl, sym, ap, subst, ◌∙◌, append_assoc, arith}
use Rattle.std.specs.List.{AllByRecursion}
use Rattle.std.specs.Option.{option_and_then, option_map_or}
use Rattle.std.specs.Prelude.{nat_le, nat_lt, IsTrue, is_none}
use Rattle.std.proofs.lemmas.Bool.{leb-true, ltb-false}
use Rattle.pl_base.specs.declared.digest.Digest.{Digest}
use Rattle.pl_base.specs.declared.row.Row.{Row}
use Rattle.pl_changes.specs.Differing.{stands_at}
use Rattle.pl_changes.proofs.Places.{if_false, if_true, itself}
use Rattle.pl_keeper.specs.Limits.{is_within}
use Rattle.pl_limits.specs.Limits.{is_counted}
use Rattle.pl_keeper.specs.declared.records.Meta.{Meta}
use Rattle.pl_keeper.specs.declared.records.Record.{Record}
use Rattle.pl_keeper.specs.declared.records.Record.TheVariants as kept
use Rattle.pl_read.specs.Reading.{IsRead, Keeps}
use Rattle.pl_seeing.specs.Seeing.{AreSeen, IsSeen}
use Rattle.pl_torn.specs.Looking.{meta_told}
use Rattle.pl_torn.specs.Moments.{is_late}
use Rattle.pl_torn.specs.Seen.{meta_in, seen_at}
use Rattle.pl_torn.specs.Torn.{is_bad, is_bad_record, is_second, lacks_numbers, torn, torn_from}
use Rattle.pl_torn.specs.declared.seen.Seen.{Seen}
use Rattle.pl_opened_laws.proofs.Lists.{never_some}

-- the limits of the service's numbers
pub record AreWithin (numbers : Meta) : Type 0 where
  pub moment : numbers.moment ≤ 4102444799
  pub version : numbers.version ≤ 999999999999999999
  pub change : 1 ≤ numbers.change
  pub last : numbers.change ≤ 999999999999999999

pub neither : (a b : Bool) → (a || b) ≡ false → (a ≡ false) × (b ≡ false)
neither true b e = absurd (true≢false e)
neither false b e = (refl, e)

some_none : (one : Seen) → Some one ≡ None → ⊥
some_none one e = never_some one e

-- where the answer is told of nothing as bad, there is something that is good
pub record IsWithin {X : Type 0} (f : X → Bool) (o : Option X) : Type 0 where
  pub one : X
  pub is : o ≡ Some one
  pub good : f one ≡ false

pub inner : {X : Type 0} (f : X → Bool) (o : Option X) → option_map_or f o true ≡ false →
    IsWithin f o
inner f None e = absurd (true≢false e)
inner f (Some x) e = record { one = x; is = refl; good = e }

-- ---- each row is good, with some in front of it

pub record IsGood (admin : Digest) (all : List Seen) (one : Seen) : Type 0 where
  pub before : List Seen
  pub later : List Seen
  pub whole : all ≡ before ++ one ∷ later
  pub good : is_bad admin all before one ≡ false

good_from : (admin : Digest) (all before later : List Seen) → all ≡ before ++ later →
    torn_from admin all before later ≡ None → AllByRecursion (IsGood admin all) later
good_from admin all before [] whole none = tt
good_from admin all before (one ∷ later) whole none =
    by (is_bad admin all before one) refl
    (good_from admin all (before ++ one ∷ []) later
    (whole ∙ sym (append_assoc before (one ∷ []) later))) where
      by : (b : Bool) → is_bad admin all before one ≡ b →
          (torn_from admin all (before ++ one ∷ []) later ≡ None →
          AllByRecursion (IsGood admin all) later) →
          AllByRecursion (IsGood admin all) (one ∷ later)
      by true e rest = absurd (some_none one (sym (if_true (is_bad admin all before one)
          (Some one) (torn_from admin all (before ++ one ∷ []) later) e) ∙ none))
      by false e rest = (
        record { before = before; later = later; whole = whole; good = e },
        rest (sym (if_false (is_bad admin all before one) (Some one)
            (torn_from admin all (before ++ one ∷ []) later) e) ∙ none),
      )

pub each_good : (admin : Digest) (all : List Seen) → torn admin all ≡ None →
    AllByRecursion (IsGood admin all) all
each_good admin all none = good_from admin all [] all refl none

-- a good row says something, and what it says is good
pub record SaysGood (admin : Digest) (all : List Seen) (one : Seen) : Type 0 where
  pub told : Record
  pub is : one.kept ≡ Some told
  pub before : List Seen
  pub later : List Seen
  pub whole : all ≡ before ++ one ∷ later
  pub good : is_bad_record admin all before one.compiled told ≡ false

pub says_good : (admin : Digest) (all : List Seen) (one : Seen) → IsGood admin all one →
    SaysGood admin all one
says_good admin all one is =
    let before = is.before in
    by one.kept refl (neither (is_second before one) (option_map_or
    (is_bad_record admin all before one.compiled) one.kept true)
    (neither (lacks_numbers before one) (is_second before one || option_map_or
    (is_bad_record admin all before one.compiled) one.kept true) is.good).1).1 where
      by : (o : Option Record) → one.kept ≡ o →
          option_map_or (is_bad_record admin all is.before one.compiled) one.kept true ≡ false →
          SaysGood admin all one
      by None none bad = absurd (true≢false (ap (λ (o : Option Record). option_map_or
          (is_bad_record admin all is.before one.compiled) o true) (sym none) ∙ bad))
      by (Some told) some bad = record {
        told = told;
        is = some;
        before = is.before;
        later = is.later;
        whole = is.whole;
        good = ap (λ (o : Option Record). option_map_or
            (is_bad_record admin all is.before one.compiled) o true) (sym some) ∙ bad;
      }

-- ---- the service's numbers

-- where there is a row, they are told, within their limits
pub record TellNumbers (all : List Seen) : Type 0 where
  pub numbers : Meta
  pub told : meta_told all ≡ Some numbers
  pub within : AreWithin numbers

first_meta : (o : Option Record) → is_none (option_and_then meta_in o) ≡ false →
    (numbers : Meta) × (o ≡ Some (kept.Meta numbers))
first_meta None e = absurd (true≢false e)
first_meta (Some (kept.Meta numbers)) e = (numbers, refl)
first_meta (Some (kept.File told)) e = absurd (true≢false e)
first_meta (Some (kept.Pipeline told)) e = absurd (true≢false e)
first_meta (Some (kept.Resource told)) e = absurd (true≢false e)
first_meta (Some (kept.Principal told)) e = absurd (true≢false e)
first_meta (Some (kept.Agent told)) e = absurd (true≢false e)
first_meta (Some (kept.Run told)) e = absurd (true≢false e)
first_meta (Some (kept.Stage told)) e = absurd (true≢false e)
first_meta (Some (kept.Job told)) e = absurd (true≢false e)
first_meta (Some (kept.Decision told)) e = absurd (true≢false e)

first_of_and : (a b : Bool) → (a && b) ≡ true → a ≡ true
first_of_and true b e = refl
first_of_and false b e = e

second_of_and : (a b : Bool) → (a && b) ≡ true → b ≡ true
second_of_and true b e = e
second_of_and false b e = absurd (true≢false (sym e))

within_limit : (numbers : Meta) → IsTrue (is_within (kept.Meta numbers)) → AreWithin numbers
within_limit numbers e =
    let moment = nat_le numbers.moment 4102444799 in
    let change = is_counted numbers.change && nat_le 1 numbers.change in
    let version = is_counted numbers.version && change in
    let run = is_counted numbers.run && version in
    let rest = second_of_and (is_counted numbers.run) version (second_of_and moment run e) in
    let last = second_of_and (is_counted numbers.version) change rest in
    let one = first_of_and moment run e in
    let two = first_of_and (is_counted numbers.version) change rest in
    let four = first_of_and (is_counted numbers.change) (nat_le 1 numbers.change) last in
    let three = second_of_and (is_counted numbers.change) (nat_le 1 numbers.change) last in
    record {
      moment = leb-true numbers.moment 4102444799 one;
      version = leb-true numbers.version 999999999999999999 two;
      change = leb-true 1 numbers.change three;
      last = leb-true numbers.change 999999999999999999 four;
    }

-- where the first row is that of the numbers, they are told
tell_of : (row : Row) (one : Seen) (all : List Seen) → IsSeen row one → (numbers : Meta) →
    one.kept ≡ Some (kept.Meta numbers) → TellNumbers (one ∷ all)
tell_of row one all seen numbers is =
    let keeps : Keeps row (kept.Meta numbers) =
    subst (λ (o : Option Record). IsRead row o) is seen.read in
    let here : stands_at (0, []) one.row.now ≡ true =
    ap (λ (r : Row). stands_at (0, []) r) (seen.same ∙ keeps.same) ∙ itself (0, []) in
    let found : seen_at (0, []) (one ∷ all) ≡ Some one =
    if_true (stands_at (0, []) one.row.now) (Some one) (seen_at (0, []) all) here in
    record {
      numbers = numbers;
      told = ap (λ (o : Option Seen). option_and_then meta_in (option_and_then
          (λ (s : Seen). s.kept) o)) found ∙ ap (λ (o : Option Record). option_and_then meta_in o)
          is;
      within = within_limit numbers keeps.within;
    }

-- rows that aren't torn are none, or tell the numbers
pub tell_numbers : (admin : Digest) (rows : List Row) (one : Seen) (all : List Seen) →
    AreSeen rows (one ∷ all) → torn admin (one ∷ all) ≡ None → TellNumbers (one ∷ all)
tell_numbers admin [] one all seen none = absurd seen
tell_numbers admin (row ∷ rows) one all seen none =
    by (is_bad admin (one ∷ all) [] one) refl where
      by : (b : Bool) → is_bad admin (one ∷ all) [] one ≡ b → TellNumbers (one ∷ all)
      by true e = absurd (some_none one (sym (if_true (is_bad admin (one ∷ all) [] one) (Some one)
          (torn_from admin (one ∷ all) (one ∷ []) all) e) ∙ none))
      by false e =
          let lacks : lacks_numbers [] one ≡ false = (neither (lacks_numbers [] one)
          (is_second [] one || option_map_or (is_bad_record admin (one ∷ all) [] one.compiled)
          one.kept true) e).0 in
          let first = first_meta one.kept lacks in
          tell_of row one all seen.0 first.0 first.1

-- no moment that isn't late is past that of the last entry
pub not_late : (all : List Seen) (tell : TellNumbers all) (moment : ℕ) →
    is_late (meta_told all) moment ≡ false → moment ≤ tell.numbers.moment
not_late all tell moment e =
    let here : nat_lt tell.numbers.moment moment ≡ false =
    ap (λ (o : Option Meta). is_late o moment) (sym tell.told) ∙ e in
    ltb-false tell.numbers.moment moment here
