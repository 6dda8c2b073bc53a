-- What is known of rows of which none is torn, and which row tells a fact of theirs.
use Rattle.std.proofs.Common.{◌≡◌, ◌⊎◌, ℕ, nat_eq, Bool, true, false, true≢false, List, [], ◌∷◌, ◌++◌}
use Rattle.std.proofs.Common.{Option, Some, None, refl, sym, ap, subst, ◌∙◌, inl, inr}
use Rattle.std.specs.Option.{option_map, option_to_list}
use Rattle.pl_base.specs.declared.digest.Digest.{Digest}
use Rattle.pl_base.specs.declared.row.Row.{Row}
use Rattle.pl_changes.proofs.Places.{Place}
use Rattle.pl_facts.specs.declared.fact.Fact.{Fact}
use Rattle.pl_keeper.specs.Keeping.{place}
use Rattle.pl_keeper.specs.declared.records.Record.{Record}
use Rattle.pl_kept.specs.Kept.{Where, File, Pipeline, Resource, Principal, Agent, Run, Stage, Job}
use Rattle.pl_kept.specs.Kept.{Decision}
use Rattle.pl_log.specs.Latest.{latest}
use Rattle.pl_opened.specs.Opened.{AreFactsOf}
use Rattle.pl_opened_laws.specs.Laws.{CompilesRun}
use Rattle.pl_rows.specs.Below.pl_places.specs.Places.{place_at, Fits}
use Rattle.pl_rows.specs.Below.pl_places.proofs.OnePlace.{one_place}
use Rattle.pl_read.specs.Reading.{IsRead, Keeps}
use Rattle.pl_seeing.specs.Seeing.{AreSeen, IsMadeBy, IsSeen}
use Rattle.pl_torn.specs.Seen.{AreInOrder, seen_at}
use Rattle.pl_torn.specs.Torn.{is_bad_record, torn}
use Rattle.pl_torn.specs.declared.seen.Seen.{Seen}
use Rattle.pl_opened_laws.proofs.Good.{each_good, says_good, IsGood, SaysGood}
use Rattle.pl_opened_laws.proofs.Lists.{each_in, in_joined, in_left, in_option, in_right, latest_in}
use Rattle.pl_opened_laws.proofs.Lists.{never_some, only_one, option_in, some_is, In}
use Rattle.pl_opened_laws.proofs.Standing.{all_ascend, one_at, seen_there, AscendSeen}
use Rattle.pl_opened_laws.proofs.Telling.{fact_told, fits_where, is_told, numbers_where, stands_where}
use Rattle.pl_opened_laws.proofs.Telling.{tells_as, tells_in, tells_of, told_fact, where_of, where_told}

-- rows in order that are whole, and the facts that they tell
pub record AreOpened (admin : Digest) (rows : List Row) (all : List Seen) (facts : List Fact) :
    Type 0 where
  pub order : AreInOrder all
  pub seen : AreSeen rows all
  pub none : torn admin all ≡ None
  pub are : AreFactsOf all facts
  pub run : CompilesRun

-- a row's record, which the row is, and which is good
pub record IsKnown (admin : Digest) (all : List Seen) (one : Seen) : Type 0 where
  pub told : Record
  pub is : one.kept ≡ Some told
  pub keeps : Keeps one.row.now told
  pub made : IsMadeBy (Some told) one.compiled
  pub says : SaysGood admin all one

-- a record of which nothing is bad, of what all rows say and of those in front of it
pub record IsFine (admin : Digest) (all : List Seen) (one : Seen) (told : Record) : Type 0 where
  pub before : List Seen
  pub later : List Seen
  pub whole : all ≡ before ++ one ∷ later
  pub good : is_bad_record admin all before one.compiled told ≡ false

-- ---- each row is seen

record IsSight (one : Seen) : Type 0 where
  row : Row
  is : IsSeen row one

sight : (rows : List Row) (all : List Seen) → AreSeen rows all → (one : Seen) → In one all →
    IsSight one
sight [] [] seen one is = absurd is
sight [] (other ∷ all) seen one is = absurd seen
sight (row ∷ rows) [] seen one is = absurd seen
sight (row ∷ rows) (other ∷ all) seen one (inl same) =
    record { row = row; is = subst (λ (s : Seen). IsSeen row s) same seen.0 }
sight (row ∷ rows) (other ∷ all) seen one (inr rest) = sight rows all seen.1 one rest

no_numbers : (at : Where) → place_at at ≡ (0, []) → ⊥
no_numbers (File at) e = true≢false (sym (ap (λ (p : Place). nat_eq 0 p.0) e))
no_numbers (Pipeline at) e = true≢false (sym (ap (λ (p : Place). nat_eq 0 p.0) e))
no_numbers (Resource at) e = true≢false (sym (ap (λ (p : Place). nat_eq 0 p.0) e))
no_numbers (Principal at) e = true≢false (sym (ap (λ (p : Place). nat_eq 0 p.0) e))
no_numbers (Agent at) e = true≢false (sym (ap (λ (p : Place). nat_eq 0 p.0) e))
no_numbers (Run run) e = true≢false (sym (ap (λ (p : Place). nat_eq 0 p.0) e))
no_numbers (Stage run stage) e = true≢false (sym (ap (λ (p : Place). nat_eq 0 p.0) e))
no_numbers (Job run stage job) e = true≢false (sym (ap (λ (p : Place). nat_eq 0 p.0) e))
no_numbers (Decision run stage name) e = true≢false (sym (ap (λ (p : Place). nat_eq 0 p.0) e))

-- a row's record, and where it stands
pub record IsOf (all : List Seen) (at : Where) : Type 0 where
  pub one : Seen
  pub there : In one all
  pub told : Record
  pub is : one.kept ≡ Some told
  pub here : where_of told ≡ Some at

module _ {admin : Digest} {rows : List Row} {all : List Seen} {facts : List Fact}
    (opens : AreOpened admin rows all facts) where
  pub ascend : AscendSeen all
  ascend = all_ascend admin all opens.order opens.none

  pub known : (one : Seen) → In one all → IsKnown admin all one
  known one there =
      let says = says_good admin all one
      (each_in (IsGood admin all) all (each_good admin all opens.none) one there) in
      let seen = sight rows all opens.seen one there in
      let keeps : Keeps seen.row says.told =
      subst (λ (o : Option Record). IsRead seen.row o) says.is seen.is.read in
      record {
        told = says.told;
        is = says.is;
        keeps = subst (λ (r : Row). Keeps r says.told) (sym seen.is.same) keeps;
        made = subst (λ (o : Option Record). IsMadeBy o one.compiled) says.is seen.is.made;
        says = says;
      }

  -- the record that is told of a row is the one that is known
  pub knows : (one : Seen) (there : In one all) (told : Record) → one.kept ≡ Some told →
      (known one there).told ≡ told
  knows one there told is = some_is (known one there).told told (sym (known one there).is ∙ is)

  pub keeps_of : (one : Seen) → In one all → (told : Record) → one.kept ≡ Some told →
      Keeps one.row.now told
  keeps_of one there told is = subst (λ (r : Record). Keeps one.row.now r)
      (knows one there told is) (known one there).keeps

  pub made_of : (one : Seen) → In one all → (told : Record) → one.kept ≡ Some told →
      IsMadeBy (Some told) one.compiled
  made_of one there told is = subst (λ (r : Record). IsMadeBy (Some r) one.compiled)
      (knows one there told is) (known one there).made

  pub good_of : (one : Seen) → In one all → (told : Record) → one.kept ≡ Some told →
      IsFine admin all one told
  good_of one there told is =
      let says = (known one there).says in
      let same : says.told ≡ told = some_is says.told told (sym says.is ∙ is) in
      record {
        before = says.before;
        later = says.later;
        whole = says.whole;
        good = subst (λ (r : Record). is_bad_record admin all says.before one.compiled r ≡ false)
            same says.good;
      }

  -- ---- where rows stand

  pub stands_of : (one : Seen) → In one all → (told : Record) → one.kept ≡ Some told →
      (at : Where) → where_of told ≡ Some at → place one.row.now ≡ place_at at
  stands_of one there told is at here =
      ap place (keeps_of one there told is).same ∙ stands_where told at here

  pub fits_of : (one : Seen) → In one all → (told : Record) → one.kept ≡ Some told →
      (at : Where) → where_of told ≡ Some at → Fits at
  fits_of one there told is at here = fits_where told at here (keeps_of one there told is).fits

  standing_by : (one : Seen) → In one all → (told : Record) → one.kept ≡ Some told →
      (at : Where) → Fits at → place one.row.now ≡ place_at at → (o : Option Where) →
      where_of told ≡ o → o ≡ Some at
  standing_by one there told is at fits same None e = absurd (no_numbers at
      (sym same ∙ (ap place (keeps_of one there told is).same ∙ numbers_where told e)))
  standing_by one there told is at fits same (Some other) e = ap Some (one_place other at
      (fits_of one there told is other e) fits (sym (stands_of one there told is other e) ∙ same))

  -- a row that stands at a place is that of a record which stands there
  pub standing : (one : Seen) → In one all → (at : Where) → Fits at →
      place one.row.now ≡ place_at at → IsOf all at
  standing one there at fits same =
      let told = (known one there).told in
      record {
        one = one;
        there = there;
        told = told;
        is = (known one there).is;
        here = standing_by one there told (known one there).is at fits same (where_of told) refl;
      }

  pub seen_of : (at : Where) (row : IsOf all at) → seen_at (place_at at) all ≡ Some row.one
  seen_of at row = seen_there all ascend (place_at at) row.one row.there
      (stands_of row.one row.there row.told row.is at row.here)

  -- ---- the facts of a row

  -- a fact that is told where a row stands is told by that row
  pub owns : (at : Where) (row : IsOf all at) (fact : Fact) → In fact facts →
      where_told fact.event ≡ at → In fact (tells_in row.one.compiled row.told)
  owns at row fact among here =
      let by = fact_told all facts opens.are fact among in
      let other = is_told by.one fact by.among in
      let same : by.one ≡ row.one = one_at all ascend by.one row.one by.there row.there
      (stands_of by.one by.there other.told other.is at (other.here ∙ ap Some here) ∙
      sym (stands_of row.one row.there row.told row.is at row.here)) in
      subst (λ (some : List Fact). In fact some) (tells_as row.one row.told row.is)
      (subst (λ (s : Seen). In fact (tells_of s)) same by.among)

  pub told_there : (at : Where) (row : IsOf all at) (fact : Fact) →
      In fact (tells_in row.one.compiled row.told) → In fact facts
  told_there at row fact is = told_fact all facts opens.are row.one row.there fact
      (subst (λ (some : List Fact). In fact some) (sym (tells_as row.one row.told row.is)) is)

  -- a test that passes facts that are told at one place alone
  abbrev pub IsAt : (Fact → Bool) → Where → Type 0
  IsAt test at = (fact : Fact) → test fact ≡ true → where_told fact.event ≡ at

  -- what is found is told by a row that stands there
  pub record IsFound (at : Where) (fact : Fact) : Type 0 where
    pub row : IsOf all at
    pub among : In fact (tells_in row.one.compiled row.told)

  pub finds : (test : Fact → Bool) (at : Where) → IsAt test at → (fact : Fact) →
      latest test facts ≡ Some fact → IsFound at fact
  finds test at is_at fact e =
      let found = latest_in test facts fact e in
      let by = fact_told all facts opens.are fact found.0 in
      let other = is_told by.one fact by.among in
      record {
        row = record {
          one = by.one;
          there = by.there;
          told = other.told;
          is = other.is;
          here = other.here ∙ ap Some (is_at fact found.1);
        };
        among = other.among;
      }

  -- ---- what is found where a row stands

  module _ (at : Where) (row : IsOf all at) (test : Fact → Bool) (is_at : IsAt test at) where
    look_up : (o : Option Fact) → ((fact : Fact) → In fact (tells_in row.one.compiled row.told) →
        test fact ≡ true → o ≡ Some fact) → ((fact : Fact) → o ≡ Some fact →
        In fact (tells_in row.one.compiled row.told) × (test fact ≡ true)) →
        latest test facts ≡ o
    look_up o comes there = only_one test facts o
        (λ fact among passes. comes fact (owns at row fact among (is_at fact passes)) passes)
        (λ fact e. let found = there fact e in (told_there at row fact found.0, found.1))

    -- the one fact of a row
    only_fact : (one fact : Fact) → In fact (one ∷ []) → Some one ≡ Some fact
    only_fact one fact (inl same) = ap Some same
    only_fact one fact (inr rest) = absurd rest

    pub single : (one : Fact) → tells_in row.one.compiled row.told ≡ one ∷ [] →
        test one ≡ true → latest test facts ≡ Some one
    single one is passes = look_up (Some one)
        (λ fact among t. only_fact one fact (subst (λ (some : List Fact). In fact some) is among))
        (λ fact e. let same : one ≡ fact = some_is one fact e in (
          subst (λ (some : List Fact). In fact some) (sym is) (inl same),
          subst (λ (f : Fact). test f ≡ true) same passes,
        ))

    -- of two that may be there
    module _ {A B : Type 0} (f : A → Fact) (g : B → Fact) (a : Option A) (b : Option B)
        (is : tells_in row.one.compiled row.told ≡
        option_to_list (option_map f a) ++ option_to_list (option_map g b)) where
      first_comes : (fact : Fact) → ((y : B) → test (g y) ≡ false) → test fact ≡ true →
          In fact (option_to_list (option_map f a)) ⊎ In fact (option_to_list (option_map g b)) →
          option_map f a ≡ Some fact
      first_comes fact off passes (inl among) = let found = in_option f a fact among in
          ap (option_map f) found.1 ∙ ap Some found.2
      first_comes fact off passes (inr among) = let found = in_option g b fact among in
          absurd (true≢false (sym passes ∙ (ap test (sym found.2) ∙ off found.0)))

      second_comes : (fact : Fact) → ((x : A) → test (f x) ≡ false) → test fact ≡ true →
          In fact (option_to_list (option_map f a)) ⊎ In fact (option_to_list (option_map g b)) →
          option_map g b ≡ Some fact
      second_comes fact off passes (inl among) = let found = in_option f a fact among in
          absurd (true≢false (sym passes ∙ (ap test (sym found.2) ∙ off found.0)))
      second_comes fact off passes (inr among) = let found = in_option g b fact among in
          ap (option_map g) found.1 ∙ ap Some found.2

      parts : (fact : Fact) → In fact (tells_in row.one.compiled row.told) →
          In fact (option_to_list (option_map f a)) ⊎ In fact (option_to_list (option_map g b))
      parts fact among = in_joined fact (option_to_list (option_map f a))
          (option_to_list (option_map g b))
          (subst (λ (some : List Fact). In fact some) is among)

      first_there : (o : Option A) → a ≡ o → (fact : Fact) → ((x : A) → test (f x) ≡ true) →
          option_map f o ≡ Some fact →
          In fact (tells_in row.one.compiled row.told) × (test fact ≡ true)
      first_there None e fact on found = absurd (never_some fact (sym found))
      first_there (Some x) e fact on found =
          let same : f x ≡ fact = some_is (f x) fact found in (
            subst (λ (some : List Fact). In fact some) (sym is)
                (subst (λ (one : Fact). In one (option_to_list (option_map f a) ++
                option_to_list (option_map g b))) same
                (in_left (f x) (option_to_list (option_map f a))
                (option_to_list (option_map g b)) (option_in f a x e))),
            subst (λ (one : Fact). test one ≡ true) same (on x),
          )

      second_there : (o : Option B) → b ≡ o → (fact : Fact) → ((y : B) → test (g y) ≡ true) →
          option_map g o ≡ Some fact →
          In fact (tells_in row.one.compiled row.told) × (test fact ≡ true)
      second_there None e fact on found = absurd (never_some fact (sym found))
      second_there (Some y) e fact on found =
          let same : g y ≡ fact = some_is (g y) fact found in (
            subst (λ (some : List Fact). In fact some) (sym is)
                (subst (λ (one : Fact). In one (option_to_list (option_map f a) ++
                option_to_list (option_map g b))) same
                (in_right (g y) (option_to_list (option_map f a))
                (option_to_list (option_map g b)) (option_in g b y e))),
            subst (λ (one : Fact). test one ≡ true) same (on y),
          )

      pub first : ((x : A) → test (f x) ≡ true) → ((y : B) → test (g y) ≡ false) →
          latest test facts ≡ option_map f a
      first on off = look_up (option_map f a)
          (λ fact among passes. first_comes fact off passes (parts fact among))
          (λ fact e. first_there a refl fact on e)

      pub second : ((x : A) → test (f x) ≡ false) → ((y : B) → test (g y) ≡ true) →
          latest test facts ≡ option_map g b
      second off on = look_up (option_map g b)
          (λ fact among passes. second_comes fact off passes (parts fact among))
          (λ fact e. second_there b refl fact on e)
