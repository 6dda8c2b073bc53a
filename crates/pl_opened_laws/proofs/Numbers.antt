-- The numbers of the facts are those of the row that told them.
use Rattle.std.proofs.Common.{◌≡◌, ℕ, ◌≤◌, ◌+◌, nat_lt, max, min, Bool, true, false, true≢false, List}
use Rattle.std.proofs.Common.{[], ◌∷◌, length, drop, Option, Some, None, refl, sym, ap, subst, ◌∙◌}
use Rattle.std.proofs.Common.{arith}
use Rattle.std.proofs.Math.Seq.{drop-length}
use Rattle.std.proofs.lemmas.Bool.{lt-ltb, ltb-false}
use Rattle.std.specs.Option.{option_and_then, option_map, option_map_or}
use Rattle.std.specs.Prelude.{count_by}
use Rattle.pl_base.specs.declared.digest.Digest.{Digest}
use Rattle.pl_base.specs.declared.row.Row.{Row}
use Rattle.pl_changes.specs.Differing.{row_in}
use Rattle.pl_changes.proofs.Places.{if_true}
use Rattle.pl_facts.specs.Sizes.{counted}
use Rattle.pl_facts.specs.declared.fact.Event.{Event}
use Rattle.pl_facts.specs.declared.fact.Event.TheVariants as event
use Rattle.pl_facts.specs.declared.fact.Fact.{Fact}
use Rattle.pl_journal.specs.About.{is_also_about}
use Rattle.pl_journal.specs.Kinds.{is_file_change}
use Rattle.pl_journal.specs.Log.{last_moment, last_run, version}
use Rattle.pl_journal.specs.Runs.{number_told}
use Rattle.pl_journal.specs.Settings.{by}
use Rattle.pl_keeper.specs.Rows.{row_of}
use Rattle.pl_keeper.specs.declared.records.KeptRun.{KeptRun}
use Rattle.pl_keeper.specs.declared.records.Meta.{Meta}
use Rattle.pl_keeper.specs.declared.records.Record.{Record}
use Rattle.pl_keeper.specs.declared.records.Record.TheVariants as kept
use Rattle.pl_kept.specs.Kept.{numbers_kept, Where, Run}
use Rattle.pl_log.specs.Keys.{Queue}
use Rattle.pl_log.specs.Latest.{latest}
use Rattle.pl_opened.specs.Opened.{number_of, IsOpened}
use Rattle.pl_opened_laws.specs.Laws.{begun}
use Rattle.pl_torn.specs.Looking.{meta_told}
use Rattle.pl_torn.specs.Plans.{is_above}
use Rattle.pl_torn.specs.Seen.{meta_in, seen_at}
use Rattle.pl_torn.specs.declared.seen.Seen.{Seen}
use Rattle.pl_seeing.specs.Seeing.{AreSeen}
use Rattle.pl_opened_laws.proofs.Fitting.{fact_fit, tell_all}
use Rattle.pl_opened_laws.proofs.Good.{tell_numbers, TellNumbers}
use Rattle.pl_opened_laws.proofs.Known.{keeps_of, AreOpened, IsOf}
use Rattle.pl_opened_laws.proofs.Lists.{latest_in, never_some, some_is, In}
use Rattle.pl_opened_laws.proofs.Runs.{run_of, run_whole}
use Rattle.pl_opened_laws.proofs.Standing.{row_seen, seen_is}
use Rattle.pl_opened_laws.proofs.Telling.{fact_told, is_told, where_told}

-- who has a number is a run that was queued
number_where : (one : Event) (run : ℕ) → number_told one ≡ Some run → where_told one ≡ Run run
number_where (event.RunQueued told) run e = ap Run (some_is told.run run e)
number_where _ run e = absurd (never_some run (sym e))

-- the record of the numbers, where that was told
numbers_by : (o : Option Record) (numbers : Meta) → option_and_then meta_in o ≡ Some numbers →
    o ≡ Some (kept.Meta numbers)
numbers_by None numbers e = absurd (never_some numbers (sym e))
numbers_by (Some (kept.Meta told)) numbers e =
    ap (λ (m : Meta). Some (kept.Meta m)) (some_is told numbers e)
numbers_by (Some _) numbers e = absurd (never_some numbers (sym e))

-- the row of the numbers
record IsNumbersRow (all : List Seen) (numbers : Meta) : Type 0 where
  one : Seen
  found : seen_at (0, []) all ≡ Some one
  is : one.kept ≡ Some (kept.Meta numbers)

numbers_row : (all : List Seen) (numbers : Meta) (o : Option Seen) → seen_at (0, []) all ≡ o →
    option_and_then meta_in (option_and_then (λ (s : Seen). s.kept) o) ≡ Some numbers →
    IsNumbersRow all numbers
numbers_row all numbers None found e = absurd (never_some numbers (sym e))
numbers_row all numbers (Some one) found e =
    record { one = one; found = found; is = numbers_by one.kept numbers e }

no_more : (facts : List Fact) (n : ℕ) → n ≤ 18446744073709551615 →
    counted (n + count_by (λ (fact : Fact). is_file_change fact.event) (drop (length facts) facts)) ≡
    n
no_more facts n within =
    ap (λ (some : List Fact). counted (n + count_by (λ fact. is_file_change fact.event) some))
    (drop-length facts) ∙ omega (arith, within)

module _ {admin : Digest} {rows : List Row} {all : List Seen} {facts : List Fact}
    (opens : AreOpened admin rows all facts) (tell : TellNumbers all) where
  abbrev numbers : Meta
  numbers = tell.numbers

  moment_by : (o : Option Fact) → latest (λ _. true) facts ≡ o →
      option_map_or (λ (fact : Fact). max numbers.moment fact.moment) o numbers.moment ≡
      numbers.moment
  moment_by None is = refl
  moment_by (Some fact) is =
      let found = latest_in (λ _. true) facts fact is in
      let one = fact_fit opens tell fact found.0 in
      omega (arith, one.moment)

  -- a run of the facts isn't above the last one
  pub not_above : (run : ℕ) → IsOf all (Run run) → run ≤ numbers.run
  not_above run row =
      let told = run_of row.told run row.here in
      let whole = run_whole opens row.one row.there told.one (row.is ∙ ap Some told.is) in
      let below : nat_lt numbers.run told.one.run ≡ false =
      ap (λ (o : Option Meta). is_above o told.one) (sym tell.told) ∙ whole.1 in
      subst (λ (r : ℕ). r ≤ numbers.run) told.same (ltb-false numbers.run told.one.run below)

  run_by : (o : Option Fact) → latest (is_also_about Queue) facts ≡ o →
      (n : Option ℕ) → by number_told o ≡ n →
      option_map_or (λ run. max numbers.run run) n numbers.run ≡ numbers.run
  run_by o is None e = refl
  run_by None is (Some run) e = absurd (never_some run (sym e))
  run_by (Some fact) is (Some run) e =
      let found = latest_in (is_also_about Queue) facts fact is in
      let row = fact_told all facts opens.are fact found.0 in
      let other = is_told row.one fact row.among in
      let below : run ≤ numbers.run = not_above run (record {
        one = row.one;
        there = row.there;
        told = other.told;
        is = other.is;
        here = other.here ∙ ap Some (number_where fact.event run e);
      }) in
      omega (arith, below)

  pub numbers_again : row_in (0, []) rows ≡ option_map row_of (numbers_kept numbers.change
      (begun admin numbers.moment numbers.run numbers.version facts))
  numbers_again =
      let log = begun admin numbers.moment numbers.run numbers.version facts in
      let row = numbers_row all numbers (seen_at (0, []) all) refl tell.told in
      let there = (seen_is (0, []) all row.one row.found).0 in
      let here : row_in (0, []) rows ≡ Some (row_of (kept.Meta numbers)) =
      row_seen (0, []) rows all opens.seen ∙
      ap (option_map (λ (s : Seen). s.row.now)) row.found ∙
      ap Some (keeps_of opens row.one there (kept.Meta numbers) row.is).same in
      let moment : last_moment log ≡ numbers.moment =
      moment_by (latest (λ _. true) facts) refl in
      let run : last_run log ≡ numbers.run = run_by (latest (is_also_about Queue) facts) refl
      (by number_told (latest (is_also_about Queue) facts)) refl in
      let files : counted (version log) ≡ numbers.version =
      no_more facts numbers.version (omega (arith, tell.within.version)) in
      let some : nat_lt 0 numbers.change ≡ true =
      lt-ltb 0 numbers.change (omega (arith, tell.within.change)) in
      here ∙ sym (ap (option_map row_of) (if_true (nat_lt 0 numbers.change)
      (Some (kept.Meta (record {
        moment = last_moment log;
        run = last_run log;
        version = counted (version log);
        change = numbers.change;
      }))) None some) ∙
      ap (λ (m : ℕ). Some (row_of (kept.Meta (record {
        moment = m;
        run = last_run log;
        version = counted (version log);
        change = numbers.change;
      })))) moment ∙
      ap (λ (r : ℕ). Some (row_of (kept.Meta (record {
        moment = numbers.moment;
        run = r;
        version = counted (version log);
        change = numbers.change;
      })))) run ∙
      ap (λ (v : ℕ). Some (row_of (kept.Meta (record {
        moment = numbers.moment;
        run = numbers.run;
        version = v;
        change = numbers.change;
      })))) files)

-- ---- of rows, or of none

abbrev NumbersAgain : Digest → List Row → ℕ → ℕ → ℕ → ℕ → List Fact → Type 0
NumbersAgain admin rows moment run version change facts =
    row_in (0, []) rows ≡ option_map row_of (numbers_kept change
    (begun admin moment run version facts))

pub numbers_of_all : (admin : Digest) (rows : List Row) (all : List Seen)
    (moment run version change : ℕ) (facts : List Fact) → AreOpened admin rows all facts →
    IsOpened admin all moment run version change facts →
    NumbersAgain admin rows moment run version change facts
numbers_of_all admin [] [] moment run version change facts opens is =
    ap (λ (n : ℕ). option_map row_of (numbers_kept n (begun admin moment run version facts)))
    (sym is.change_is)
numbers_of_all admin (row ∷ rows) [] moment run version change facts opens is =
    absurd opens.seen
numbers_of_all admin rows (one ∷ all) moment run version change facts opens is =
    let tell = tell_numbers admin rows one all opens.seen opens.none in
    let numbers = tell.numbers in
    let moment_is : numbers.moment ≡ moment = sym (is.moment_is ∙
    ap (λ (o : Option Meta). option_map_or (λ (told : Meta). told.moment) o 0) tell.told) in
    let run_is : numbers.run ≡ run = sym (is.run_is ∙
    ap (λ (o : Option Meta). option_map_or (λ (told : Meta). told.run) o 0) tell.told) in
    let version_is : numbers.version ≡ version = sym (is.version_is ∙
    ap (λ (o : Option Meta). option_map_or (λ (told : Meta). told.version) o 0) tell.told) in
    let change_is : numbers.change ≡ change = sym (is.change_is ∙
    ap (λ (o : Option Meta). option_map_or (λ (told : Meta). told.change) o 0) tell.told) in
    subst (λ (c : ℕ). NumbersAgain admin rows moment run version c facts) change_is
    (subst (λ (v : ℕ). NumbersAgain admin rows moment run v numbers.change facts) version_is
    (subst (λ (r : ℕ). NumbersAgain admin rows moment r numbers.version numbers.change facts)
    run_is
    (subst (λ (m : ℕ). NumbersAgain admin rows m numbers.run numbers.version numbers.change facts)
    moment_is (numbers_again opens tell))))

pub change_within : (admin : Digest) (rows : List Row) (all : List Seen) (change : ℕ) →
    {facts : List Fact} → AreOpened admin rows all facts →
    change ≡ number_of (λ told. told.change) all → change ≤ 999999999999999999
change_within admin rows [] change opens is = omega (arith, is)
change_within admin rows (one ∷ all) change opens is =
    let tell = tell_numbers admin rows one all opens.seen opens.none in
    let here : change ≡ tell.numbers.change = is ∙
    ap (λ (o : Option Meta). option_map_or (λ (told : Meta). told.change) o 0) tell.told in
    omega (arith, here, tell.within.last)
