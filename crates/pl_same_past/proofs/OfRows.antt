-- What is opened of the rows of a past is a past that keeps the same.
use Rattle.std.proofs.Common.{◌≡◌, ◌≤◌, ◌<◌, ◌^◌, ◌&&◌, ℕ, nat_lt, min, max, Bool, true, false, List}
use Rattle.std.proofs.Common.{[], Option, Some, None, if◌then◌else◌, refl, sym, ap, subst, ◌∙◌, arith}
use Rattle.std.specs.List.{AllByRecursion}
use Rattle.std.specs.Option.{option_and_then, option_map_or}
use Rattle.std.specs.Prelude.{IfSome}
use Rattle.pl_base.specs.declared.digest.Digest.{Digest}
use Rattle.pl_base.specs.declared.row.Row.{Row}
use Rattle.pl_opening_laws.specs.Below.pl_opening.specs.Below.pl_core.specs.Rows.{AreKept}
use Rattle.pl_opening_laws.specs.Below.pl_opening.specs.Below.pl_core.specs.State.{opened_state}
use Rattle.pl_facts.specs.Sizes.{counted}
use Rattle.pl_facts.specs.declared.entry.Entry.{Entry}
use Rattle.pl_facts.specs.declared.fact.Event.{Event}
use Rattle.pl_facts.specs.declared.fact.Event.TheVariants as event
use Rattle.pl_facts.specs.declared.fact.Fact.{Fact}
use Rattle.pl_never_torn.specs.Below.pl_history.specs.Access.{IsSound}
use Rattle.pl_never_torn.specs.Below.pl_history.specs.Claims.{IsOrderly}
use Rattle.pl_never_torn.specs.Below.pl_history.specs.History.{held_of, log_of, next_change, Opening}
use Rattle.pl_never_torn.specs.Below.pl_history.proofs.Standing.{first_facts}
use Rattle.pl_journal.specs.About.{is_about, is_also_about, latest_also}
use Rattle.pl_journal.specs.Kinds.{is_queueing}
use Rattle.pl_journal.specs.Log.{last_moment, last_run, version, Log}
use Rattle.pl_journal.specs.Runs.{number_told}
use Rattle.pl_journal.specs.Settings.{by}
use Rattle.pl_keeper.specs.Rows.{IsKept}
use Rattle.pl_keeper.specs.declared.records.Meta.{Meta}
use Rattle.pl_keeper.specs.declared.records.Record.{Record}
use Rattle.pl_keeper.specs.declared.records.Record.TheVariants as kept
use Rattle.pl_kept.specs.Kept.{kept_at, numbers_kept, Where}
use Rattle.pl_log.specs.Keys.{Queue}
use Rattle.pl_log.specs.Keys as key
use Rattle.pl_log.specs.Latest.{latest}
use Rattle.pl_leg_limits.specs.Alike.{LegsAreAlike}
use Rattle.pl_never_torn.specs.Holders.{HoldOne}
use Rattle.pl_never_torn.specs.Jobs.{AreJobsInTime, AreSaid}
use Rattle.pl_never_torn.specs.Legs.{HaveRoom}
use Rattle.pl_never_torn.specs.Own.{AreOwn}
use Rattle.pl_never_torn.specs.Owners.{AreApart}
use Rattle.pl_never_torn.specs.Planned.{ArePlanned}
use Rattle.pl_never_torn.specs.Stages.{AreInTime}
use Rattle.pl_never_torn.specs.Standing.{HasStood}
use Rattle.pl_never_torn.proofs.Deciding.{planned_all}
use Rattle.pl_never_torn.proofs.Holding.{one_is_there}
use Rattle.pl_never_torn.proofs.Late.{latest_has}
use Rattle.pl_never_torn.proofs.Legs.{room_all, Roomed}
use Rattle.pl_never_torn.proofs.Owners.{apart_all}
use Rattle.pl_never_torn.proofs.Stages.{in_time_all}
use Rattle.pl_never_torn.proofs.First.{admin_is, first_apart, first_sound}
use Rattle.pl_never_torn.proofs.Staying.{Laws}
use Rattle.pl_opened.specs.Opened.{IsOpened}
use Rattle.pl_opening_laws.specs.Below.pl_opening.specs.Below.pl_opened_laws.proofs.Fitting.{fact_fit, tell_all}
use Rattle.pl_opening_laws.specs.Below.pl_opening.specs.Below.pl_opened_laws.proofs.Known.{keeps_of, AreOpened}
use Rattle.pl_opening_laws.specs.Below.pl_opening.specs.Below.pl_opened_laws.proofs.Lists.{in_each}
use Rattle.pl_opening_laws.specs.Below.pl_opening.specs.Below.pl_opened_laws.proofs.Opening.{moment_fits}
use Rattle.pl_opening_laws.specs.Below.pl_opening.specs.Below.pl_opened_laws.proofs.Standing.{seen_is}
use Rattle.pl_opening_laws.specs.Below.pl_opening.specs.Below.pl_opened_laws.proofs.Telling.{fact_told}
use Rattle.pl_same.specs.Same.{AreTheirs, KeepTheSame}
use Rattle.pl_same_step.specs.Below.pl_same_lookups.specs.Alike.{LookAlike}
use Rattle.pl_same_step.specs.Below.pl_same_lookups.proofs.Finding.{never, same_some}
use Rattle.pl_same_past.specs.Past.{AreSame, IsPast}
use Rattle.pl_same_past.proofs.Keeping.{look_alike, IsBased}
use Rattle.pl_same_past.proofs.Pasts.{based, told_of}
use Rattle.pl_same_past.proofs.Fine.{are_free, are_own}
use Rattle.pl_same_past.proofs.Rising.{facts_rise, none_later}
use Rattle.pl_same_past.proofs.Roots.{are_rooted, ended_once, taken_planned}
use Rattle.pl_same_past.proofs.Standing.{apart_moved, holds_moved, in_time_moved, jobs_moved}
use Rattle.pl_same_past.proofs.Standing.{planned_moved, room_moved, said_moved}
use Rattle.pl_same_step.proofs.Queued.{queues}
use Rattle.pl_never_torn.specs.Below.pl_sources.specs.Again.{CompilesToOne, SourcesCompileAgain}
use Rattle.pl_torn.specs.Looking.{meta_told}
use Rattle.pl_torn.specs.Seen.{meta_in, seen_at}
use Rattle.pl_torn.specs.declared.seen.Seen.{Seen}

-- what the rows of one past keep of another is the same
abbrev pub SameKept : Type 0
SameKept = (rows : List Row) (change : ℕ) (log : Log) (other_change : ℕ) (other : Log) →
    AreTheirs change log rows → AreTheirs other_change other rows →
    KeepTheSame change log other_change other

counted_small : (n : ℕ) → counted n < 2 ^ 64
counted_small n = omega arith

-- the numbers of a journal behind whose opening nothing has happened
moment_by : (opened : Opening) (o : Option Fact) →
    latest (λ _. true) (log_of opened []).facts ≡ o → last_moment (log_of opened [])
    ≡ option_map_or (λ (fact : Fact). max opened.moment fact.moment) o opened.moment
unfolding log_of
moment_by opened o e = ap (λ (p : Option Fact).
    option_map_or (λ (fact : Fact). max opened.moment fact.moment) p opened.moment) e

run_by : (opened : Opening) (o : Option Fact) → latest_also Queue (log_of opened []).facts ≡ o →
    last_run (log_of opened [])
    ≡ option_map_or (λ run. max opened.run run) (by number_told o) opened.run
unfolding log_of
run_by opened o e = ap (λ (p : Option Fact).
    option_map_or (λ run. max opened.run run) (by number_told p) opened.run) e

-- the row of the numbers
numbers_in : (o : Option Record) (numbers : Meta) → option_and_then meta_in o ≡ Some numbers →
    o ≡ Some (kept.Meta numbers)
numbers_in None numbers e = absurd (never numbers e)
numbers_in (Some (kept.Meta told)) numbers e =
    ap (λ (m : Meta). Some (kept.Meta m)) (same_some told numbers e)
numbers_in (Some _) numbers e = absurd (never numbers e)

run_fits : {admin : Digest} {rows : List Row} {all : List Seen} {facts : List Fact} →
    AreOpened admin rows all facts → (o : Option Meta) → meta_told all ≡ o →
    option_map_or (λ (told : Meta). told.run) (meta_told all) 0 < 2 ^ 64
run_fits {all = all} opens None e =
    let none : 0 < 2 ^ 64 = omega arith in
    subst (λ (o : Option Meta). option_map_or (λ (told : Meta). told.run) o 0 < 2 ^ 64) (sym e) none
run_fits {all = all} opens (Some numbers) e = subst (λ (o : Option Meta).
    option_map_or (λ (told : Meta). told.run) o 0 < 2 ^ 64) (sym e)
    (by_row (seen_at (0, []) all) refl e)
  where
    by_row : (o : Option Seen) → seen_at (0, []) all ≡ o →
        option_and_then meta_in (option_and_then (λ (s : Seen). s.kept) o) ≡ Some numbers →
        numbers.run < 2 ^ 64
    by_row None found f = absurd (never numbers f)
    by_row (Some one) found f = (keeps_of opens one (seen_is (0, []) all one found).0
        (kept.Meta numbers) (numbers_in one.kept numbers f)).fits.1.0

module _ (laws : Laws) (again : SourcesCompileAgain) (one_thing : CompilesToOne)
    (legs : LegsAreAlike) (opening : Opening) (entries : List Entry)
    (is : IsPast opening entries) (opened : Opening) (rows : List Row) (all : List Seen)
    (opens : AreOpened opening.admin rows all opened.facts)
    (from : IsOpened opening.admin all opened.moment opened.run opened.version opened.change
    opened.facts) (admin_same : opened.admin ≡ opening.admin) (sound : IsSound opened)
    (orderly : IsOrderly opened) where
  abbrev left : Log
  left = log_of opening entries

  right_based : IsBased opened.facts
  right_based = record {
    own = are_own opens;
    taken = taken_planned opens;
    rooted = are_rooted opens;
  }

  -- ---- the numbers of what was opened

  none_past : AllByRecursion (λ (fact : Fact). fact.moment ≤ opened.moment) opened.facts
  none_past = in_each (λ (fact : Fact). fact.moment ≤ opened.moment) opened.facts (λ fact among.
      let by = fact_told all opened.facts opens.are fact among in
      let tell = tell_all opening.admin rows all opens.seen opens.none by.one by.there in
      let one = fact_fit opens tell fact among in
      let here : opened.moment ≡ tell.numbers.moment = from.moment_is
      ∙ ap (λ (o : Option Meta). option_map_or (λ (told : Meta). told.moment) o 0) tell.told in
      omega (arith, here, one.moment))

  moment_small : last_moment (log_of opened []) < 2 ^ 64
  moment_small = small (latest (λ _. true) (log_of opened []).facts) refl where
    past : (fact : Fact) → latest (λ _. true) (log_of opened []).facts ≡ Some fact →
        fact.moment ≤ opened.moment
    past fact e = latest_has (λ (it : Fact). it.moment ≤ opened.moment) (λ _. true)
        opened.facts fact none_past
        (ap (λ (fs : List Fact). latest (λ _. true) fs) (sym (first_facts opened)) ∙ e)

    fits : opened.moment ≤ 4102444799
    fits = subst (λ n. n ≤ 4102444799) (sym from.moment_is)
        (moment_fits opening.admin rows all opens.seen opens.none)

    small : (o : Option Fact) → latest (λ _. true) (log_of opened []).facts ≡ o →
        last_moment (log_of opened []) < 2 ^ 64
    small None e =
        let few : opened.moment < 2 ^ 64 = omega (arith, fits) in
        subst (λ n. n < 2 ^ 64) (sym (moment_by opened None e)) few
    small (Some fact) e =
        let few : max opened.moment fact.moment < 2 ^ 64 = omega (arith, fits, past fact e) in
        subst (λ n. n < 2 ^ 64) (sym (moment_by opened (Some fact) e)) few

  run_small : last_run (log_of opened []) < 2 ^ 64
  run_small = small (latest_also Queue (log_of opened []).facts) refl where
    fits : opened.run < 2 ^ 64
    fits = subst (λ n. n < 2 ^ 64) (sym from.run_is) (run_fits opens (meta_told all) refl)

    -- a run that was queued isn't above the last one
    below : (fact : Fact) → latest_also Queue (log_of opened []).facts ≡ Some fact → (run : ℕ) →
        number_told fact.event ≡ Some run → run ≤ opened.run
    below fact e run told = sound.numbers run (one_is_there (is_also_about Queue)
        (λ it. is_about (key.Run run) it && is_queueing it.event) opened.facts fact
        (ap (λ (fs : List Fact). latest (is_also_about Queue) fs) (sym (first_facts opened)) ∙ e)
        (queues fact.event run told))

    small_by : (fact : Fact) → latest_also Queue (log_of opened []).facts ≡ Some fact →
        (n : Option ℕ) → number_told fact.event ≡ n →
        option_map_or (λ run. max opened.run run) n opened.run < 2 ^ 64
    small_by fact e None told = fits
    small_by fact e (Some run) told =
        let few : max opened.run run < 2 ^ 64 = omega (arith, fits, below fact e run told) in few

    small : (o : Option Fact) → latest_also Queue (log_of opened []).facts ≡ o →
        last_run (log_of opened []) < 2 ^ 64
    small None e = subst (λ n. n < 2 ^ 64) (sym (run_by opened None e)) fits
    small (Some fact) e = subst (λ n. n < 2 ^ 64) (sym (run_by opened (Some fact) e))
        (small_by fact e (number_told fact.event) refl)

  numbers_fit : (change : ℕ) → change < 2 ^ 64 →
      IfSome (numbers_kept change (log_of opened [])) IsKept
  numbers_fit change few = go (nat_lt 0 change) where
    go : (b : Bool) → IfSome (if b then Some (told_of change (log_of opened [])) else None) IsKept
    go false = tt
    go true = (moment_small, (run_small, (counted_small (version (log_of opened [])), few)))

  -- ---- it stands as the past does

  module _ (each : (here : Where) → kept_at here left.facts ≡ kept_at here opened.facts) where
    look : LookAlike left.facts opened.facts
    look = look_alike one_thing left.facts opened.facts (based laws opening entries is again)
        right_based each

    roomed : Roomed left
    roomed = room_all again legs laws opening entries is.stood.orderly is.stood.later (
      (
        (
          first_sound opening is.stood.sound,
          subst AreSaid (sym (first_facts opening)) is.stood.said,
          subst AreJobsInTime (sym (first_facts opening)) is.stood.jobs,
        ),
        subst HoldOne (sym (first_facts opening)) is.stood.holds,
      ),
      subst AreOwn (sym (first_facts opening)) is.stood.own,
      subst HaveRoom (sym (first_facts opening)) is.stood.room,
    ) is.legal

    apart : AreApart opened.admin opened.facts
    apart = subst (λ (who : Digest). AreApart who opened.facts)
        (admin_is opening entries ∙ sym admin_same)
        (apart_moved left.facts opened.facts look left.admin
        (apart_all laws opening entries is.stood.orderly is.stood.later
        (first_apart opening is.stood.apart) is.legal))

    stands : HasStood opened
    stands = record {
      later = none_later opening.admin rows all opened opens from;
      free = are_free opens;
      apart = apart;
      sound = sound;
      planned = planned_moved left.facts opened.facts look
          (planned_all laws opening entries is.stood.orderly is.stood.later (
            first_sound opening is.stood.sound,
            subst ArePlanned (sym (first_facts opening)) is.stood.planned,
          ) is.legal).1;
      in_time = in_time_moved left.facts opened.facts look
          (in_time_all laws opening entries is.stood.orderly is.stood.later (
            first_sound opening is.stood.sound,
            subst AreInTime (sym (first_facts opening)) is.stood.in_time,
          ) is.legal).1;
      own = are_own opens;
      orderly = orderly;
      said = said_moved left.facts opened.facts look roomed.0.0.1 (ended_once opens);
      jobs = jobs_moved left.facts opened.facts look roomed.0.0.2;
      holds = holds_moved left.facts opened.facts look roomed.0.1
          (facts_rise all opened.facts from.are) (are_rooted opens).once;
      room = room_moved left.facts opened.facts look roomed.2;
    }

  -- ---- so the two are the same

  pub are_same : SameKept → (change : ℕ) (numbers : Meta) → AreTheirs change left rows →
      numbers_kept change left ≡ Some (kept.Meta numbers) → AreKept (opened_state opened) rows →
      AreSame opening entries opened []
  are_same same_kept change numbers theirs told own =
      let its : ℕ = (held_of opened []).change in
      let few : its < 2 ^ 64 = counted_small (next_change opened []) in
      let keep : KeepTheSame change left its (log_of opened []) = same_kept rows change left its
      (log_of opened []) theirs
      (record { fit = own.fit; numbers = numbers_fit its few; are = own.rows_are }) in
      record {
        one = is;
        two = record {
          stood = stands (λ here. keep.each here
              ∙ ap (λ (facts : List Fact). kept_at here facts) (first_facts opened));
          rooted = are_rooted opens;
          legal = tt;
        };
        admin = sym admin_same;
        change = change;
        their_change = its;
        keep = keep;
        numbers = numbers;
        counted = told;
      }
