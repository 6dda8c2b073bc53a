-- No row is of one leg more than may be held at once.
use Rattle.std.proofs.Common.{◌≡◌, ◌≤◌, ◌<◌, ◌+◌, ◌&&◌, ◌==◌, ◌⊎◌, inl, inr, ℕ, nat_eq, nat_le}
use Rattle.std.proofs.Common.{Bool}
use Rattle.std.proofs.Common.{true, false, true≢false, List, [], ◌∷◌, ◌++◌, length, Option, Some}
use Rattle.std.proofs.Common.{None}
use Rattle.std.proofs.Common.{cond, refl, sym, ap, subst, ◌∙◌, arith}
use Rattle.std.proofs.lemmas.Bool.Decides.{nat_tests}
use Rattle.std.proofs.lemmas.Option.{slice_get_within}
use Rattle.std.specs.List.{count_by, range_with_len, AllByRecursion}
use Rattle.std.specs.Option.{option_and_then, option_map_or}
use Rattle.std.specs.Ordering.{is_eq}
use Rattle.std.specs.Prelude.{is_some, slice_get, if◌then◌else◌}
use Rattle.pl_base.specs.Files.{text_cmp}
use Rattle.pl_base.specs.Texts.{is}
use Rattle.pl_base.specs.declared.row.Row.{Row}
use Rattle.pl_changes.specs.Differing.{Ascend}
use Rattle.pl_changes.proofs.Leading.{none_some}
use Rattle.pl_facts.specs.declared.fact.Fact.{Fact}
use Rattle.pl_facts.specs.declared.fact.QueuedRun.{QueuedRun}
use Rattle.pl_plan.specs.declared.plan.PlanJob.{PlanJob}
use Rattle.pl_plan.specs.declared.plan.PlanStage.{PlanStage}
use Rattle.pl_granting.specs.Below.pl_due.proofs.Standing.{first_of_two, second_of_two}
use Rattle.pl_granting.specs.Named.{IsJobOf, JobOf}
use Rattle.pl_granting.specs.Rules.{legs_taken}
use Rattle.pl_journal.specs.Log.{Log}
use Rattle.pl_journal.specs.Runs.{holding, job_end, queueing, run_told, taking}
use Rattle.pl_journal.specs.Settings.{by}
use Rattle.pl_keeper.specs.Keeping.{comes_before}
use Rattle.pl_keeper.specs.declared.records.KeptJob.{KeptJob}
use Rattle.pl_keeper.specs.declared.records.Meta.{Meta}
use Rattle.pl_keeper.specs.declared.records.Record.{Record}
use Rattle.pl_keeper.specs.declared.records.Record.TheVariants as kept
use Rattle.pl_kept.specs.Kept.{kept_at, numbers_kept, Where, Job}
use Rattle.pl_log.proofs.Naming.{second_itself}
use Rattle.pl_log.specs.Keys.{Taker}
use Rattle.pl_places.specs.Places.{place_at}
use Rattle.pl_torn.specs.Holding.{holder, is_held_leg, is_leg_of, is_leg_too_many}
use Rattle.pl_torn.specs.Seen.{job_in}
use Rattle.pl_torn.specs.declared.seen.Seen.{Seen}
use Rattle.pl_reread.specs.Reread.{AreTheNumbers, AreToldBy, IsToldAt}
use Rattle.pl_reread.proofs.Rereading.{rows_in}
use Rattle.pl_never_torn.specs.Jobs.{AreJobsInTime}
use Rattle.pl_never_torn.specs.Legs.{HaveRoom}
use Rattle.pl_never_torn.proofs.Counting.{have_places, many, many_inside, many_is, Apart, Placed}
use Rattle.pl_never_torn.proofs.HeldRows.{planned_at}
use Rattle.pl_never_torn.proofs.HolderRows.{holds_so}
use Rattle.pl_never_torn.proofs.Leaving.{is_numbers, job_there, job_where, not_itself}
use Rattle.pl_never_torn.proofs.Leaving.{LeaveNothingOfLegs, SaysNothingOfLegs}
use Rattle.pl_never_torn.proofs.Legs.{holding_is, is_leg}
use Rattle.pl_never_torn.proofs.Owners.{same_ties}

-- ---- what the row of a leg tells

-- whether the record is of a held leg
abbrev leg_in : PlanStage → PlanJob → KeptJob → Option Record → Bool
leg_in planned job told o = option_map_or
    (λ other. is_some (holder other) && ((other.run == told.run && other.stage == told.stage) &&
    is_leg_of planned job other.position)) (option_and_then job_in o) false

record IsLeg (planned : PlanStage) (job : PlanJob) (told : KeptJob) (one : Seen) : Type 0 where
  also : KeptJob
  kept_is : one.kept ≡ Some (kept.Job also)
  held : is_some (holder also) ≡ true
  of_run : also.run ≡ told.run
  of_stage : also.stage ≡ told.stage
  of_job : is_leg_of planned job also.position ≡ true

leg_tells : (planned : PlanStage) (job : PlanJob) (told : KeptJob) (one : Seen) →
    is_held_leg planned job told one ≡ true → IsLeg planned job told one
leg_tells planned job told one is = by_kept one.kept refl is where
  by_record : (it : Record) → one.kept ≡ Some it → leg_in planned job told (Some it) ≡ true →
      IsLeg planned job told one
  by_record (kept.Job also) e h =
      let rest = second_of_two (is_some (holder also))
      ((also.run == told.run && also.stage == told.stage) &&
      is_leg_of planned job also.position) h in
      let places = first_of_two (also.run == told.run && also.stage == told.stage)
      (is_leg_of planned job also.position) rest in
      let run = first_of_two (also.run == told.run) (also.stage == told.stage) places in
      let stage = second_of_two (also.run == told.run) (also.stage == told.stage) places in
      record {
        also = also;
        kept_is = e;
        held = first_of_two (is_some (holder also))
            ((also.run == told.run && also.stage == told.stage) &&
            is_leg_of planned job also.position) h;
        of_run = grind (arith, nat_tests, run);
        of_stage = grind (arith, nat_tests, stage);
        of_job = second_of_two (also.run == told.run && also.stage == told.stage)
            (is_leg_of planned job also.position) rest;
      }
  by_record _ e h = absurd (true≢false (sym h))

  by_kept : (o : Option Record) → one.kept ≡ o → leg_in planned job told o ≡ true →
      IsLeg planned job told one
  by_kept None e h = absurd (true≢false (sym h))
  by_kept (Some it) e h = by_record it e h

-- the place of a row's job among those of its stage
abbrev place_in : Option Record → ℕ
place_in o = option_map_or (λ other. other.position) (option_and_then job_in o) 0

abbrev place_of : Seen → ℕ
place_of one = place_in one.kept

-- a planned job of that name
record IsNamed (planned : PlanStage) (job : PlanJob) (at : ℕ) : Type 0 where
  one : PlanJob
  there : slice_get planned.jobs at ≡ Some one
  named : is one.name job.name ≡ true

named_so : (planned : PlanStage) (job : PlanJob) (at : ℕ) → is_leg_of planned job at ≡ true →
    IsNamed planned job at
named_so planned job at is_leg = go (slice_get planned.jobs at) refl where
  go : (o : Option PlanJob) → slice_get planned.jobs at ≡ o → IsNamed planned job at
  go None e = absurd (true≢false (sym is_leg ∙ ap (λ (o : Option PlanJob).
      option_map_or (λ other. is_eq (text_cmp other.name job.name)) o false) e))
  go (Some one) e = record {
    one = one;
    there = e;
    named = same_ties one.name job.name ∙ (sym (ap (λ (o : Option PlanJob).
        option_map_or (λ other. is_eq (text_cmp other.name job.name)) o false) e) ∙ is_leg);
  }

-- ---- the rows of a state

module _ (change : ℕ) (log : Log) (numbers : Meta) (all : List Seen)
    (is_told : AreToldBy change log all) (ascend : Ascend (rows_in all))
    (counted : numbers_kept change log ≡ Some (kept.Meta numbers))
    (jobs : AreJobsInTime log.facts) (room : HaveRoom log.facts) where
  abbrev Own : Seen → Type 0
  Own one = AreTheNumbers change log one ⊎ IsToldAt log one

  -- whoever holds a job by its row holds it
  held_so : (told : KeptJob) → kept_at (Job told.run told.stage told.position) log.facts ≡
      Some (kept.Job told) → is_some (holder told) ≡ true →
      is_some (holding told.run told.stage told.position log.facts) ≡ true
  held_so told there held = go (holder told) refl where
    go : (o : Option (List ℕ)) → holder told ≡ o →
        is_some (holding told.run told.stage told.position log.facts) ≡ true
    go None h = absurd (true≢false (sym held ∙ ap is_some h))
    go (Some agent) h =
        let its = holds_so log.facts told agent there h in
        ap is_some (holding_is log.facts jobs told.run told.stage told.position)
        ∙ (ap (λ (o : Option Fact). is_some (if is_some o then None
        else taking told.run told.stage told.position log.facts)) its.unended
        ∙ ap is_some its.is)

  module _ (told : KeptJob) (planned : PlanStage) (job : PlanJob) where
    abbrev leg : Seen → Bool
    leg one = is_held_leg planned job told one

    abbrev is_taken : ℕ → Bool
    is_taken at = is_leg log.facts told.run told.stage planned job.name at

    its_row : (one : Seen) (also : KeptJob) → one.kept ≡ Some (kept.Job also) → Own one →
        IsToldAt log one
    its_row one also e (inl first) =
        absurd (true≢false (ap (λ (o : Option Record). option_map_or is_numbers o true)
        (sym (first.told ∙ counted) ∙ e)))
    its_row one also e (inr at) = at

    kept_so : (one : Seen) (also : KeptJob) → one.kept ≡ Some (kept.Job also) →
        (at : IsToldAt log one) → kept_at at.here log.facts ≡ Some (kept.Job also)
    kept_so one also e at = sym at.told ∙ e

    placed_one : (one : Seen) → Own one → leg one ≡ true →
        (place_of one < length planned.jobs) × (is_taken (place_of one) ≡ true)
    placed_one one own is_leg =
        let its = leg_tells planned job told one is_leg in
        let at = its_row one its.also its.kept_is own in
        let there = job_there log.facts at.here its.also (kept_so one its.also its.kept_is at) in
        let named = named_so planned job its.also.position its.of_job in
        let held = held_so its.also there its.held in
        let here : its.also.position ≡ place_of one = ap place_in (sym its.kept_is) in
        let held_here : is_some (holding told.run told.stage its.also.position log.facts) ≡ true =
        ap (λ s. is_some (holding told.run s its.also.position log.facts)) (sym its.of_stage)
        ∙ (ap (λ r. is_some (holding r its.also.stage its.also.position log.facts))
        (sym its.of_run) ∙ held) in
        let taken : is_taken its.also.position ≡ true = ap (λ (o : Option PlanJob). option_map_or
        (λ it. is it.name job.name &&
        is_some (holding told.run told.stage its.also.position log.facts)) o false) named.there
        ∙ (ap (λ (b : Bool). b &&
        is_some (holding told.run told.stage its.also.position log.facts)) named.named
        ∙ held_here) in
        let within : its.also.position < length planned.jobs =
        slice_get_within planned.jobs its.also.position named.one named.there in (
          subst (λ p. p < length planned.jobs) here within,
          subst (λ p. is_taken p ≡ true) here taken,
        )

    apart_two : (one other : Seen) → Own one → Own other →
        comes_before one.row.now other.row.now ≡ true → leg one ≡ true → leg other ≡ true →
        nat_eq (place_of other) (place_of one) ≡ false
    apart_two one other own_one own_other before left right =
        go (nat_eq (place_of other) (place_of one)) refl
      where
        same_place : place_of other ≡ place_of one → ⊥
        same_place e =
            let its = leg_tells planned job told one left in
            let their = leg_tells planned job told other right in
            let at = its_row one its.also its.kept_is own_one in
            let there = its_row other their.also their.kept_is own_other in
            let run : its.also.run ≡ their.also.run = its.of_run ∙ sym their.of_run in
            let stage : its.also.stage ≡ their.also.stage = its.of_stage ∙ sym their.of_stage in
            let position : its.also.position ≡ their.also.position =
            ap place_in (sym its.kept_is) ∙ (sym e ∙ ap place_in their.kept_is) in
            let places : at.here ≡ there.here =
            job_where log.facts at.here its.also (kept_so one its.also its.kept_is at)
            ∙ (ap (λ r. Job r its.also.stage its.also.position) run
            ∙ (ap (λ s. Job their.also.run s its.also.position) stage
            ∙ (ap (λ p. Job their.also.run their.also.stage p) position
            ∙ sym (job_where log.facts there.here their.also
            (kept_so other their.also their.kept_is there))))) in
            not_itself (place_at there.here) (place_at there.here) other.row.now one.row.now
            there.there (at.there ∙ ap place_at places) before

        go : (b : Bool) → nat_eq (place_of other) (place_of one) ≡ b →
            nat_eq (place_of other) (place_of one) ≡ false
        go true e = absurd (same_place (grind (arith, nat_tests, e)))
        go false e = e

    firsts : (one : Seen) (rest : List Seen) → AllByRecursion
        (λ (later : Row). comes_before one.row.now later ≡ true) (rows_in rest) → Own one →
        AllByRecursion Own rest → AllByRecursion
        (λ other. leg one ≡ true → leg other ≡ true → nat_eq (place_of other) (place_of one) ≡
        false)
        rest
    firsts one [] before own each = tt
    firsts one (other ∷ rest) before own each =
        (apart_two one other own each.0 before.0, firsts one rest before.1 own each.1)

    apart_all : (rows : List Seen) → Ascend (rows_in rows) → AllByRecursion Own rows →
        Apart leg place_of rows
    apart_all [] order each = tt
    apart_all (one ∷ rows) order each =
        (firsts one rows order.0 each.0 each.1, apart_all rows order.1 each.1)

    placed_all : (rows : List Seen) → AllByRecursion Own rows →
        AllByRecursion (Placed leg place_of (length planned.jobs) is_taken) rows
    placed_all [] each = tt
    placed_all (one ∷ rows) each = (placed_one one each.0, placed_all rows each.1)

    few_rows : many leg all ≤ many is_taken (range_with_len 0 (length planned.jobs))
    few_rows = have_places leg place_of (length planned.jobs) is_taken all
        (apart_all all ascend is_told.own) (placed_all all is_told.own)

    module _ (queued : QueuedRun)
        (queued_is : by run_told (queueing told.run log.facts) ≡ Some queued)
        (staged_is : slice_get queued.compiled.plan.stages told.stage ≡ Some planned)
        (planned_is : slice_get planned.jobs told.position ≡ Some job) where
      abbrev at_told : JobOf
      at_told = record {
        run = told.run;
        stage = told.stage;
        job = told.position;
        queued = queued;
        staged = planned;
        planned = job;
      }

      in_room : legs_taken log.facts at_told ≤ job.max_parallel
      in_room = room at_told
          (record { queued = queued_is; staged = staged_is; planned = planned_is })

      abbrev legs : ℕ
      legs = legs_taken log.facts at_told

      legs_are : legs ≡ many is_taken (range_with_len 0 (length planned.jobs))
      legs_are = many_is is_taken (range_with_len 0 (length planned.jobs))

      -- its own row is that of a leg
      own_leg : (one : Seen) → one.kept ≡ Some (kept.Job told) → is_some (holder told) ≡ true →
          leg one ≡ true
      own_leg one e held = ap (leg_in planned job told) e
          ∙ all_true (is_some (holder told)) (told.run == told.run) (told.stage == told.stage)
          (is_leg_of planned job told.position) held (grind (arith, nat_tests))
          (grind (arith, nat_tests))
          (ap (λ (o : Option PlanJob). option_map_or
          (λ other. is_eq (text_cmp other.name job.name)) o false) planned_is
          ∙ second_itself (Taker job.name))
        where
          all_true : (a b c d : Bool) → a ≡ true → b ≡ true → c ≡ true → d ≡ true →
              (a && ((b && c) && d)) ≡ true
          all_true true true true true e f g h = refl
          all_true false b c d e f g h = absurd (true≢false (sym e))
          all_true true false c d e f g h = absurd (true≢false (sym f))
          all_true true true false d e f g h = absurd (true≢false (sym g))
          all_true true true true false e f g h = absurd (true≢false (sym h))

      in_front : (front : List Seen) (one : Seen) (rest : List Seen) →
          front ++ one ∷ rest ≡ all → leg one ≡ true →
          count_by leg front < job.max_parallel
      in_front front one rest e is_leg =
          let inside = many_inside leg front one rest is_leg in
          let whole : many leg (front ++ one ∷ rest) ≡ many leg all = ap (many leg) e in
          below (count_by leg front) (many leg front) (many leg (front ++ one ∷ rest))
          (many leg all) (many is_taken (range_with_len 0 (length planned.jobs))) legs
          job.max_parallel (many_is leg front) inside whole few_rows legs_are in_room
        where
          below : (a b c d m n most : ℕ) → a ≡ b → b + 1 ≤ c → c ≡ d → d ≤ m → n ≡ m →
              n ≤ most → a < most
          below a b c d m n most e f g h i j = omega (arith, e, f, g, h, i, j)

      not_too_many : (front : List Seen) (one : Seen) (rest : List Seen) →
          front ++ one ∷ rest ≡ all → one.kept ≡ Some (kept.Job told) →
          is_leg_too_many planned job front told ≡ false
      not_too_many front one rest e told_is = go (is_some (holder told)) refl where
        never : (b : Bool) → (b && false) ≡ false
        never true = refl
        never false = refl

        more_than : (a b : ℕ) → b < a → nat_le a b ≡ false
        more_than a b l = grind (arith, nat_tests, l)

        go : (b : Bool) → is_some (holder told) ≡ b →
            is_leg_too_many planned job front told ≡ false
        go false h =
            ap (λ (b : Bool). b && nat_le job.max_parallel (count_by leg front)) h
        go true h = ap (λ (b : Bool). is_some (holder told) && b)
            (more_than job.max_parallel (count_by leg front)
            (in_front front one rest e (own_leg one told_is h)))
            ∙ never (is_some (holder told))

  pub few_legs : LeaveNothingOfLegs log all
  few_legs front one rest e told said = by_record told said where
    by_record : (it : Record) → one.kept ≡ Some it → SaysNothingOfLegs front log it
    by_record (kept.Job its) f = λ planned job staged_is planned_is.
        let run = planned_at log.facts its.run its.stage planned staged_is in
        not_too_many its planned job run.queued run.there.queued run.there.planned planned_is front
        one rest e f
    by_record _ f = tt
