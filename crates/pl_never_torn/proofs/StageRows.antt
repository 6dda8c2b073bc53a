-- The rows of stages stand together in time, as the stages do.
use Rattle.std.proofs.Common.{◌≡◌, ◌≤◌, ◌<◌, ◌^◌, ◌+◌, ◌&&◌, ◌||◌, ℕ, nat_eq, nat_lt, suc, Bool}
use Rattle.std.proofs.Common.{true}
use Rattle.std.proofs.Common.{false, true≢false, List, [], ◌∷◌, Option, Some, None, refl, sym, ap}
use Rattle.std.proofs.Common.{subst}
use Rattle.std.proofs.Common.{◌∙◌, arith}
use Rattle.std.proofs.lemmas.Bool.Decides.{nat_tests}
use Rattle.std.proofs.lemmas.Option.{slice_get-get_or, slice_get_within}
use Rattle.std.specs.List.{list_any, AllByRecursion}
use Rattle.std.specs.Option.{option_and_then, option_map, option_map_or}
use Rattle.std.specs.Prelude.{get_or, length, slice_get, IfSome}
use Rattle.pl_changes.proofs.Leading.{none_some, or_false}
use Rattle.pl_facts.specs.declared.fact.Event.{Event}
use Rattle.pl_facts.specs.declared.fact.Event.TheVariants as event
use Rattle.pl_facts.specs.declared.fact.Fact.{Fact}
use Rattle.pl_facts.specs.declared.fact.QueuedRun.{QueuedRun}
use Rattle.pl_plan.specs.declared.plan.PlanStage.{PlanStage}
use Rattle.pl_granting.specs.Below.pl_due.proofs.Standing.{second_of_two}
use Rattle.pl_journal.specs.About.{is_about}
use Rattle.pl_journal.specs.Kinds.{is_stage_end}
use Rattle.pl_journal.specs.Log.{Log}
use Rattle.pl_journal.specs.Runs.{queueing, run_told, stage_end, stage_start}
use Rattle.pl_journal.specs.Settings.{by}
use Rattle.pl_keeper.specs.declared.records.KeptStage.{KeptStage}
use Rattle.pl_keeper.specs.declared.records.Record.{Record}
use Rattle.pl_keeper.specs.declared.records.Record.TheVariants as kept
use Rattle.pl_kept.specs.Kept.{kept_at, planned_stage, Where, Stage}
use Rattle.pl_kept.specs.Told.{moment_of, stage_end_at, stage_end_told}
use Rattle.pl_log.specs.Keys as key
use Rattle.pl_torn.specs.Moments.{ends_early, is_stage_off, stage_ended, stage_ended_at, started_at}
use Rattle.pl_torn.specs.Moments.{stage_ends_behind, starts_before, starts_early}
use Rattle.pl_torn.specs.Seen.{stage_in}
use Rattle.pl_torn.specs.declared.seen.Seen.{Seen}
use Rattle.pl_reread.specs.Reread.{AreToldBy, IsGood}
use Rattle.pl_never_torn.specs.Stages.{AreInTime, HadEnded}
use Rattle.pl_never_torn.proofs.Naming.{passes}
use Rattle.pl_never_torn.proofs.Stages.{ends}

-- ---- what the record of a stage tells

pub end_moment : (moment : ℕ) (told : Event) → is_stage_end told ≡ true →
    option_map (λ ended. ended.moment) (stage_end_at moment told) ≡ Some moment
end_moment moment (event.StageEnded run stage outcome rule) is = refl
end_moment moment _ is = absurd (true≢false (sym is))

pub of_end : (facts : List Fact) (run stage : ℕ) →
    option_map (λ ended. ended.moment) (stage_end_told (stage_end run stage facts)) ≡
    option_map moment_of (stage_end run stage facts)
of_end facts run stage = go (stage_end run stage facts) refl where
  go : (o : Option Fact) → stage_end run stage facts ≡ o →
      option_map (λ ended. ended.moment) (stage_end_told o) ≡ option_map moment_of o
  go None e = refl
  go (Some fact) e = end_moment fact.moment fact.event (second_of_two
      (is_about (key.Stage run stage) fact) (is_stage_end fact.event)
      (passes (ends run stage) facts fact e))

abbrev pub made_of : List Fact → ℕ → ℕ → KeptStage
made_of facts run stage = record {
  run = run;
  position = stage;
  started = option_map moment_of (stage_start run stage facts);
  ended = stage_end_told (stage_end run stage facts);
}

pub record TellsStage (facts : List Fact) (told : KeptStage) : Type 0 where
  pub started : told.started ≡ option_map moment_of (stage_start told.run told.position facts)
  pub ended : stage_ended told ≡ option_map moment_of (stage_end told.run told.position facts)

pub tells_stage : (facts : List Fact) (told : KeptStage) →
    kept_at (Stage told.run told.position) facts ≡ Some (kept.Stage told) → TellsStage facts told
tells_stage facts told e = go (planned_stage told.run told.position facts) e where
  go : (o : Option PlanStage) →
      option_map (λ _. kept.Stage (made_of facts told.run told.position)) o ≡
      Some (kept.Stage told) → TellsStage facts told
  go None h = absurd (none_some None (kept.Stage told) refl h)
  go (Some planned) h =
      let same : Some (made_of facts told.run told.position) ≡ Some told =
      ap (λ (o : Option Record). option_and_then stage_in o) h in
      record {
        started = sym (ap (λ (o : Option KeptStage).
            option_map_or (λ (it : KeptStage). it.started) o None) same);
        ended = sym (ap (λ (o : Option KeptStage).
            option_map_or (λ (it : KeptStage). stage_ended it) o None) same)
            ∙ of_end facts told.run told.position;
      }

-- ---- moments one after the other

not_before : (begun ended : ℕ) → begun ≤ ended → nat_lt ended begun ≡ false
not_before begun ended is = grind (arith, nat_tests)

pub not_early : (start end : Option Fact) → ((one other : Fact) → start ≡ Some one →
    end ≡ Some other → one.moment ≤ other.moment) →
    ends_early (option_map moment_of start) (option_map moment_of end) ≡ false
not_early None None behind = refl
not_early None (Some other) behind = refl
not_early (Some one) None behind = refl
not_early (Some one) (Some other) behind =
    not_before one.moment other.moment (behind one other refl refl)

-- what had ended by then is waited for no more
pub in_time : (begun ended : ℕ) → ended ≤ begun → starts_early (Some begun) (Some ended) ≡ false
in_time begun ended is = grind (arith, nat_tests)

pub never_false : (b : Bool) → (b && false) ≡ false
never_false true = refl
never_false false = refl

-- nothing waits that wasn't started
pub never_begun : (ended : ℕ → Option ℕ) (depends : List ℕ) (at : ℕ) →
    starts_before ended depends at None ≡ false
never_begun ended [] at = refl
never_begun ended (other ∷ depends) at = or_false (nat_lt other at && false)
    (list_any (λ one. nat_lt one at && starts_early None (ended one)) depends)
    (never_false (nat_lt other at)) (never_begun ended depends at)

-- of those in front that had ended, none is waited for
pub begun_behind : (ended : ℕ → Option ℕ) (Had : ℕ → Type 0) (moment at : ℕ) (depends : List ℕ) →
    ((other : ℕ) → nat_lt other at ≡ true → Had other →
    (last : ℕ) × (ended other ≡ Some last) × (last ≤ moment)) → AllByRecursion Had depends →
    starts_before ended depends at (Some moment) ≡ false
begun_behind ended Had moment at [] tells had = refl
begun_behind ended Had moment at (other ∷ depends) tells had =
    or_false (nat_lt other at && starts_early (Some moment) (ended other))
    (list_any (λ one. nat_lt one at && starts_early (Some moment) (ended one)) depends)
    (here (nat_lt other at) refl) (begun_behind ended Had moment at depends tells had.1)
  where
    here : (b : Bool) → nat_lt other at ≡ b →
        (nat_lt other at && starts_early (Some moment) (ended other)) ≡ false
    here true e =
        let last = tells other e had.0 in
        ap (λ (o : Option ℕ). nat_lt other at && starts_early (Some moment) o) last.1
        ∙ (ap (λ (b : Bool). nat_lt other at && b) (in_time moment last.0 last.2)
        ∙ never_false (nat_lt other at))
    here false e = ap (λ (b : Bool). b && starts_early (Some moment) (ended other)) e

-- one of those
pub one_of : (Had : ℕ → Type 0) (at : ℕ) (depends : List ℕ) → AllByRecursion Had depends →
    list_any (nat_eq at) depends ≡ true → Had at
one_of Had at [] had is = absurd (true≢false (sym is))
one_of Had at (other ∷ depends) had is =
    here (nat_eq at other) refl is (one_of Had at depends had.1)
  where
    here : (b : Bool) → nat_eq at other ≡ b → (b || list_any (nat_eq at) depends) ≡ true →
        (list_any (nat_eq at) depends ≡ true → Had at) → Had at
    here true e any rest =
        let same : other ≡ at = grind (arith, nat_tests, e) in
        subst Had same had.0
    here false e any rest = rest any

-- ---- the rows of a run's stages

module _ (change : ℕ) (log : Log) (all : List Seen) (is : AreToldBy change log all)
    (good : (at : Where) → IfSome (kept_at at log.facts) IsGood) where
  pub stage_fits : (run stage : ℕ) (planned : PlanStage) →
      planned_stage run stage log.facts ≡ Some planned → (run < 2 ^ 64) × (stage < 2 ^ 32)
  stage_fits run stage planned e =
      let fine = subst (λ (o : Option Record). IfSome o IsGood) (ap (option_map _) e)
      (good (Stage run stage)) in
      fine.fits.0

module _ (change : ℕ) (log : Log) (all : List Seen) (is : AreToldBy change log all)
    (good : (at : Where) → IfSome (kept_at at log.facts) IsGood)
    (stand : AreInTime log.facts) where
  pub ended_is : (run stage : ℕ) (planned : PlanStage) →
      planned_stage run stage log.facts ≡ Some planned →
      stage_ended_at all run stage ≡ option_map moment_of (stage_end run stage log.facts)
  ended_is run stage planned e =
      ap (λ (o : Option Record). option_and_then stage_ended (option_and_then stage_in o))
      (is.each (Stage run stage) (stage_fits change log all is good run stage planned e)
      ∙ ap (option_map _) e)
      ∙ of_end log.facts run stage

  pub started_is : (run stage : ℕ) (planned : PlanStage) →
      planned_stage run stage log.facts ≡ Some planned →
      started_at all run stage ≡ option_map moment_of (stage_start run stage log.facts)
  started_is run stage planned e =
      ap (λ (o : Option Record). option_and_then (λ (told : KeptStage). told.started)
      (option_and_then stage_in o))
      (is.each (Stage run stage) (stage_fits change log all is good run stage planned e)
      ∙ ap (option_map _) e)

  module _ (told : KeptStage) (queued : QueuedRun) (planned : PlanStage)
      (tells : TellsStage log.facts told)
      (queued_is : by run_told (queueing told.run log.facts) ≡ Some queued)
      (planned_is : slice_get queued.compiled.plan.stages told.position ≡ Some planned) where
    abbrev stages : List PlanStage
    stages = queued.compiled.plan.stages

    abbrev start : Option Fact
    start = stage_start told.run told.position log.facts

    abbrev end : Option Fact
    end = stage_end told.run told.position log.facts

    planned_at : (stage : ℕ) (one : PlanStage) → slice_get stages stage ≡ Some one →
        planned_stage told.run stage log.facts ≡ Some one
    planned_at stage one e = ap (option_and_then
        (λ (it : QueuedRun). slice_get it.compiled.plan.stages stage)) queued_is ∙ e

    -- it ended behind its start
    ends_behind : ends_early told.started (stage_ended told) ≡ false
    ends_behind =
        ap (λ (o : Option ℕ). ends_early o (stage_ended told)) tells.started
        ∙ (ap (λ (o : Option ℕ). ends_early (option_map moment_of start) o) tells.ended
        ∙ not_early start end
        (λ one other e f. stand.ends told.run told.position one other e f))

    -- those in front for which it waits had ended
    in_front : (other : ℕ) → nat_lt other told.position ≡ true → (last : Fact) →
        stage_end told.run other log.facts ≡ Some last →
        stage_ended_at all told.run other ≡ Some last.moment
    in_front other front last e =
        let within = slice_get_within stages told.position planned planned_is in
        let below : other < length stages = grind (arith, nat_tests, front, within) in
        let there = slice_get-get_or stages other planned below in
        ended_is told.run other (get_or stages other planned)
        (planned_at other (get_or stages other planned) there) ∙ ap (option_map moment_of) e

    starts_behind : (o : Option Fact) → start ≡ o →
        starts_before (stage_ended_at all told.run) planned.depends told.position
        (option_map moment_of o) ≡ false
    starts_behind None e = never_begun (stage_ended_at all told.run) planned.depends told.position
    starts_behind (Some one) e =
        begun_behind (stage_ended_at all told.run) (HadEnded log.facts one.moment told.run)
        one.moment told.position planned.depends
        (λ other front had. (had.end.moment, in_front other front had.end had.is, had.before))
        (stand.waits told.run told.position planned one (planned_at told.position planned
        planned_is)
        e)

    -- and those in front that wait for it were started behind its end
    waits_for : (at : ℕ) (other : PlanStage) →
        planned_stage told.run at log.facts ≡ Some other →
        list_any (nat_eq told.position) other.depends ≡ true →
        starts_early (started_at all told.run at) (stage_ended told) ≡ false
    waits_for at other there any =
        ap (λ (o : Option ℕ). starts_early o (stage_ended told)) (started_is told.run at other
        there)
        ∙ (ap (λ (o : Option ℕ). starts_early
        (option_map moment_of (stage_start told.run at log.facts)) o) tells.ended
        ∙ by_start (stage_start told.run at log.facts) refl)
      where
        by_start : (o : Option Fact) → stage_start told.run at log.facts ≡ o →
            starts_early (option_map moment_of o) (option_map moment_of end) ≡ false
        by_start None e = refl
        by_start (Some one) e =
            let had = one_of (HadEnded log.facts one.moment told.run) told.position other.depends
            (stand.waits told.run at other one there e) any in
            ap (λ (o : Option Fact). starts_early (Some one.moment) (option_map moment_of o)) had.is
            ∙ in_time one.moment had.end.moment had.before

    none_behind : (at : ℕ) (rest : List PlanStage) → ((k : ℕ) (other : PlanStage) →
        slice_get rest k ≡ Some other → planned_stage told.run (at + k) log.facts ≡ Some other) →
        stage_ends_behind all told at rest ≡ false
    none_behind at [] there = refl
    none_behind at (other ∷ rest) there =
        or_false (nat_lt at told.position && (list_any (nat_eq told.position) other.depends &&
        starts_early (started_at all told.run at) (stage_ended told)))
        (stage_ends_behind all told (at + 1) rest)
        (ap (λ (b : Bool). nat_lt at told.position && b)
        (here (list_any (nat_eq told.position) other.depends) refl)
        ∙ never_false (nat_lt at told.position))
        (none_behind (at + 1) rest (λ k one e.
        subst (λ n. planned_stage told.run n log.facts ≡ Some one) (omega arith)
        (there (k + 1) one (next_of k one e))))
      where
        next_of : (k : ℕ) (one : PlanStage) → slice_get rest k ≡ Some one →
            slice_get (other ∷ rest) (k + 1) ≡ Some one
        next_of k one e =
            ap (slice_get (other ∷ rest)) (let same : k + 1 ≡ suc k = omega arith in same) ∙ e

        this : planned_stage told.run at log.facts ≡ Some other
        this = subst (λ n. planned_stage told.run n log.facts ≡ Some other)
            (let same : at + 0 ≡ at = omega arith in same) (there 0 other refl)

        here : (b : Bool) → list_any (nat_eq told.position) other.depends ≡ b →
            (list_any (nat_eq told.position) other.depends &&
            starts_early (started_at all told.run at) (stage_ended told)) ≡ false
        here true e = ap (λ (b : Bool). list_any (nat_eq told.position) other.depends && b)
            (waits_for at other this e)
            ∙ never_false (list_any (nat_eq told.position) other.depends)
        here false e =
            ap (λ (b : Bool). b && starts_early (started_at all told.run at) (stage_ended told)) e

    pub not_off : is_stage_off all stages planned told ≡ false
    not_off = or_false (ends_early told.started (stage_ended told))
        (starts_before (stage_ended_at all told.run) planned.depends told.position told.started ||
        stage_ends_behind all told 0 stages) ends_behind
        (or_false
        (starts_before (stage_ended_at all told.run) planned.depends told.position told.started)
        (stage_ends_behind all told 0 stages)
        (ap (starts_before (stage_ended_at all told.run) planned.depends told.position)
        tells.started ∙ starts_behind start refl)
        (none_behind 0 stages (λ k other e.
        subst (λ n. planned_stage told.run n log.facts ≡ Some other)
        (let same : k ≡ 0 + k = omega arith in same) (planned_at k other e))))
