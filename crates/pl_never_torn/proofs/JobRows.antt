-- The rows of jobs stand together with those of their stages and in time, as the jobs do.
use Rattle.std.proofs.Common.{◌≡◌, ◌<◌, ◌^◌, ◌+◌, ◌&&◌, ◌||◌, ℕ, nat_eq, nat_lt, suc, Bool, true}
use Rattle.std.proofs.Common.{false, true≢false, not, List, [], ◌∷◌, Option, Some, None, refl, sym}
use Rattle.std.proofs.Common.{ap}
use Rattle.std.proofs.Common.{subst, ◌∙◌, arith}
use Rattle.std.proofs.lemmas.Bool.Decides.{nat_tests}
use Rattle.std.proofs.lemmas.Option.{slice_get-get_or, slice_get_within}
use Rattle.std.specs.List.{list_any}
use Rattle.std.specs.Option.{option_and_then, option_map, option_map_or}
use Rattle.std.specs.Prelude.{get_or, is_none, is_some, length, slice_get, IfSome}
use Rattle.pl_changes.proofs.Leading.{none_some, or_false}
use Rattle.pl_facts.specs.declared.fact.Event.{Event}
use Rattle.pl_facts.specs.declared.fact.Event.TheVariants as event
use Rattle.pl_facts.specs.declared.fact.Fact.{Fact}
use Rattle.pl_facts.specs.declared.fact.QueuedRun.{QueuedRun}
use Rattle.pl_plan.specs.declared.plan.PlanJob.{PlanJob}
use Rattle.pl_plan.specs.declared.plan.PlanStage.{PlanStage}
use Rattle.pl_granting.specs.Below.pl_due.proofs.Standing.{second_of_two}
use Rattle.pl_granting.specs.Grantable.{AreDone}
use Rattle.pl_journal.specs.About.{is_about}
use Rattle.pl_journal.specs.Kinds.{is_job_end, is_taking}
use Rattle.pl_journal.specs.Log.{Log}
use Rattle.pl_journal.specs.Runs.{job_end, queueing, run_told, stage_end, stage_start}
use Rattle.pl_journal.specs.Runs.{taking}
use Rattle.pl_journal.specs.Settings.{by}
use Rattle.pl_keeper.specs.declared.records.KeptJob.{KeptJob}
use Rattle.pl_keeper.specs.declared.records.KeptStage.{KeptStage}
use Rattle.pl_keeper.specs.declared.records.Record.{Record}
use Rattle.pl_keeper.specs.declared.records.Record.TheVariants as kept
use Rattle.pl_kept.specs.Kept.{kept_at, planned_job, planned_stage, Where, Job, Stage}
use Rattle.pl_kept.specs.Told.{job_end_at, job_end_told, moment_of, stage_end_told, taking_at}
use Rattle.pl_kept.specs.Told.{taking_told}
use Rattle.pl_log.specs.Keys as key
use Rattle.pl_torn.specs.Holding.{has_run_out, has_started, is_out_of_stage}
use Rattle.pl_torn.specs.Looking.{stage_told}
use Rattle.pl_torn.specs.Moments.{ends_early, is_job_off, job_begun, job_ended, job_ended_at}
use Rattle.pl_torn.specs.Moments.{job_ends_behind, starts_before, starts_early, taken_at}
use Rattle.pl_torn.specs.Seen.{job_in, stage_in}
use Rattle.pl_torn.specs.declared.seen.Seen.{Seen}
use Rattle.pl_reread.specs.Reread.{AreToldBy, IsGood}
use Rattle.pl_never_torn.specs.Jobs.{AreJobsInTime, JobHadEnded}
use Rattle.pl_never_torn.proofs.Jobs.{job_ends, own_end, takes}
use Rattle.pl_never_torn.proofs.Naming.{passes}
use Rattle.pl_never_torn.proofs.StageRows.{begun_behind, in_time, made_of, never_begun, never_false}
use Rattle.pl_never_torn.proofs.StageRows.{not_early, of_end, one_of, stage_fits}

-- ---- what the record of a job tells

take_moment : (moment : ℕ) (told : Event) → is_taking told ≡ true →
    option_map (λ taken. taken.moment) (taking_at moment told) ≡ Some moment
take_moment moment (event.JobTaken run stage job agent) is = refl
take_moment moment _ is = absurd (true≢false (sym is))

end_moment : (moment : ℕ) (told : Event) → is_job_end told ≡ true →
    option_map (λ ended. ended.moment) (job_end_at moment told) ≡ Some moment
end_moment moment (event.JobEnded outcome reported stage job run rule outputs) is = refl
end_moment moment _ is = absurd (true≢false (sym is))

of_take : (facts : List Fact) (run stage job : ℕ) →
    option_map (λ taken. taken.moment) (taking_told (taking run stage job facts)) ≡
    option_map moment_of (taking run stage job facts)
of_take facts run stage job = go (taking run stage job facts) refl where
  go : (o : Option Fact) → taking run stage job facts ≡ o →
      option_map (λ taken. taken.moment) (taking_told o) ≡ option_map moment_of o
  go None e = refl
  go (Some fact) e = take_moment fact.moment fact.event (second_of_two
      (is_about (key.Job run stage job) fact) (is_taking fact.event)
      (passes (takes run stage job) facts fact e))

of_job_end : (facts : List Fact) (run stage job : ℕ) →
    option_map (λ ended. ended.moment) (job_end_told (job_end run stage job facts)) ≡
    option_map moment_of (job_end run stage job facts)
of_job_end facts run stage job = go (job_end run stage job facts) refl where
  go : (o : Option Fact) → job_end run stage job facts ≡ o →
      option_map (λ ended. ended.moment) (job_end_told o) ≡ option_map moment_of o
  go None e = refl
  go (Some fact) e = end_moment fact.moment fact.event (second_of_two
      (is_about (key.Job run stage job) fact) (is_job_end fact.event)
      (passes (job_ends run stage job) facts fact e))

abbrev pub job_of : List Fact → ℕ → ℕ → ℕ → KeptJob
job_of facts run stage job = record {
  run = run;
  stage = stage;
  position = job;
  taken = taking_told (taking run stage job facts);
  ended = job_end_told (job_end run stage job facts);
}

pub record TellsJob (facts : List Fact) (told : KeptJob) : Type 0 where
  pub taken : job_begun told ≡
      option_map moment_of (taking told.run told.stage told.position facts)
  pub ended : job_ended told ≡
      option_map moment_of (job_end told.run told.stage told.position facts)

pub tells_job : (facts : List Fact) (told : KeptJob) →
    kept_at (Job told.run told.stage told.position) facts ≡ Some (kept.Job told) →
    TellsJob facts told
tells_job facts told e = go (planned_job told.run told.stage told.position facts) e where
  go : (o : Option PlanJob) →
      option_map (λ _. kept.Job (job_of facts told.run told.stage told.position)) o ≡
      Some (kept.Job told) → TellsJob facts told
  go None h = absurd (none_some None (kept.Job told) refl h)
  go (Some planned) h =
      let same : Some (job_of facts told.run told.stage told.position) ≡ Some told =
      ap (λ (o : Option Record). option_and_then job_in o) h in
      record {
        taken = sym (ap (λ (o : Option KeptJob).
            option_map_or (λ (it : KeptJob). job_begun it) o None) same)
            ∙ of_take facts told.run told.stage told.position;
        ended = sym (ap (λ (o : Option KeptJob).
            option_map_or (λ (it : KeptJob). job_ended it) o None) same)
            ∙ of_job_end facts told.run told.stage told.position;
      }

-- ---- options

mapped_some : {X Y : Type 0} (f : X → Y) (o : Option X) → is_some (option_map f o) ≡ is_some o
mapped_some f None = refl
mapped_some f (Some x) = refl

mapped_none : {X Y : Type 0} (f : X → Y) (o : Option X) → is_none (option_map f o) ≡ is_none o
mapped_none f None = refl
mapped_none f (Some x) = refl

nothing_is : {X : Type 0} (o : Option X) → ((x : X) → o ≡ Some x → ⊥) → is_some o ≡ false
nothing_is None none = refl
nothing_is (Some x) none = absurd (none x refl)

-- ---- the rows of a stage's jobs

module _ (change : ℕ) (log : Log) (all : List Seen) (is : AreToldBy change log all)
    (good : (at : Where) → IfSome (kept_at at log.facts) IsGood)
    (jobs : AreJobsInTime log.facts) (done : AreDone log.facts) where
  job_fits : (run stage job : ℕ) (planned : PlanJob) →
      planned_job run stage job log.facts ≡ Some planned →
      (run < 2 ^ 64) × ((stage < 2 ^ 32) × (job < 2 ^ 32))
  job_fits run stage job planned e =
      let fine = subst (λ (o : Option Record). IfSome o IsGood) (ap (option_map _) e)
      (good (Job run stage job)) in
      fine.fits.0

  ended_is : (run stage job : ℕ) (planned : PlanJob) →
      planned_job run stage job log.facts ≡ Some planned →
      job_ended_at all run stage job ≡ option_map moment_of (job_end run stage job log.facts)
  ended_is run stage job planned e =
      ap (λ (o : Option Record). option_and_then job_ended (option_and_then job_in o))
      (is.each (Job run stage job) (job_fits run stage job planned e) ∙ ap (option_map _) e)
      ∙ of_job_end log.facts run stage job

  taken_is : (run stage job : ℕ) (planned : PlanJob) →
      planned_job run stage job log.facts ≡ Some planned →
      taken_at all run stage job ≡ option_map moment_of (taking run stage job log.facts)
  taken_is run stage job planned e =
      ap (λ (o : Option Record). option_and_then job_begun (option_and_then job_in o))
      (is.each (Job run stage job) (job_fits run stage job planned e) ∙ ap (option_map _) e)
      ∙ of_take log.facts run stage job

  stage_is : (run stage : ℕ) (planned : PlanStage) →
      planned_stage run stage log.facts ≡ Some planned →
      stage_told run stage all ≡ Some (made_of log.facts run stage)
  stage_is run stage planned e =
      ap (λ (o : Option Record). option_and_then stage_in o)
      (is.each (Stage run stage) (stage_fits change log all is good run stage planned e)
      ∙ ap (option_map _) e)

  module _ (told : KeptJob) (queued : QueuedRun) (staged : PlanStage) (planned : PlanJob)
      (tells : TellsJob log.facts told)
      (queued_is : by run_told (queueing told.run log.facts) ≡ Some queued)
      (staged_is : slice_get queued.compiled.plan.stages told.stage ≡ Some staged)
      (planned_is : slice_get staged.jobs told.position ≡ Some planned) where
    abbrev take : Option Fact
    take = taking told.run told.stage told.position log.facts

    abbrev end : Option Fact
    end = job_end told.run told.stage told.position log.facts

    stage_at : planned_stage told.run told.stage log.facts ≡ Some staged
    stage_at = ap (option_and_then
        (λ (it : QueuedRun). slice_get it.compiled.plan.stages told.stage)) queued_is ∙ staged_is

    planned_at : (job : ℕ) (one : PlanJob) → slice_get staged.jobs job ≡ Some one →
        planned_job told.run told.stage job log.facts ≡ Some one
    planned_at job one e =
        ap (option_and_then (λ (it : PlanStage). slice_get it.jobs job)) stage_at ∙ e

    -- ---- with its stage

    some_taken : is_some told.taken ≡ is_some take
    some_taken = sym (mapped_some (λ taken. taken.moment) told.taken)
        ∙ (ap is_some tells.taken ∙ mapped_some moment_of take)

    some_ended : is_some told.ended ≡ is_some end
    some_ended = sym (mapped_some (λ ended. ended.moment) told.ended)
        ∙ (ap is_some tells.ended ∙ mapped_some moment_of end)

    none_ended : is_none told.ended ≡ is_none end
    none_ended = sym (mapped_none (λ ended. ended.moment) told.ended)
        ∙ (ap is_none tells.ended ∙ mapped_none moment_of end)

    abbrev its_stage : Option KeptStage
    its_stage = Some (made_of log.facts told.run told.stage)

    abbrev start : Option Fact
    start = stage_start told.run told.stage log.facts

    started : has_started its_stage ≡ is_some start
    started = mapped_some moment_of start

    run_out : has_run_out its_stage ≡
        (is_some start && is_some (stage_end told.run told.stage log.facts))
    run_out =
        ap (λ (b : Bool). b && is_some (stage_end_told (stage_end told.run told.stage log.facts)))
        (mapped_some moment_of start)
        ∙ ap (λ (b : Bool). is_some start && b)
        (sym (mapped_some (λ ended. ended.moment)
        (stage_end_told (stage_end told.run told.stage log.facts)))
        ∙ (ap is_some (of_end log.facts told.run told.stage)
        ∙ mapped_some moment_of (stage_end told.run told.stage log.facts)))

    -- where the stage was started and has ended, it has
    done_too : ¬ (start ≡ None) → ¬ (stage_end told.run told.stage log.facts ≡ None) →
        ¬ (end ≡ None)
    done_too begun over none =
        done (record {
          run = told.run;
          stage = told.stage;
          job = told.position;
          queued = queued;
          staged = staged;
          planned = planned;
        }) (record { queued = queued_is; staged = staged_is; planned = planned_is }) begun over
        (own_end told.run told.stage told.position log.facts (some_of start begun) ∙ none)
      where
        some_of : (o : Option Fact) → ¬ (o ≡ None) → is_some o ≡ true
        some_of None there = absurd (there refl)
        some_of (Some fact) there = refl

    with_stage : (t e s o : Bool) → (s ≡ false → (t ≡ false) × (e ≡ false)) →
        (s ≡ true → o ≡ true → e ≡ true) →
        (((t || e) && not s) || (not e && (s && o))) ≡ false
    with_stage false false false false before after = refl
    with_stage false false false true before after = refl
    with_stage false true false o before after = absurd (true≢false (before refl).1)
    with_stage true e false o before after = absurd (true≢false (before refl).0)
    with_stage false false true false before after = refl
    with_stage false false true true before after =
        absurd (true≢false (sym (after refl refl)))
    with_stage false true true o before after = refl
    with_stage true false true false before after = refl
    with_stage true false true true before after =
        absurd (true≢false (sym (after refl refl)))
    with_stage true true true o before after = refl

    pub in_stage : is_out_of_stage (stage_told told.run told.stage all) told ≡ false
    in_stage =
        ap (λ (o : Option KeptStage). is_out_of_stage o told)
        (stage_is told.run told.stage staged stage_at)
        ∙ (by_parts
        ∙ with_stage (is_some take) (is_some end) (is_some start)
        (is_some (stage_end told.run told.stage log.facts)) before after)
      where
        none_is : (o : Option Fact) → is_none o ≡ not (is_some o)
        none_is None = refl
        none_is (Some fact) = refl

        by_parts : is_out_of_stage its_stage told ≡
            (((is_some take || is_some end) && not (is_some start)) ||
            (not (is_some end) && (is_some start &&
            is_some (stage_end told.run told.stage log.facts))))
        by_parts =
            ap (λ (b : Bool). ((b || is_some told.ended) && not (has_started its_stage)) ||
            (is_none told.ended && has_run_out its_stage)) some_taken
            ∙ (ap (λ (b : Bool). ((is_some take || b) && not (has_started its_stage)) ||
            (is_none told.ended && has_run_out its_stage)) some_ended
            ∙ (ap (λ (b : Bool). ((is_some take || is_some end) && not b) ||
            (is_none told.ended && has_run_out its_stage)) started
            ∙ (ap (λ (b : Bool). ((is_some take || is_some end) && not (is_some start)) ||
            (b && has_run_out its_stage)) (none_ended ∙ none_is end)
            ∙ ap (λ (b : Bool). ((is_some take || is_some end) && not (is_some start)) ||
            (not (is_some end) && b)) run_out)))

        no_start : is_some start ≡ false → start ≡ None
        no_start e = go start e where
          go : (o : Option Fact) → is_some o ≡ false → o ≡ None
          go None f = refl
          go (Some fact) f = absurd (true≢false f)

        before : is_some start ≡ false → (is_some take ≡ false) × (is_some end ≡ false)
        before e = (
          nothing_is take (λ fact f. jobs.taken told.run told.stage told.position
              (λ none. none_some take fact none f) (no_start e)),
          nothing_is end (λ fact f. jobs.ended told.run told.stage told.position
              (λ none. none_some end fact none f) (no_start e)),
        )

        after : is_some start ≡ true →
            is_some (stage_end told.run told.stage log.facts) ≡ true → is_some end ≡ true
        after s o = go end refl where
          there : (x : Option Fact) → is_some x ≡ true → ¬ (x ≡ None)
          there x e none = true≢false (sym e ∙ ap is_some none)

          go : (x : Option Fact) → end ≡ x → is_some end ≡ true
          go None e = absurd (done_too (there start s)
              (there (stage_end told.run told.stage log.facts) o) e)
          go (Some fact) e = ap is_some e

    -- ---- in time

    ends_behind : ends_early (job_begun told) (job_ended told) ≡ false
    ends_behind =
        ap (λ (o : Option ℕ). ends_early o (job_ended told)) tells.taken
        ∙ (ap (λ (o : Option ℕ). ends_early (option_map moment_of take) o) tells.ended
        ∙ not_early take end
        (λ one other e f. jobs.ends told.run told.stage told.position one other e f))

    in_front : (other : ℕ) → nat_lt other told.position ≡ true → (last : Fact) →
        job_end told.run told.stage other log.facts ≡ Some last →
        job_ended_at all told.run told.stage other ≡ Some last.moment
    in_front other front last e =
        let within = slice_get_within staged.jobs told.position planned planned_is in
        let below : other < length staged.jobs = grind (arith, nat_tests, front, within) in
        let there = slice_get-get_or staged.jobs other planned below in
        ended_is told.run told.stage other (get_or staged.jobs other planned)
        (planned_at other (get_or staged.jobs other planned) there) ∙ ap (option_map moment_of) e

    starts_behind : (o : Option Fact) → take ≡ o →
        starts_before (job_ended_at all told.run told.stage) planned.depends told.position
        (option_map moment_of o) ≡ false
    starts_behind None e =
        never_begun (job_ended_at all told.run told.stage) planned.depends told.position
    starts_behind (Some one) e =
        begun_behind (job_ended_at all told.run told.stage)
        (JobHadEnded log.facts one.moment told.run told.stage) one.moment told.position
        planned.depends
        (λ other front had. (had.end.moment, in_front other front had.end had.is, had.before))
        (jobs.waits told.run told.stage told.position planned one
        (planned_at told.position planned planned_is) e)

    waits_for : (at : ℕ) (other : PlanJob) →
        planned_job told.run told.stage at log.facts ≡ Some other →
        list_any (nat_eq told.position) other.depends ≡ true →
        starts_early (taken_at all told.run told.stage at) (job_ended told) ≡ false
    waits_for at other there any =
        ap (λ (o : Option ℕ). starts_early o (job_ended told))
        (taken_is told.run told.stage at other there)
        ∙ (ap (λ (o : Option ℕ). starts_early
        (option_map moment_of (taking told.run told.stage at log.facts)) o) tells.ended
        ∙ by_take (taking told.run told.stage at log.facts) refl)
      where
        by_take : (o : Option Fact) → taking told.run told.stage at log.facts ≡ o →
            starts_early (option_map moment_of o) (option_map moment_of end) ≡ false
        by_take None e = refl
        by_take (Some one) e =
            let had = one_of (JobHadEnded log.facts one.moment told.run told.stage) told.position
            other.depends (jobs.waits told.run told.stage at other one there e) any in
            ap (λ (o : Option Fact). starts_early (Some one.moment) (option_map moment_of o)) had.is
            ∙ in_time one.moment had.end.moment had.before

    none_behind : (at : ℕ) (rest : List PlanJob) → ((k : ℕ) (other : PlanJob) →
        slice_get rest k ≡ Some other →
        planned_job told.run told.stage (at + k) log.facts ≡ Some other) →
        job_ends_behind all told at rest ≡ false
    none_behind at [] there = refl
    none_behind at (other ∷ rest) there =
        or_false (nat_lt at told.position && (list_any (nat_eq told.position) other.depends &&
        starts_early (taken_at all told.run told.stage at) (job_ended told)))
        (job_ends_behind all told (at + 1) rest)
        (ap (λ (b : Bool). nat_lt at told.position && b)
        (here (list_any (nat_eq told.position) other.depends) refl)
        ∙ never_false (nat_lt at told.position))
        (none_behind (at + 1) rest (λ k one e.
        subst (λ n. planned_job told.run told.stage n log.facts ≡ Some one) (omega arith)
        (there (k + 1) one (next_of k one e))))
      where
        next_of : (k : ℕ) (one : PlanJob) → slice_get rest k ≡ Some one →
            slice_get (other ∷ rest) (k + 1) ≡ Some one
        next_of k one e =
            ap (slice_get (other ∷ rest)) (let same : k + 1 ≡ suc k = omega arith in same) ∙ e

        this : planned_job told.run told.stage at log.facts ≡ Some other
        this = subst (λ n. planned_job told.run told.stage n log.facts ≡ Some other)
            (let same : at + 0 ≡ at = omega arith in same) (there 0 other refl)

        here : (b : Bool) → list_any (nat_eq told.position) other.depends ≡ b →
            (list_any (nat_eq told.position) other.depends &&
            starts_early (taken_at all told.run told.stage at) (job_ended told)) ≡ false
        here true e = ap (λ (b : Bool). list_any (nat_eq told.position) other.depends && b)
            (waits_for at other this e)
            ∙ never_false (list_any (nat_eq told.position) other.depends)
        here false e = ap (λ (b : Bool). b &&
            starts_early (taken_at all told.run told.stage at) (job_ended told)) e

    pub not_off : is_job_off all staged.jobs planned told ≡ false
    not_off = or_false (ends_early (job_begun told) (job_ended told))
        (starts_before (job_ended_at all told.run told.stage) planned.depends told.position
        (job_begun told) || job_ends_behind all told 0 staged.jobs) ends_behind
        (or_false (starts_before (job_ended_at all told.run told.stage) planned.depends
        told.position (job_begun told)) (job_ends_behind all told 0 staged.jobs)
        (ap (starts_before (job_ended_at all told.run told.stage) planned.depends told.position)
        tells.taken ∙ starts_behind take refl)
        (none_behind 0 staged.jobs (λ k other e.
        subst (λ n. planned_job told.run told.stage n log.facts ≡ Some other)
        (let same : k ≡ 0 + k = omega arith in same) (planned_at k other e))))
