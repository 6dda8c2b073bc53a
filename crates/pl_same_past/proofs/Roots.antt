-- The facts of whole rows stand on what was queued and planned, and each is told once.
use Rattle.std.proofs.Common.{◌≡◌, ◌⊎◌, ◌&&◌, ℕ, Bool, true, false, true≢false, List, Option, Some, None}
use Rattle.std.proofs.Common.{inl, inr, refl, sym, ap, subst, ◌∙◌}
use Rattle.std.specs.Option.{option_map, option_to_list}
use Rattle.pl_base.specs.declared.digest.Digest.{Digest}
use Rattle.pl_base.specs.declared.row.Row.{Row}
use Rattle.pl_facts.specs.declared.fact.Fact.{Fact}
use Rattle.pl_journal.specs.About.{is_about}
use Rattle.pl_journal.specs.Kinds.{is_canceling, is_job_end, is_stage_end, is_start, is_taking}
use Rattle.pl_journal.specs.Runs.{canceling, job_end, queueing, stage_end, stage_start, taking}
use Rattle.pl_keeper.specs.declared.records.JobEnd.{JobEnd}
use Rattle.pl_keeper.specs.declared.records.KeptJob.{KeptJob}
use Rattle.pl_keeper.specs.declared.records.Record.{Record}
use Rattle.pl_keeper.specs.declared.records.Record.TheVariants as kept
use Rattle.pl_keeper.specs.declared.records.Taking.{Taking}
use Rattle.pl_kept.specs.Kept.{planned_job, planned_stage, Job, Run, Stage, Where}
use Rattle.pl_log.specs.Keys as named
use Rattle.pl_log.specs.Latest.{latest}
use Rattle.pl_opened.specs.Told as tells
use Rattle.pl_opening_laws.specs.Below.pl_opening.specs.Below.pl_opened_laws.proofs.Again.{job_end_found, job_planned_of, stage_planned_of, taking_found}
use Rattle.pl_opening_laws.specs.Below.pl_opening.specs.Below.pl_opened_laws.proofs.Known.{finds, AreOpened, IsAt, IsOf}
use Rattle.pl_opening_laws.specs.Below.pl_opening.specs.Below.pl_opened_laws.proofs.Lists.{in_each, in_joined, in_option, some_is, In}
use Rattle.pl_opening_laws.specs.Below.pl_opening.specs.Below.pl_opened_laws.proofs.Runs.{queued_at}
use Rattle.pl_opening_laws.specs.Below.pl_opening.specs.Below.pl_opened_laws.proofs.Telling.{fact_told, is_told, tells_in, where_of, where_told}
use Rattle.pl_opening_laws.specs.Below.pl_opening.specs.Below.pl_opened_laws.proofs.Tests.{about_kind, and_false, end_at, start_at}
use Rattle.pl_opening_laws.proofs.Orderly.{stage_row_of}
use Rattle.pl_same_step.specs.Below.pl_same_lookups.proofs.Finding.{never}
use Rattle.pl_same_past.specs.Rooted.{AreRooted, TakesOnce}
use Rattle.pl_torn.specs.declared.seen.Seen.{Seen}

some_there : {X : Type 0} (o : Option X) (x : X) → o ≡ Some x → ¬ (o ≡ None)
some_there o x e none = never x (sym none ∙ e)

-- ---- a job's row

abbrev run_in : Where → ℕ
run_in (Job run stage job) = run
run_in _ = 0

abbrev stage_in : Where → ℕ
stage_in (Job run stage job) = stage
stage_in _ = 0

abbrev job_in : Where → ℕ
job_in (Job run stage job) = job
job_in _ = 0

abbrev is_job : Option Where → Bool
is_job (Some (Job run stage job)) = true
is_job _ = false

record IsJobRow (all : List Seen) (run stage job : ℕ) : Type 0 where
  one : Seen
  there : In one all
  told : KeptJob
  is : one.kept ≡ Some (kept.Job told)
  run_is : told.run ≡ run
  stage_is : told.stage ≡ stage
  job_is : told.position ≡ job

job_row_by : (all : List Seen) (run stage job : ℕ) (one : Seen) → In one all → (told : Record) →
    one.kept ≡ Some told → where_of told ≡ Some (Job run stage job) → IsJobRow all run stage job
job_row_by all run stage job one there (kept.Job told) is e =
    let same = some_is (Job told.run told.stage told.position) (Job run stage job) e in
    record {
      one = one;
      there = there;
      told = told;
      is = is;
      run_is = ap run_in same;
      stage_is = ap stage_in same;
      job_is = ap job_in same;
    }
job_row_by all run stage job one there _ is e = absurd (true≢false (sym (ap is_job e)))

module _ {admin : Digest} {rows : List Row} {all : List Seen} {facts : List Fact}
    (opens : AreOpened admin rows all facts) where
  -- ---- what is found has its row

  -- of what is there, the row that tells it
  row_of : (test : Fact → Bool) (at : Where) → IsAt opens test at → ¬ (latest test facts ≡ None) →
      IsOf all at
  row_of test at is_at there = go (latest test facts) refl where
    go : (o : Option Fact) → latest test facts ≡ o → IsOf all at
    go None e = absurd (there e)
    go (Some fact) e = (finds opens test at is_at fact e).row

  canceled_queued : (run : ℕ) → ¬ (canceling run facts ≡ None) → ¬ (queueing run facts ≡ None)
  canceled_queued run there =
      let row = row_of (λ fact. is_about (named.Run run) fact && is_canceling fact.event) (Run run)
      (about_kind (named.Run run) (Run run) is_canceling refl) there in
      let queued = queued_at opens run row in
      some_there (queueing run facts) (tells.queueing queued.told queued.made) queued.queued

  stage_there : (run stage : ℕ) → IsOf all (Stage run stage) →
      ¬ (planned_stage run stage facts ≡ None)
  stage_there run stage row =
      let it = stage_row_of all run stage row in
      let planned = stage_planned_of opens it.one it.there it.told it.is in
      some_there (planned_stage run stage facts) planned.planned
      ((λ i. planned_stage (sym it.run_is i) (sym it.stage_is i) facts) ∙ planned.stage)

  started_planned : (run stage : ℕ) → ¬ (stage_start run stage facts ≡ None) →
      ¬ (planned_stage run stage facts ≡ None)
  started_planned run stage there = stage_there run stage
      (row_of (λ fact. is_about (named.Stage run stage) fact && is_start fact.event)
      (Stage run stage) (λ fact. start_at run stage fact) there)

  ended_planned : (run stage : ℕ) → ¬ (stage_end run stage facts ≡ None) →
      ¬ (planned_stage run stage facts ≡ None)
  ended_planned run stage there = stage_there run stage
      (row_of (λ fact. is_about (named.Stage run stage) fact && is_stage_end fact.event)
      (Stage run stage) (λ fact. end_at run stage fact) there)

  job_row : (run stage job : ℕ) → IsOf all (Job run stage job) → IsJobRow all run stage job
  job_row run stage job row =
      job_row_by all run stage job row.one row.there row.told row.is row.here

  job_there : (run stage job : ℕ) → IsOf all (Job run stage job) →
      ¬ (planned_job run stage job facts ≡ None)
  job_there run stage job row =
      let it = job_row run stage job row in
      let planned = job_planned_of opens it.one it.there it.told it.is in
      some_there (planned_job run stage job facts) planned.job
      ((λ i. planned_job (sym it.run_is i) (sym it.stage_is i) (sym it.job_is i) facts)
      ∙ planned.stands)

  pub taken_planned : (run stage job : ℕ) → ¬ (taking run stage job facts ≡ None) →
      ¬ (planned_job run stage job facts ≡ None)
  taken_planned run stage job there = job_there run stage job
      (row_of (λ fact. is_about (named.Job run stage job) fact && is_taking fact.event)
      (Job run stage job)
      (about_kind (named.Job run stage job) (Job run stage job) is_taking refl) there)

  job_ended_planned : (run stage job : ℕ) → ¬ (job_end run stage job facts ≡ None) →
      ¬ (planned_job run stage job facts ≡ None)
  job_ended_planned run stage job there = job_there run stage job
      (row_of (λ fact. is_about (named.Job run stage job) fact && is_job_end fact.event)
      (Job run stage job)
      (about_kind (named.Job run stage job) (Job run stage job) is_job_end refl) there)

  -- ---- a job's taking and its end are told once

  -- the row that tells a fact of a job, which is among what it tells
  record IsToldOf (run stage job : ℕ) (fact : Fact) : Type 0 where
    row : IsJobRow all run stage job
    among : In fact (tells.job_facts row.told)

  told_of : (run stage job : ℕ) (fact : Fact) → In fact facts →
      where_told fact.event ≡ Job run stage job → IsToldOf run stage job fact
  unfolding job_row_by
  told_of run stage job fact among here =
      let by = fact_told all facts opens.are fact among in
      let other = is_told by.one fact by.among in
      of_row by.one other.told other.is other.among by.there (other.here ∙ ap Some here)
    where
      of_row : (one : Seen) (told : Record) → one.kept ≡ Some told →
          In fact (tells_in one.compiled told) → In one all →
          where_of told ≡ Some (Job run stage job) → IsToldOf run stage job fact
      of_row one (kept.Job told) is its there e = record {
        row = job_row_by all run stage job one there (kept.Job told) is e;
        among = its;
      }
      of_row one _ is its there e = absurd (true≢false (sym (ap is_job e)))

  abbrev begun : KeptJob → Taking → Fact
  begun told = tells.taking told.run told.stage told.position

  abbrev end : KeptJob → JobEnd → Fact
  end told = tells.job_end told.run told.stage told.position

  taken_once : (run stage job : ℕ) (fact : Fact) → In fact facts →
      (is_about (named.Job run stage job) fact && is_taking fact.event) ≡ true →
      taking run stage job facts ≡ Some fact
  taken_once run stage job fact among test =
      let it = told_of run stage job fact among
      (about_kind (named.Job run stage job) (Job run stage job) is_taking refl fact test) in
      let row = it.row in
      go row (in_joined fact
      (option_to_list (option_map (begun row.told) row.told.taken))
      (option_to_list (option_map (end row.told) row.told.ended)) it.among)
    where
      go : (row : IsJobRow all run stage job) →
          In fact (option_to_list (option_map (begun row.told) row.told.taken))
          ⊎ In fact (option_to_list (option_map (end row.told) row.told.ended)) →
          taking run stage job facts ≡ Some fact
      go row (inl is) =
          let found = in_option (begun row.told) row.told.taken fact is in
          (λ i. taking (sym row.run_is i) (sym row.stage_is i) (sym row.job_is i) facts)
          ∙ (taking_found opens row.one row.there row.told row.is
          ∙ (ap (option_map (begun row.told)) found.1 ∙ ap Some found.2))
      go row (inr is) =
          let found = in_option (end row.told) row.told.ended fact is in
          absurd (true≢false (sym test ∙ (ap (λ (f : Fact).
          is_about (named.Job run stage job) f && is_taking f.event) (sym found.2)
          ∙ and_false (is_about (named.Job run stage job) (end row.told found.0)))))

  pub ended_once : (run stage job : ℕ) (fact : Fact) → In fact facts →
      (is_about (named.Job run stage job) fact && is_job_end fact.event) ≡ true →
      job_end run stage job facts ≡ Some fact
  ended_once run stage job fact among test =
      let it = told_of run stage job fact among
      (about_kind (named.Job run stage job) (Job run stage job) is_job_end refl fact test) in
      let row = it.row in
      go row (in_joined fact
      (option_to_list (option_map (begun row.told) row.told.taken))
      (option_to_list (option_map (end row.told) row.told.ended)) it.among)
    where
      go : (row : IsJobRow all run stage job) →
          In fact (option_to_list (option_map (begun row.told) row.told.taken))
          ⊎ In fact (option_to_list (option_map (end row.told) row.told.ended)) →
          job_end run stage job facts ≡ Some fact
      go row (inr is) =
          let found = in_option (end row.told) row.told.ended fact is in
          (λ i. job_end (sym row.run_is i) (sym row.stage_is i) (sym row.job_is i) facts)
          ∙ (job_end_found opens row.one row.there row.told row.is
          ∙ (ap (option_map (end row.told)) found.1 ∙ ap Some found.2))
      go row (inl is) =
          let found = in_option (begun row.told) row.told.taken fact is in
          absurd (true≢false (sym test ∙ (ap (λ (f : Fact).
          is_about (named.Job run stage job) f && is_job_end f.event) (sym found.2)
          ∙ and_false (is_about (named.Job run stage job) (begun row.told found.0)))))

  pub are_rooted : AreRooted facts
  are_rooted = record {
    canceled = canceled_queued;
    started = started_planned;
    ended = ended_planned;
    job_ended = job_ended_planned;
    once = in_each (TakesOnce facts) facts
        (λ fact among run stage job test. taken_once run stage job fact among test);
  }
