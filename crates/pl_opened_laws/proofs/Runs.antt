-- The runs of the facts, and the rows of their stages and jobs.
use Rattle.std.proofs.Common.{◌≡◌, ℕ, zero, suc, ◌+◌, ◌<◌, ◌^◌, Bool, true, false, true≢false, ◌&&◌}
use Rattle.std.proofs.Common.{◌||◌, List, [], ◌∷◌, ◌++◌, length, Option, Some, None, refl, sym, ap}
use Rattle.std.proofs.Common.{subst, ◌∙◌, inl, inr, arith}
use Rattle.std.specs.Option.{option_and_then, option_map, option_map_or}
use Rattle.std.specs.Prelude.{is_none, slice_get, All}
use Rattle.std.proofs.lemmas.List.Elements.{recursion_from_All}
use Rattle.std.proofs.lemmas.Option.{slice_get_within}
use Rattle.pl_base.specs.declared.digest.Digest.{Digest}
use Rattle.pl_base.specs.declared.row.Row.{Row}
use Rattle.pl_facts.specs.declared.fact.Event.TheVariants as event
use Rattle.pl_facts.specs.declared.fact.Fact.{Fact}
use Rattle.pl_facts.specs.declared.fact.QueuedRun.{QueuedRun}
use Rattle.pl_journal.specs.About.{is_about}
use Rattle.pl_journal.specs.Kinds.{is_canceling, is_queueing}
use Rattle.pl_journal.specs.Runs.{canceling, queueing, run_told}
use Rattle.pl_journal.specs.Settings.{by}
use Rattle.pl_keeper.specs.declared.records.KeptRun.{KeptRun}
use Rattle.pl_keeper.specs.declared.records.Record.{Record}
use Rattle.pl_keeper.specs.declared.records.Record.TheVariants as kept
use Rattle.pl_kept.specs.Kept.{planned_job, planned_stage, Where, Run, Stage, Job}
use Rattle.pl_log.specs.Keys as named
use Rattle.pl_log.specs.Keys.{same_key}
use Rattle.pl_log.proofs.Naming.{key_itself}
use Rattle.pl_opened.specs.Told as tells
use Rattle.pl_rows.specs.Below.pl_places.specs.Places.{place_at, Fits}
use Rattle.pl_plan.specs.declared.plan.Compiled.{Compiled}
use Rattle.pl_plan.specs.declared.plan.Plan.{Plan}
use Rattle.pl_plan.specs.declared.plan.PlanJob.{PlanJob}
use Rattle.pl_plan.specs.declared.plan.PlanStage.{PlanStage}
use Rattle.pl_results.specs.Nodes.{CanRun}
use Rattle.pl_seeing.specs.Seeing.{sources_of, IsCompileOf, IsMadeOf}
use Rattle.pl_torn.specs.Looking.{job_place, meta_told, plan_told, run_place, stage_place}
use Rattle.pl_torn.specs.Moments.{is_run_late}
use Rattle.pl_torn.specs.Plans.{is_above, lack_job, lack_stage, lacks_rows}
use Rattle.pl_torn.specs.Seen.{seen_at}
use Rattle.pl_torn.specs.declared.seen.Seen.{Seen}
use Rattle.pl_opened_laws.proofs.Good.{neither}
use Rattle.pl_opened_laws.proofs.Known.{first, fits_of, good_of, made_of, second, seen_of, standing}
use Rattle.pl_opened_laws.proofs.Known.{AreOpened, IsOf}
use Rattle.pl_opened_laws.proofs.Lists.{each_in, never_some, some_is, In}
use Rattle.pl_opened_laws.proofs.Standing.{seen_is}
use Rattle.pl_opened_laws.proofs.Telling.{where_of}
use Rattle.pl_opened_laws.proofs.Tests.{about_kind, and_false, and_true}

-- ---- the record of a run's row

pub record IsRunOf (told : Record) (run : ℕ) : Type 0 where
  pub one : KeptRun
  pub is : told ≡ kept.Run one
  pub same : one.run ≡ run

abbrev run_at : Where → ℕ
run_at (Run run) = run
run_at _ = 0

abbrev is_run : Option Where → Bool
is_run (Some (Run run)) = true
is_run _ = false

pub run_of : (told : Record) (run : ℕ) → where_of told ≡ Some (Run run) → IsRunOf told run
run_of (kept.Run told) run e = record {
  one = told;
  is = refl;
  same = ap run_at (some_is (Run told.run) (Run run) e);
}
run_of _ run e = absurd (true≢false (sym (ap is_run e)))

pub compiled_by : (all : List Seen) (told : KeptRun) (o : Option Compiled) →
    lacks_rows all o told ≡ false → (made : Compiled) × (o ≡ Some made)
compiled_by all told None e = absurd (true≢false e)
compiled_by all told (Some made) e = (made, refl)

pub is_there : {X : Type 0} (o : Option X) → is_none o ≡ false → (x : X) × (o ≡ Some x)
is_there None e = absurd (true≢false e)
is_there (Some x) e = (x, refl)

slice_in : {X : Type 0} (xs : List X) (i : ℕ) (x : X) → slice_get xs i ≡ Some x → In x xs
slice_in [] i x e = absurd (never_some x (sym e))
slice_in (y ∷ xs) zero x e = inl (some_is y x e)
slice_in (y ∷ xs) (suc i) x e = inr (slice_in xs i x e)

-- ---- rows that aren't wanting

module _ (all : List Seen) (run : ℕ) where
  abbrev HasStage : ℕ → PlanStage → Type 0
  HasStage stage planned = (is_none (seen_at (stage_place run stage) all) ≡ false)
      × (lack_job all run stage 0 planned.jobs ≡ false)

  has_stage : (at : ℕ) (stages : List PlanStage) (i : ℕ) (planned : PlanStage) →
      lack_stage all run at stages ≡ false → slice_get stages i ≡ Some planned →
      HasStage (at + i) planned
  has_stage at [] i planned lacks e = absurd (never_some planned (sym e))
  has_stage at (stage ∷ stages) zero planned lacks e =
      let parts = neither (is_none (seen_at (stage_place run at) all))
      (lack_job all run at 0 stage.jobs || lack_stage all run (at + 1) stages) lacks in
      let jobs = neither (lack_job all run at 0 stage.jobs) (lack_stage all run (at + 1) stages)
      parts.1 in
      let here : at ≡ at + zero = omega arith in
      subst (λ (k : ℕ). HasStage k planned) here (
        parts.0,
        subst (λ (s : PlanStage). lack_job all run at 0 s.jobs ≡ false)
            (some_is stage planned e) jobs.0,
      )
  has_stage at (stage ∷ stages) (suc i) planned lacks e =
      let parts = neither (is_none (seen_at (stage_place run at) all))
      (lack_job all run at 0 stage.jobs || lack_stage all run (at + 1) stages) lacks in
      let rest = neither (lack_job all run at 0 stage.jobs) (lack_stage all run (at + 1) stages)
      parts.1 in
      let here : at + 1 + i ≡ at + suc i = omega arith in
      subst (λ (k : ℕ). HasStage k planned) here
      (has_stage (at + 1) stages i planned rest.1 e)

  has_job : (stage at : ℕ) (jobs : List PlanJob) (i : ℕ) (planned : PlanJob) →
      lack_job all run stage at jobs ≡ false → slice_get jobs i ≡ Some planned →
      is_none (seen_at (job_place run stage (at + i)) all) ≡ false
  has_job stage at [] i planned lacks e = absurd (never_some planned (sym e))
  has_job stage at (job ∷ jobs) zero planned lacks e =
      let parts = neither (is_none (seen_at (job_place run stage at) all))
      (lack_job all run stage (at + 1) jobs) lacks in
      let here : at ≡ at + zero = omega arith in
      subst (λ (k : ℕ). is_none (seen_at (job_place run stage k) all) ≡ false) here parts.0
  has_job stage at (job ∷ jobs) (suc i) planned lacks e =
      let parts = neither (is_none (seen_at (job_place run stage at) all))
      (lack_job all run stage (at + 1) jobs) lacks in
      let here : at + 1 + i ≡ at + suc i = omega arith in
      subst (λ (k : ℕ). is_none (seen_at (job_place run stage k) all) ≡ false) here
      (has_job stage (at + 1) jobs i planned parts.1 e)

-- a run that the facts tell: the row that tells it, and what its sources compile to
pub record IsQueued (all : List Seen) (facts : List Fact) (run : ℕ) : Type 0 where
  pub row : Seen
  pub there : In row all
  pub told : KeptRun
  pub is : row.kept ≡ Some (kept.Run told)
  pub same : told.run ≡ run
  pub made : Compiled
  pub compiled : row.compiled ≡ Some made
  pub queued : queueing run facts ≡ Some (tells.queueing told made)

module _ {admin : Digest} {rows : List Row} {all : List Seen} {facts : List Fact}
    (opens : AreOpened admin rows all facts) where
  -- ---- what is found where a run's row stands

  module _ (one : Seen) (there : In one all) (told : KeptRun)
      (is : one.kept ≡ Some (kept.Run told)) where
    abbrev pub run_row : IsOf all (Run told.run)
    run_row = record { one = one; there = there; told = kept.Run told; is = is; here = refl }

    abbrev pub cancels : ℕ → Fact
    cancels moment = tells.at moment (event.RunCanceled told.run)

    abbrev own : Bool
    own = same_key (named.Run told.run) (named.Run told.run)

    pub queue_found : queueing told.run facts ≡ option_map (tells.queueing told) one.compiled
    queue_found = first opens (Run told.run) run_row
        (λ fact. is_about (named.Run told.run) fact && is_queueing fact.event)
        (about_kind (named.Run told.run) (Run told.run) is_queueing refl)
        (tells.queueing told) cancels one.compiled told.canceled refl
        (λ made. and_true own (key_itself (named.Run told.run))) (λ moment. and_false own)

    pub cancel_found : canceling told.run facts ≡ option_map cancels told.canceled
    cancel_found = second opens (Run told.run) run_row
        (λ fact. is_about (named.Run told.run) fact && is_canceling fact.event)
        (about_kind (named.Run told.run) (Run told.run) is_canceling refl)
        (tells.queueing told) cancels one.compiled told.canceled refl
        (λ made. and_false own) (λ moment. and_true own (key_itself (named.Run told.run)))

    -- it is whole
    pub run_whole : (lacks_rows all one.compiled told ≡ false)
        × (is_above (meta_told all) told ≡ false) × (is_run_late (meta_told all) told ≡ false)
    run_whole =
        let good = good_of opens one there (kept.Run told) is in
        let rest = neither (lacks_rows all one.compiled told)
        (is_above (meta_told all) told || is_run_late (meta_told all) told) good.good in
        let last = neither (is_above (meta_told all) told) (is_run_late (meta_told all) told)
        rest.1 in
        (rest.0, last.0, last.1)

    abbrev pub queues : IsQueued all facts told.run
    queues =
        let made = compiled_by all told one.compiled run_whole.0 in
        record {
          row = one;
          there = there;
          told = told;
          is = is;
          same = refl;
          made = made.0;
          compiled = made.1;
          queued = queue_found ∙ ap (option_map (tells.queueing told)) made.1;
        }

  -- a run whose row stands there
  pub queued_at : (run : ℕ) → IsOf all (Run run) → IsQueued all facts run
  queued_at run row =
      let told = run_of row.told run row.here in
      subst (λ (r : ℕ). IsQueued all facts r) told.same
      (queues row.one row.there told.one (row.is ∙ ap Some told.is))

  module _ (run : ℕ) (queued : IsQueued all facts run) where
    -- its plan is what its sources compile to
    pub compile_of : IsCompileOf (sources_of queued.told) queued.made
    compile_of = subst (λ (o : Option Compiled). IsMadeOf (sources_of queued.told) o)
        queued.compiled (made_of opens queued.row queued.there (kept.Run queued.told) queued.is)

    can_run : CanRun queued.made.plan
    can_run = opens.run (sources_of queued.told) queued.made compile_of

    abbrev pub row_of_run : IsOf all (Run run)
    row_of_run = record {
      one = queued.row;
      there = queued.there;
      told = kept.Run queued.told;
      is = queued.is;
      here = ap (λ (r : ℕ). Some (Run r)) queued.same;
    }

    bound : run < 2 ^ 64
    bound = fits_of opens queued.row queued.there (kept.Run queued.told) queued.is (Run run)
        (ap (λ (r : ℕ). Some (Run r)) queued.same)

    pub plan_is : plan_told run all ≡ Some queued.made.plan
    plan_is = ap (λ (o : Option Seen). option_map (λ (c : Compiled). c.plan)
        (option_and_then (λ (s : Seen). s.compiled) o)) (seen_of opens (Run run) row_of_run) ∙
        ap (option_map (λ (c : Compiled). c.plan)) queued.compiled

    -- the stages and jobs of the facts are those of the plan
    pub stage_is : (stage : ℕ) →
        planned_stage run stage facts ≡ slice_get queued.made.plan.stages stage
    stage_is stage = ap (λ (o : Option Fact). option_and_then (λ (told : QueuedRun).
        slice_get told.compiled.plan.stages stage) (by run_told o)) queued.queued

    no_lack : lack_stage all run 0 queued.made.plan.stages ≡ false
    no_lack = subst (λ (r : ℕ). lack_stage all r 0 queued.made.plan.stages ≡ false) queued.same
        (ap (λ (o : Option Compiled). lacks_rows all o queued.told) (sym queued.compiled) ∙
        (run_whole queued.row queued.there queued.told queued.is).0)

    -- ---- each stage and each job of the plan has its row

    pub stage_row : (stage : ℕ) (planned : PlanStage) →
        slice_get queued.made.plan.stages stage ≡ Some planned → IsOf all (Stage run stage)
    stage_row stage planned e =
        let has = has_stage all run 0 queued.made.plan.stages stage planned no_lack e in
        let here : 0 + stage ≡ stage = omega arith in
        let one = is_there (seen_at (stage_place run stage) all)
        (subst (λ (k : ℕ). is_none (seen_at (stage_place run k) all) ≡ false) here has.0) in
        let found = seen_is (stage_place run stage) all one.0 one.1 in
        let small : stage < 2 ^ 32 = omega (
          arith,
          can_run.stages,
          slice_get_within queued.made.plan.stages stage planned e,
        ) in
        standing opens one.0 found.0 (Stage run stage) (bound, small) found.1

    pub job_row : (stage : ℕ) (planned : PlanStage) (job : ℕ) (one : PlanJob) →
        slice_get queued.made.plan.stages stage ≡ Some planned →
        slice_get planned.jobs job ≡ Some one → IsOf all (Job run stage job)
    job_row stage planned job one e f =
        let has = has_stage all run 0 queued.made.plan.stages stage planned no_lack e in
        let here : 0 + stage ≡ stage = omega arith in
        let jobs : lack_job all run stage 0 planned.jobs ≡ false =
        subst (λ (k : ℕ). lack_job all run k 0 planned.jobs ≡ false) here has.1 in
        let there : 0 + job ≡ job = omega arith in
        let row = is_there (seen_at (job_place run stage job) all)
        (subst (λ (k : ℕ). is_none (seen_at (job_place run stage k) all) ≡ false) there
        (has_job all run stage 0 planned.jobs job one jobs f)) in
        let found = seen_is (job_place run stage job) all row.0 row.1 in
        let small : stage < 2 ^ 32 = omega (
          arith,
          can_run.stages,
          slice_get_within queued.made.plan.stages stage planned e,
        ) in
        let few : length planned.jobs < 2 ^ 32 =
        each_in (λ (s : PlanStage). length s.jobs < 2 ^ 32) queued.made.plan.stages
        (recursion_from_All (λ (s : PlanStage). length s.jobs < 2 ^ 32) queued.made.plan.stages
        can_run.jobs) planned (slice_in queued.made.plan.stages stage planned e) in
        let short : job < 2 ^ 32 = omega (
          arith,
          few,
          slice_get_within planned.jobs job one f,
        ) in
        standing opens row.0 found.0 (Job run stage job) (bound, (small, short)) found.1
