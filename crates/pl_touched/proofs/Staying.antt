-- A fact changes the rows of the places that it touches, and no others.
use Rattle.std.proofs.Common.{◌≡◌, ℕ, zero, suc, ◌+◌, Bool, true, false, cond, ◌&&◌, ◌||◌}
use Rattle.std.proofs.Common.{true≢false, List, [], ◌∷◌, ◌++◌, Option, Some, None, refl, sym, ap}
use Rattle.std.proofs.Common.{◌∙◌, append_assoc, append-nil, arith}
use Rattle.std.specs.List.{list_any}
use Rattle.std.specs.Option.{option_and_then, option_map}
use Rattle.std.specs.Ordering.{is_eq, nat_cmp, ordering_then}
use Rattle.std.specs.Prelude.{slice_get}
use Rattle.std.specs.declared.cmp.Ordering.{Ordering}
use Rattle.std.specs.declared.cmp.Ordering.TheVariants.{Less, Equal, Greater}
use Rattle.std.proofs.lemmas.Cmp.{nat_cmp_total, ranked, tied_itself}
use Rattle.pl_base.specs.declared.place.FileKey.{FileKey}
use Rattle.pl_base.specs.declared.resource.ResourceKey.{ResourceKey}
use Rattle.pl_kept.specs.Below.pl_facts.specs.declared.fact.Event.{Event}
use Rattle.pl_kept.specs.Below.pl_facts.specs.declared.fact.Event.TheVariants as event
use Rattle.pl_kept.specs.Below.pl_facts.specs.declared.fact.Fact.{Fact}
use Rattle.pl_kept.specs.Below.pl_facts.specs.declared.fact.QueuedRun.{QueuedRun}
use Rattle.pl_kept.specs.Below.pl_plan.specs.declared.plan.PlanJob.{PlanJob}
use Rattle.pl_kept.specs.Below.pl_plan.specs.declared.plan.PlanStage.{PlanStage}
use Rattle.pl_kept.specs.Below.pl_journal.specs.About.{is_about, key_of}
use Rattle.pl_kept.specs.Below.pl_journal.specs.Kinds.{is_canceling, is_decision_by, is_job_end, is_queueing}
use Rattle.pl_kept.specs.Below.pl_journal.specs.Kinds.{is_stage_end, is_start, is_taking}
use Rattle.pl_kept.specs.Below.pl_journal.specs.Runs.{queueing, run_told}
use Rattle.pl_kept.specs.Below.pl_journal.specs.Settings.{agent_told, by, pipeline_told, principal_told, resource_told}
use Rattle.pl_kept.specs.Below.pl_journal.specs.Settings.{text_told}
use Rattle.pl_kept.specs.Below.pl_keeper.specs.declared.records.Record.TheVariants as kept
use Rattle.pl_kept.specs.Kept.{decided_kept, kept_at, planned_job, planned_stage, queued_kept}
use Rattle.pl_kept.specs.Kept.{Where, File, Pipeline, Resource, Principal, Agent, Run, Stage, Job}
use Rattle.pl_kept.specs.Kept.{Decision}
use Rattle.pl_kept.specs.Told.{job_end_told, moment_of, stage_end_told, taking_told}
use Rattle.pl_log.specs.Keys as named
use Rattle.pl_log.specs.Keys.{same_key}
use Rattle.pl_log.specs.Latest.{latest}
use Rattle.pl_log.proofs.Chains.{latest_push}
use Rattle.pl_touched.specs.Touched.{is_among, job_places, same_where, stage_places, touched}
use Rattle.pl_touched.specs.Touched.{touched_by, AreNewTo, IsNewTo}

alone : (b : Bool) → (b || false) ≡ false → b ≡ false
alone true e = e
alone false e = refl

first_off : (b c : Bool) → (b || c) ≡ false → b ≡ false
first_off true c e = e
first_off false c e = refl

second_off : (b c : Bool) → (b || c) ≡ false → c ≡ false
second_off true c e = absurd (true≢false e)
second_off false c e = e

never : (b : Bool) → (b && false) ≡ false
never true = refl
never false = refl

off_too : (b c : Bool) → b ≡ false → (b && c) ≡ false
off_too true c e = absurd (true≢false e)
off_too false c e = refl

-- a fact that doesn't pass is passed over
quiet : (test : Fact → Bool) (facts : List Fact) (fact : Fact) → test fact ≡ false →
    latest test (facts ++ fact ∷ []) ≡ latest test facts
quiet test facts fact e = latest_push test facts fact ∙
    ap (λ (b : Bool). cond b (Some fact) (latest test facts)) e

off_file : (at : FileKey) (one : Event) →
    is_among (File at) (touched one) ≡ false → same_key (key_of one) (named.File at) ≡ false
off_file at (event.FilePut file) e =
    alone (same_key (key_of (event.FilePut file)) (named.File at)) e
off_file at (event.FileRemoved key) e =
    alone (same_key (key_of (event.FileRemoved key)) (named.File at)) e
off_file at (event.PipelineSet told) e = refl
off_file at (event.ResourceSet told) e = refl
off_file at (event.PrincipalSet told) e = refl
off_file at (event.AgentSet told) e = refl
off_file at (event.RunQueued told) e = refl
off_file at (event.DecisionMade r s a approve) e = refl
off_file at (event.StageStarted r s) e = refl
off_file at (event.StageEnded r s outcome rule) e = refl
off_file at (event.JobTaken r s j agent) e = refl
off_file at (event.JobEnded outcome reported s j r rule outputs) e = refl
off_file at (event.RunCanceled r) e = refl

off_pipeline : (at : List ℕ) (one : Event) →
    is_among (Pipeline at) (touched one) ≡ false → same_key (key_of one) (named.Pipeline at) ≡ false
off_pipeline at (event.FilePut file) e = refl
off_pipeline at (event.FileRemoved key) e = refl
off_pipeline at (event.PipelineSet told) e =
    alone (same_key (key_of (event.PipelineSet told)) (named.Pipeline at)) e
off_pipeline at (event.ResourceSet told) e = refl
off_pipeline at (event.PrincipalSet told) e = refl
off_pipeline at (event.AgentSet told) e = refl
off_pipeline at (event.RunQueued told) e = refl
off_pipeline at (event.DecisionMade r s a approve) e = refl
off_pipeline at (event.StageStarted r s) e = refl
off_pipeline at (event.StageEnded r s outcome rule) e = refl
off_pipeline at (event.JobTaken r s j agent) e = refl
off_pipeline at (event.JobEnded outcome reported s j r rule outputs) e = refl
off_pipeline at (event.RunCanceled r) e = refl

off_resource : (at : ResourceKey) (one : Event) →
    is_among (Resource at) (touched one) ≡ false → same_key (key_of one) (named.Resource at) ≡ false
off_resource at (event.FilePut file) e = refl
off_resource at (event.FileRemoved key) e = refl
off_resource at (event.PipelineSet told) e = refl
off_resource at (event.ResourceSet told) e =
    alone (same_key (key_of (event.ResourceSet told)) (named.Resource at)) e
off_resource at (event.PrincipalSet told) e = refl
off_resource at (event.AgentSet told) e = refl
off_resource at (event.RunQueued told) e = refl
off_resource at (event.DecisionMade r s a approve) e = refl
off_resource at (event.StageStarted r s) e = refl
off_resource at (event.StageEnded r s outcome rule) e = refl
off_resource at (event.JobTaken r s j agent) e = refl
off_resource at (event.JobEnded outcome reported s j r rule outputs) e = refl
off_resource at (event.RunCanceled r) e = refl

off_principal : (at : List ℕ) (one : Event) →
    is_among (Principal at) (touched one) ≡ false → same_key (key_of one) (named.Principal at) ≡
    false
off_principal at (event.FilePut file) e = refl
off_principal at (event.FileRemoved key) e = refl
off_principal at (event.PipelineSet told) e = refl
off_principal at (event.ResourceSet told) e = refl
off_principal at (event.PrincipalSet told) e =
    alone (same_key (key_of (event.PrincipalSet told)) (named.Principal at)) e
off_principal at (event.AgentSet told) e = refl
off_principal at (event.RunQueued told) e = refl
off_principal at (event.DecisionMade r s a approve) e = refl
off_principal at (event.StageStarted r s) e = refl
off_principal at (event.StageEnded r s outcome rule) e = refl
off_principal at (event.JobTaken r s j agent) e = refl
off_principal at (event.JobEnded outcome reported s j r rule outputs) e = refl
off_principal at (event.RunCanceled r) e = refl

off_agent : (at : List ℕ) (one : Event) →
    is_among (Agent at) (touched one) ≡ false → same_key (key_of one) (named.Agent at) ≡ false
off_agent at (event.FilePut file) e = refl
off_agent at (event.FileRemoved key) e = refl
off_agent at (event.PipelineSet told) e = refl
off_agent at (event.ResourceSet told) e = refl
off_agent at (event.PrincipalSet told) e = refl
off_agent at (event.AgentSet told) e =
    alone (same_key (key_of (event.AgentSet told)) (named.Agent at)) e
off_agent at (event.RunQueued told) e = refl
off_agent at (event.DecisionMade r s a approve) e = refl
off_agent at (event.StageStarted r s) e = refl
off_agent at (event.StageEnded r s outcome rule) e = refl
off_agent at (event.JobTaken r s j agent) e = refl
off_agent at (event.JobEnded outcome reported s j r rule outputs) e = refl
off_agent at (event.RunCanceled r) e = refl

off_run : (run : ℕ) (one : Event) →
    is_among (Run run) (touched one) ≡ false → same_key (key_of one) (named.Run run) ≡ false
off_run run (event.FilePut file) e = refl
off_run run (event.FileRemoved key) e = refl
off_run run (event.PipelineSet told) e = refl
off_run run (event.ResourceSet told) e = refl
off_run run (event.PrincipalSet told) e = refl
off_run run (event.AgentSet told) e = refl
off_run run (event.RunQueued told) e = first_off (same_key (named.Run told.run) (named.Run run))
    (is_among (Run run) (stage_places told.run 0 told.compiled.plan.stages)) e
off_run run (event.DecisionMade r s a approve) e = refl
off_run run (event.StageStarted r s) e = refl
off_run run (event.StageEnded r s outcome rule) e = refl
off_run run (event.JobTaken r s j agent) e = refl
off_run run (event.JobEnded outcome reported s j r rule outputs) e = refl
off_run run (event.RunCanceled r) e = alone (same_key (named.Run r) (named.Run run)) e

off_start : (run stage : ℕ) (one : Event) →
    is_among (Stage run stage) (touched one) ≡ false → (same_key (key_of one) (named.Stage run
    stage) && is_start one) ≡ false
off_start run stage (event.FilePut file) e = refl
off_start run stage (event.FileRemoved key) e = refl
off_start run stage (event.PipelineSet told) e = refl
off_start run stage (event.ResourceSet told) e = refl
off_start run stage (event.PrincipalSet told) e = refl
off_start run stage (event.AgentSet told) e = refl
off_start run stage (event.RunQueued told) e = refl
off_start run stage (event.DecisionMade r s a approve) e =
    never (same_key (named.Stage r s) (named.Stage run stage))
off_start run stage (event.StageStarted r s) e =
    off_too (same_key (named.Stage r s) (named.Stage run stage))
    (is_start (event.StageStarted r s))
    (alone (same_key (named.Stage r s) (named.Stage run stage)) e)
off_start run stage (event.StageEnded r s outcome rule) e =
    off_too (same_key (named.Stage r s) (named.Stage run stage))
    (is_start (event.StageEnded r s outcome rule))
    (alone (same_key (named.Stage r s) (named.Stage run stage)) e)
off_start run stage (event.JobTaken r s j agent) e = refl
off_start run stage (event.JobEnded outcome reported s j r rule outputs) e = refl
off_start run stage (event.RunCanceled r) e = refl

off_stage_end : (run stage : ℕ) (one : Event) →
    is_among (Stage run stage) (touched one) ≡ false → (same_key (key_of one) (named.Stage run
    stage) && is_stage_end one) ≡ false
off_stage_end run stage (event.FilePut file) e = refl
off_stage_end run stage (event.FileRemoved key) e = refl
off_stage_end run stage (event.PipelineSet told) e = refl
off_stage_end run stage (event.ResourceSet told) e = refl
off_stage_end run stage (event.PrincipalSet told) e = refl
off_stage_end run stage (event.AgentSet told) e = refl
off_stage_end run stage (event.RunQueued told) e = refl
off_stage_end run stage (event.DecisionMade r s a approve) e =
    never (same_key (named.Stage r s) (named.Stage run stage))
off_stage_end run stage (event.StageStarted r s) e =
    off_too (same_key (named.Stage r s) (named.Stage run stage))
    (is_stage_end (event.StageStarted r s))
    (alone (same_key (named.Stage r s) (named.Stage run stage)) e)
off_stage_end run stage (event.StageEnded r s outcome rule) e =
    off_too (same_key (named.Stage r s) (named.Stage run stage))
    (is_stage_end (event.StageEnded r s outcome rule))
    (alone (same_key (named.Stage r s) (named.Stage run stage)) e)
off_stage_end run stage (event.JobTaken r s j agent) e = refl
off_stage_end run stage (event.JobEnded outcome reported s j r rule outputs) e = refl
off_stage_end run stage (event.RunCanceled r) e = refl

off_taking : (run stage job : ℕ) (one : Event) →
    is_among (Job run stage job) (touched one) ≡ false → (same_key (key_of one) (named.Job run stage
    job) && is_taking one) ≡ false
off_taking run stage job (event.FilePut file) e = refl
off_taking run stage job (event.FileRemoved key) e = refl
off_taking run stage job (event.PipelineSet told) e = refl
off_taking run stage job (event.ResourceSet told) e = refl
off_taking run stage job (event.PrincipalSet told) e = refl
off_taking run stage job (event.AgentSet told) e = refl
off_taking run stage job (event.RunQueued told) e = refl
off_taking run stage job (event.DecisionMade r s a approve) e = refl
off_taking run stage job (event.StageStarted r s) e = refl
off_taking run stage job (event.StageEnded r s outcome rule) e = refl
off_taking run stage job (event.JobTaken r s j agent) e =
    off_too (same_key (named.Job r s j) (named.Job run stage job))
    (is_taking (event.JobTaken r s j agent))
    (alone (same_key (named.Job r s j) (named.Job run stage job)) e)
off_taking run stage job (event.JobEnded outcome reported s j r rule outputs) e =
    off_too (same_key (named.Job r s j) (named.Job run stage job))
    (is_taking (event.JobEnded outcome reported s j r rule outputs))
    (alone (same_key (named.Job r s j) (named.Job run stage job)) e)
off_taking run stage job (event.RunCanceled r) e = refl

off_job_end : (run stage job : ℕ) (one : Event) →
    is_among (Job run stage job) (touched one) ≡ false → (same_key (key_of one) (named.Job run stage
    job) && is_job_end one) ≡ false
off_job_end run stage job (event.FilePut file) e = refl
off_job_end run stage job (event.FileRemoved key) e = refl
off_job_end run stage job (event.PipelineSet told) e = refl
off_job_end run stage job (event.ResourceSet told) e = refl
off_job_end run stage job (event.PrincipalSet told) e = refl
off_job_end run stage job (event.AgentSet told) e = refl
off_job_end run stage job (event.RunQueued told) e = refl
off_job_end run stage job (event.DecisionMade r s a approve) e = refl
off_job_end run stage job (event.StageStarted r s) e = refl
off_job_end run stage job (event.StageEnded r s outcome rule) e = refl
off_job_end run stage job (event.JobTaken r s j agent) e =
    off_too (same_key (named.Job r s j) (named.Job run stage job))
    (is_job_end (event.JobTaken r s j agent))
    (alone (same_key (named.Job r s j) (named.Job run stage job)) e)
off_job_end run stage job (event.JobEnded outcome reported s j r rule outputs) e =
    off_too (same_key (named.Job r s j) (named.Job run stage job))
    (is_job_end (event.JobEnded outcome reported s j r rule outputs))
    (alone (same_key (named.Job r s j) (named.Job run stage job)) e)
off_job_end run stage job (event.RunCanceled r) e = refl

off_decision : (run stage : ℕ) (by_whom : List ℕ) (one : Event) →
    is_among (Decision run stage by_whom) (touched one) ≡ false → (same_key (key_of one)
    (named.Stage run stage) && is_decision_by by_whom one) ≡ false
off_decision run stage by_whom (event.FilePut file) e = refl
off_decision run stage by_whom (event.FileRemoved key) e = refl
off_decision run stage by_whom (event.PipelineSet told) e = refl
off_decision run stage by_whom (event.ResourceSet told) e = refl
off_decision run stage by_whom (event.PrincipalSet told) e = refl
off_decision run stage by_whom (event.AgentSet told) e = refl
off_decision run stage by_whom (event.RunQueued told) e = refl
off_decision run stage by_whom (event.DecisionMade r s a approve) e =
    alone (same_key (named.Stage r s) (named.Stage run stage) &&
    is_decision_by by_whom (event.DecisionMade r s a approve)) e
off_decision run stage by_whom (event.StageStarted r s) e =
    never (same_key (named.Stage r s) (named.Stage run stage))
off_decision run stage by_whom (event.StageEnded r s outcome rule) e =
    never (same_key (named.Stage r s) (named.Stage run stage))
off_decision run stage by_whom (event.JobTaken r s j agent) e = refl
off_decision run stage by_whom (event.JobEnded outcome reported s j r rule outputs) e = refl
off_decision run stage by_whom (event.RunCanceled r) e = refl

-- ---- settings, runs and decisions

module _ (facts : List Fact) (fact : Fact) where
  abbrev more : List Fact
  more = facts ++ fact ∷ []

  stays_file : (at : FileKey) → is_among (File at) (touched fact.event) ≡ false →
      kept_at (File at) more ≡ kept_at (File at) facts
  stays_file at off = ap (λ (found : Option Fact). option_map
      (λ text. kept.File (record { key = at; text = text })) (by text_told found))
      (quiet (is_about (named.File at)) facts fact (off_file at fact.event off))

  stays_pipeline : (at : List ℕ) → is_among (Pipeline at) (touched fact.event) ≡ false →
      kept_at (Pipeline at) more ≡ kept_at (Pipeline at) facts
  stays_pipeline at off = ap (λ (found : Option Fact). option_map
      (λ told. kept.Pipeline (record { name = at; repo = told.repo; path = told.path }))
      (by pipeline_told found))
      (quiet (is_about (named.Pipeline at)) facts fact (off_pipeline at fact.event off))

  stays_resource : (at : ResourceKey) → is_among (Resource at) (touched fact.event) ≡ false →
      kept_at (Resource at) more ≡ kept_at (Resource at) facts
  stays_resource at off = ap (λ (found : Option Fact). option_map
      (λ told. kept.Resource (record {
        key = at;
        exclusive = told.exclusive;
        pipelines = told.pipelines;
        checks = told.checks;
      })) (by resource_told found))
      (quiet (is_about (named.Resource at)) facts fact (off_resource at fact.event off))

  stays_principal : (at : List ℕ) → is_among (Principal at) (touched fact.event) ≡ false →
      kept_at (Principal at) more ≡ kept_at (Principal at) facts
  stays_principal at off = ap (λ (found : Option Fact). option_map
      (λ told. kept.Principal (record { name = at; roles = told.roles; digest = told.digest }))
      (by principal_told found))
      (quiet (is_about (named.Principal at)) facts fact (off_principal at fact.event off))

  stays_agent : (at : List ℕ) → is_among (Agent at) (touched fact.event) ≡ false →
      kept_at (Agent at) more ≡ kept_at (Agent at) facts
  stays_agent at off = ap (λ (found : Option Fact). option_map
      (λ told. kept.Agent (record {
        name = at;
        pool = told.pool;
        capabilities = told.capabilities;
      })) (by agent_told found))
      (quiet (is_about (named.Agent at)) facts fact (off_agent at fact.event off))

  stays_run : (run : ℕ) → is_among (Run run) (touched fact.event) ≡ false →
      kept_at (Run run) more ≡ kept_at (Run run) facts
  stays_run run off =
      let key : same_key (key_of fact.event) (named.Run run) ≡ false = off_run run fact.event off in
      let queued = quiet (λ one. is_about (named.Run run) one && is_queueing one.event) facts fact
      (off_too (same_key (key_of fact.event) (named.Run run)) (is_queueing fact.event) key) in
      let canceled = quiet (λ one. is_about (named.Run run) one && is_canceling one.event) facts
      fact
      (off_too (same_key (key_of fact.event) (named.Run run)) (is_canceling fact.event) key) in
      λ i. option_and_then (queued_kept run (option_map moment_of (canceled i))) (queued i)

  stays_decision : (run stage : ℕ) (by_whom : List ℕ) →
      is_among (Decision run stage by_whom) (touched fact.event) ≡ false →
      kept_at (Decision run stage by_whom) more ≡ kept_at (Decision run stage by_whom) facts
  stays_decision run stage by_whom off =
      ap (λ (found : Option Fact). option_and_then (decided_kept run stage by_whom) found)
      (quiet (λ one. is_about (named.Stage run stage) one && is_decision_by by_whom one.event) facts
      fact (off_decision run stage by_whom fact.event off))

-- ---- plans

any_joined : {X : Type 0} (p : X → Bool) (xs ys : List X) →
    list_any p (xs ++ ys) ≡ (list_any p xs || list_any p ys)
any_joined p [] ys = refl
any_joined p (x ∷ xs) ys = one (p x) (any_joined p xs ys) where
  one : (b : Bool) → list_any p (xs ++ ys) ≡ (list_any p xs || list_any p ys) →
      (b || list_any p (xs ++ ys)) ≡ ((b || list_any p xs) || list_any p ys)
  one true e = refl
  one false e = e

equal : (n : ℕ) → nat_cmp n n ≡ Equal
equal n = tied_itself nat_cmp_total n

-- a stage that isn't among the places of a plan isn't in it
no_stage : (run at i : ℕ) (stages : List PlanStage) →
    is_among (Stage run (at + i)) (stage_places run at stages) ≡ false → slice_get stages i ≡ None
no_stage run at i [] off = refl
no_stage run at zero (stage ∷ stages) off =
    absurd (true≢false (sym here ∙ first_off (same_where (Stage run at) (Stage run (at + 0)))
    (is_among (Stage run (at + 0)) (job_places run at 0 stage.jobs ++
    stage_places run (at + 1) stages)) off)) where
      here : same_where (Stage run at) (Stage run (at + 0)) ≡ true
      here =
          let none : at + 0 ≡ at = omega arith in
          ap (λ (n : ℕ). same_where (Stage run at) (Stage run n)) none ∙
          (λ i. is_eq (ordering_then (equal run i) (equal at i)))
no_stage run at (suc i) (stage ∷ stages) off =
    let next : at + suc i ≡ (at + 1) + i = omega arith in
    no_stage run (at + 1) i stages
    (ap (λ (n : ℕ). is_among (Stage run n) (stage_places run (at + 1) stages)) (sym next) ∙
    second_off (is_among (Stage run (at + suc i)) (job_places run at 0 stage.jobs))
    (is_among (Stage run (at + suc i)) (stage_places run (at + 1) stages))
    (sym (any_joined (λ other. same_where other (Stage run (at + suc i)))
    (job_places run at 0 stage.jobs) (stage_places run (at + 1) stages)) ∙
    second_off (same_where (Stage run at) (Stage run (at + suc i)))
    (is_among (Stage run (at + suc i)) (job_places run at 0 stage.jobs ++
    stage_places run (at + 1) stages)) off))

no_job_in : (run stage at i : ℕ) (jobs : List PlanJob) →
    is_among (Job run stage (at + i)) (job_places run stage at jobs) ≡ false →
    slice_get jobs i ≡ None
no_job_in run stage at i [] off = refl
no_job_in run stage at zero (job ∷ jobs) off =
    absurd (true≢false (sym here ∙
    first_off (same_where (Job run stage at) (Job run stage (at + 0)))
    (is_among (Job run stage (at + 0)) (job_places run stage (at + 1) jobs)) off)) where
      here : same_where (Job run stage at) (Job run stage (at + 0)) ≡ true
      here =
          let none : at + 0 ≡ at = omega arith in
          ap (λ (n : ℕ). same_where (Job run stage at) (Job run stage n)) none ∙
          (λ i. is_eq (ordering_then (ordering_then (equal run i) (equal stage i)) (equal at i)))
no_job_in run stage at (suc i) (job ∷ jobs) off =
    let next : at + suc i ≡ (at + 1) + i = omega arith in
    no_job_in run stage (at + 1) i jobs
    (ap (λ (n : ℕ). is_among (Job run stage n) (job_places run stage (at + 1) jobs)) (sym next) ∙
    second_off (same_where (Job run stage at) (Job run stage (at + suc i)))
    (is_among (Job run stage (at + suc i)) (job_places run stage (at + 1) jobs)) off)

abbrev job_of : ℕ → Option PlanStage → Option PlanJob
job_of job planned = option_and_then (λ told. slice_get told.jobs job) planned

-- a job that isn't among them isn't either
no_job : (run at i job : ℕ) (stages : List PlanStage) →
    is_among (Job run (at + i) job) (stage_places run at stages) ≡ false →
    job_of job (slice_get stages i) ≡ None
no_job run at i job [] off = refl
no_job run at zero job (stage ∷ stages) off =
    let none : at + 0 ≡ at = omega arith in
    let from : 0 + job ≡ job = omega arith in
    no_job_in run at 0 job stage.jobs
    ((λ i. is_among (Job run (sym none i) (from i)) (job_places run at 0 stage.jobs)) ∙
    first_off (is_among (Job run (at + 0) job) (job_places run at 0 stage.jobs))
    (is_among (Job run (at + 0) job) (stage_places run (at + 1) stages))
    (sym (any_joined (λ other. same_where other (Job run (at + 0) job))
    (job_places run at 0 stage.jobs) (stage_places run (at + 1) stages)) ∙ off))
no_job run at (suc i) job (stage ∷ stages) off =
    let next : at + suc i ≡ (at + 1) + i = omega arith in
    no_job run (at + 1) i job stages
    (ap (λ (n : ℕ). is_among (Job run n job) (stage_places run (at + 1) stages)) (sym next) ∙
    second_off (is_among (Job run (at + suc i) job) (job_places run at 0 stage.jobs))
    (is_among (Job run (at + suc i) job) (stage_places run (at + 1) stages))
    (sym (any_joined (λ other. same_where other (Job run (at + suc i) job))
    (job_places run at 0 stage.jobs) (stage_places run (at + 1) stages)) ∙ off))

-- ---- a run that is queued

abbrev queues : ℕ → Event → Bool
queues run one = same_key (key_of one) (named.Run run) && is_queueing one

is_same : (n m : ℕ) (b : Bool) → (is_eq (nat_cmp n m) && b) ≡ true → n ≡ m
is_same n m b e = by (nat_cmp n m) refl e where
  by : (o : Ordering) → nat_cmp n m ≡ o → (is_eq o && b) ≡ true → n ≡ m
  by Less is e = absurd (true≢false (sym e))
  by Equal is e = ranked n m Equal (sym is)
  by Greater is e = absurd (true≢false (sym e))

abbrev stage_of : ℕ → Option QueuedRun → Option PlanStage
stage_of stage queued = option_and_then (λ told. slice_get told.compiled.plan.stages stage) queued

queued_stage : (run stage : ℕ) (one : Event) → queues run one ≡ true →
    is_among (Stage run stage) (touched one) ≡ false → stage_of stage (run_told one) ≡ None
queued_stage run stage (event.FilePut file) e off = refl
queued_stage run stage (event.FileRemoved key) e off = refl
queued_stage run stage (event.PipelineSet told) e off = refl
queued_stage run stage (event.ResourceSet told) e off = refl
queued_stage run stage (event.PrincipalSet told) e off = refl
queued_stage run stage (event.AgentSet told) e off = refl
queued_stage run stage (event.RunQueued told) e off =
    let is : told.run ≡ run = is_same told.run run true e in
    let from : 0 + stage ≡ stage = omega arith in
    no_stage told.run 0 stage told.compiled.plan.stages
    ((λ i. is_among (Stage (is i) (from i)) (stage_places told.run 0 told.compiled.plan.stages)) ∙
    off)
queued_stage run stage (event.DecisionMade r s a approve) e off = refl
queued_stage run stage (event.StageStarted r s) e off = refl
queued_stage run stage (event.StageEnded r s outcome rule) e off = refl
queued_stage run stage (event.JobTaken r s j agent) e off = refl
queued_stage run stage (event.JobEnded outcome reported s j r rule outputs) e off = refl
queued_stage run stage (event.RunCanceled r) e off = refl

queued_job : (run stage job : ℕ) (one : Event) → queues run one ≡ true →
    is_among (Job run stage job) (touched one) ≡ false →
    job_of job (stage_of stage (run_told one)) ≡ None
queued_job run stage job (event.FilePut file) e off = refl
queued_job run stage job (event.FileRemoved key) e off = refl
queued_job run stage job (event.PipelineSet told) e off = refl
queued_job run stage job (event.ResourceSet told) e off = refl
queued_job run stage job (event.PrincipalSet told) e off = refl
queued_job run stage job (event.AgentSet told) e off = refl
queued_job run stage job (event.RunQueued told) e off =
    let is : told.run ≡ run = is_same told.run run true e in
    let from : 0 + stage ≡ stage = omega arith in
    no_job told.run 0 stage job told.compiled.plan.stages
    ((λ i. is_among (Job (is i) (from i) job)
    (stage_places told.run 0 told.compiled.plan.stages)) ∙ off)
queued_job run stage job (event.DecisionMade r s a approve) e off = refl
queued_job run stage job (event.StageStarted r s) e off = refl
queued_job run stage job (event.StageEnded r s outcome rule) e off = refl
queued_job run stage job (event.JobTaken r s j agent) e off = refl
queued_job run stage job (event.JobEnded outcome reported s j r rule outputs) e off = refl
queued_job run stage job (event.RunCanceled r) e off = refl

was_new : (run : ℕ) (facts : List Fact) (one : Event) → queues run one ≡ true →
    IsNewTo facts one → queueing run facts ≡ None
was_new run facts (event.FilePut file) e new = absurd (true≢false (sym e ∙
    never (same_key (key_of (event.FilePut file)) (named.Run run))))
was_new run facts (event.FileRemoved key) e new = absurd (true≢false (sym e ∙
    never (same_key (key_of (event.FileRemoved key)) (named.Run run))))
was_new run facts (event.PipelineSet told) e new = absurd (true≢false (sym e ∙
    never (same_key (key_of (event.PipelineSet told)) (named.Run run))))
was_new run facts (event.ResourceSet told) e new = absurd (true≢false (sym e ∙
    never (same_key (key_of (event.ResourceSet told)) (named.Run run))))
was_new run facts (event.PrincipalSet told) e new = absurd (true≢false (sym e ∙
    never (same_key (key_of (event.PrincipalSet told)) (named.Run run))))
was_new run facts (event.AgentSet told) e new = absurd (true≢false (sym e ∙
    never (same_key (key_of (event.AgentSet told)) (named.Run run))))
was_new run facts (event.RunQueued told) e new =
    ap (λ (n : ℕ). queueing n facts) (sym (is_same told.run run true e)) ∙ new
was_new run facts (event.DecisionMade r s a approve) e new = absurd (true≢false (sym e ∙
    never (same_key (key_of (event.DecisionMade r s a approve)) (named.Run run))))
was_new run facts (event.StageStarted r s) e new = absurd (true≢false (sym e ∙
    never (same_key (key_of (event.StageStarted r s)) (named.Run run))))
was_new run facts (event.StageEnded r s outcome rule) e new = absurd (true≢false (sym e ∙
    never (same_key (key_of (event.StageEnded r s outcome rule)) (named.Run run))))
was_new run facts (event.JobTaken r s j agent) e new = absurd (true≢false (sym e ∙
    never (same_key (key_of (event.JobTaken r s j agent)) (named.Run run))))
was_new run facts (event.JobEnded outcome reported s j r rule outputs) e new =
    absurd (true≢false (sym e ∙
    never (same_key (key_of (event.JobEnded outcome reported s j r rule outputs)) (named.Run run))))
was_new run facts (event.RunCanceled r) e new = absurd (true≢false (sym e ∙
    never (same_key (key_of (event.RunCanceled r)) (named.Run run))))

-- ---- stages and jobs

module _ (facts : List Fact) (fact : Fact) (new : IsNewTo facts fact.event) where
  abbrev later : List Fact
  later = facts ++ fact ∷ []

  abbrev test : ℕ → Fact → Bool
  test run one = is_about (named.Run run) one && is_queueing one.event

  -- the plan's stage is there as it was, or it is there neither before nor behind
  same_stage : (run stage : ℕ) (b : Bool) → queues run fact.event ≡ b →
      is_among (Stage run stage) (touched fact.event) ≡ false →
      planned_stage run stage later ≡ planned_stage run stage facts
  same_stage run stage false e off =
      ap (λ (found : Option Fact). stage_of stage (by run_told found))
      (quiet (test run) facts fact e)
  same_stage run stage true e off =
      ap (λ (found : Option Fact). stage_of stage (by run_told found))
      (latest_push (test run) facts fact ∙
      ap (λ (b : Bool). cond b (Some fact) (latest (test run) facts)) e) ∙
      (queued_stage run stage fact.event e off ∙
      ap (λ (found : Option Fact). stage_of stage (by run_told found))
      (sym (was_new run facts fact.event e new)))

  same_job : (run stage job : ℕ) (b : Bool) → queues run fact.event ≡ b →
      is_among (Job run stage job) (touched fact.event) ≡ false →
      planned_job run stage job later ≡ planned_job run stage job facts
  same_job run stage job false e off =
      ap (λ (found : Option Fact). job_of job (stage_of stage (by run_told found)))
      (quiet (test run) facts fact e)
  same_job run stage job true e off =
      ap (λ (found : Option Fact). job_of job (stage_of stage (by run_told found)))
      (latest_push (test run) facts fact ∙
      ap (λ (b : Bool). cond b (Some fact) (latest (test run) facts)) e) ∙
      (queued_job run stage job fact.event e off ∙
      ap (λ (found : Option Fact). job_of job (stage_of stage (by run_told found)))
      (sym (was_new run facts fact.event e new)))

  stays_stage : (run stage : ℕ) → is_among (Stage run stage) (touched fact.event) ≡ false →
      kept_at (Stage run stage) later ≡ kept_at (Stage run stage) facts
  stays_stage run stage off =
      let planned = same_stage run stage (queues run fact.event) refl off in
      let start = quiet (λ one. is_about (named.Stage run stage) one && is_start one.event) facts
      fact (off_start run stage fact.event off) in
      let ending = quiet (λ one. is_about (named.Stage run stage) one && is_stage_end one.event)
      facts fact (off_stage_end run stage fact.event off) in
      λ i. option_map (λ _. kept.Stage (record {
        run = run;
        position = stage;
        started = option_map moment_of (start i);
        ended = stage_end_told (ending i);
      })) (planned i)

  stays_job : (run stage job : ℕ) → is_among (Job run stage job) (touched fact.event) ≡ false →
      kept_at (Job run stage job) later ≡ kept_at (Job run stage job) facts
  stays_job run stage job off =
      let planned = same_job run stage job (queues run fact.event) refl off in
      let taken = quiet (λ one. is_about (named.Job run stage job) one && is_taking one.event) facts
      fact (off_taking run stage job fact.event off) in
      let ending = quiet (λ one. is_about (named.Job run stage job) one && is_job_end one.event)
      facts fact (off_job_end run stage job fact.event off) in
      λ i. option_map (λ _. kept.Job (record {
        run = run;
        stage = stage;
        position = job;
        taken = taking_told (taken i);
        ended = job_end_told (ending i);
      })) (planned i)

  pub stays : (place : Where) → is_among place (touched fact.event) ≡ false →
      kept_at place later ≡ kept_at place facts
  stays (File at) off = stays_file facts fact at off
  stays (Pipeline at) off = stays_pipeline facts fact at off
  stays (Resource at) off = stays_resource facts fact at off
  stays (Principal at) off = stays_principal facts fact at off
  stays (Agent at) off = stays_agent facts fact at off
  stays (Run run) off = stays_run facts fact run off
  stays (Stage run stage) off = stays_stage run stage off
  stays (Job run stage job) off = stays_job run stage job off
  stays (Decision run stage by_whom) off = stays_decision facts fact run stage by_whom off

-- ---- all facts of an entry

pub all_stay : (added facts : List Fact) (place : Where) → AreNewTo facts added →
    is_among place (touched_by added) ≡ false →
    kept_at place (facts ++ added) ≡ kept_at place facts
all_stay [] facts place new off = ap (kept_at place) (append-nil facts)
all_stay (fact ∷ added) facts place new off =
    let parts : (is_among place (touched fact.event) || is_among place (touched_by added)) ≡ false
    = sym (any_joined (λ other. same_where other place) (touched fact.event) (touched_by added)) ∙
    off in
    ap (kept_at place) (sym (append_assoc facts (fact ∷ []) added)) ∙
    (all_stay added (facts ++ fact ∷ []) place new.1
    (second_off (is_among place (touched fact.event)) (is_among place (touched_by added)) parts) ∙
    stays facts fact new.0 place
    (first_off (is_among place (touched fact.event)) (is_among place (touched_by added)) parts))
