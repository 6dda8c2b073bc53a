-- What is kept at a place was brought there by a fact.
use Rattle.std.proofs.Common.{◌≡◌, ◌⊎◌, inl, inr, ℕ, zero, suc, ◌+◌, Bool, true, false, ◌&&◌}
use Rattle.std.proofs.Common.{true≢false, List, [], ◌∷◌, ◌++◌, Option, Some, None, refl, sym, ap}
use Rattle.std.proofs.Common.{subst, ◌∙◌, arith}
use Rattle.std.specs.Option.{option_and_then, option_map, option_or}
use Rattle.std.specs.Ordering.{is_eq}
use Rattle.std.specs.Prelude.{if◌then◌else◌, slice_get, unwrap_or}
use Rattle.std.proofs.lemmas.Map.Lookups.{exact_bytes}
use Rattle.pl_base.specs.Files.{text_cmp}
use Rattle.pl_base.specs.declared.place.FileKey.{FileKey}
use Rattle.pl_base.specs.declared.resource.ResourceKey.{ResourceKey}
use Rattle.pl_base.specs.declared.row.Row.{Row}
use Rattle.pl_changes.proofs.Leading.{none_some}
use Rattle.pl_changes.proofs.Places.{is_equal}
use Rattle.pl_facts.specs.declared.fact.Event.{Event}
use Rattle.pl_facts.specs.declared.fact.Event.TheVariants as event
use Rattle.pl_facts.specs.declared.fact.Fact.{Fact}
use Rattle.pl_facts.specs.declared.fact.QueuedRun.{QueuedRun}
use Rattle.pl_plan.specs.declared.plan.PlanJob.{PlanJob}
use Rattle.pl_plan.specs.declared.plan.PlanStage.{PlanStage}
use Rattle.pl_requests.specs.declared.settings.AgentSetting.{AgentSetting}
use Rattle.pl_requests.specs.declared.settings.PipelineSetting.{PipelineSetting}
use Rattle.pl_requests.specs.declared.settings.PrincipalSetting.{PrincipalSetting}
use Rattle.pl_requests.specs.declared.settings.ResourceSetting.{ResourceSetting}
use Rattle.pl_journal.specs.About.{is_about, key_of}
use Rattle.pl_journal.specs.Kinds.{is_decision_by, is_queueing}
use Rattle.pl_journal.specs.Runs.{queueing, run_told, verdict_told}
use Rattle.pl_journal.specs.Settings.{agent_told, by, pipeline_told, principal_told, resource_told}
use Rattle.pl_journal.specs.Settings.{text_told}
use Rattle.pl_keeper.specs.Rows.{row_of}
use Rattle.pl_keeper.specs.declared.records.Record.{Record}
use Rattle.pl_kept.specs.Kept.{decided_kept, kept_at, planned_job, planned_stage, queued_kept}
use Rattle.pl_kept.specs.Kept.{row_at, Where, File, Pipeline, Resource, Principal, Agent, Run}
use Rattle.pl_kept.specs.Kept.{Stage, Job, Decision}
use Rattle.pl_kept.specs.Told.{moment_of}
use Rattle.pl_journal.specs.Runs.{canceling}
use Rattle.pl_log.proofs.Naming.{exact_key}
use Rattle.pl_log.specs.Keys as named
use Rattle.pl_log.specs.Keys.{same_key}
use Rattle.pl_log.specs.Latest.{latest}
use Rattle.pl_row_changes.specs.Below.pl_rows.proofs.Entry.{Among}
use Rattle.pl_touched.specs.Touched.{job_places, stage_places}
use Rattle.pl_all_rows.specs.Brought.{brought, brought_by}

-- ---- options

mapped : {X Y : Type 0} (f : X → Y) (o : Option X) (y : Y) → option_map f o ≡ Some y →
    (x : X) × (o ≡ Some x)
mapped f None y e = absurd (none_some None y refl e)
mapped f (Some x) y e = (x, refl)

led : {X Y : Type 0} (f : X → Option Y) (o : Option X) (y : Y) → option_and_then f o ≡ Some y →
    (x : X) × (o ≡ Some x) × (f x ≡ Some y)
led f None y e = absurd (none_some None y refl e)
led f (Some x) y e = (x, refl, e)

first_on : (b c : Bool) → (b && c) ≡ true → b ≡ true
first_on true c e = refl
first_on false c e = e

second_on : (b c : Bool) → (b && c) ≡ true → c ≡ true
second_on true c e = e
second_on false c e = absurd (true≢false (sym e))

-- ---- the fact that is found stands among the facts

abbrev InFacts : Fact → List Fact → Type 0
InFacts fact [] = ⊥
InFacts fact (one ∷ facts) = (one ≡ fact) ⊎ InFacts fact facts

found : (test : Fact → Bool) (facts : List Fact) (fact : Fact) → latest test facts ≡ Some fact →
    InFacts fact facts × (test fact ≡ true)
found test [] fact e = absurd (none_some None fact refl e)
found test (one ∷ later) fact e =
    which (latest test later) refl (test one) refl e (found test later fact) where
      which : (o : Option Fact) → latest test later ≡ o → (b : Bool) → test one ≡ b →
          option_or o (if b then Some one else None) ≡ Some fact →
          (latest test later ≡ Some fact → InFacts fact later × (test fact ≡ true)) →
          InFacts fact (one ∷ later) × (test fact ≡ true)
      which (Some x) is b t e rest = let there = rest (is ∙ e) in (inr there.0, there.1)
      which None is true t e rest =
          let same : one ≡ fact = ap (λ (o : Option Fact). unwrap_or o one) e in
          (inl same, ap test (sym same) ∙ t)
      which None is false t e rest = absurd (none_some None fact refl e)

-- ---- places among places

in_front : (at : Where) (one two : List Where) → Among at one → Among at (one ++ two)
in_front at [] two is_in = absurd is_in
in_front at (other ∷ one) two (inl same) = inl same
in_front at (other ∷ one) two (inr rest) = inr (in_front at one two rest)

in_back : (at : Where) (one two : List Where) → Among at two → Among at (one ++ two)
in_back at [] two is_in = is_in
in_back at (other ∷ one) two is_in = inr (in_back at one two is_in)

by_fact : (facts : List Fact) (fact : Fact) (at : Where) → InFacts fact facts →
    Among at (brought fact.event) → Among at (brought_by facts)
by_fact [] fact at is_in brings = absurd is_in
by_fact (one ∷ facts) fact at (inl same) brings =
    in_front at (brought one.event) (brought_by facts)
    (subst (λ (some : Fact). Among at (brought some.event)) (sym same) brings)
by_fact (one ∷ facts) fact at (inr rest) brings =
    in_back at (brought one.event) (brought_by facts) (by_fact facts fact at rest brings)

-- ---- settings

abbrev Brings : Where → named.Named → Event → Type 0
Brings at key one = same_key (key_of one) key ≡ true → Among at (brought one)

file_brought : (at : FileKey) (one : Event) (text : List ℕ) → text_told one ≡ Some text →
    Brings (File at) (named.File at) one
file_brought at (event.FilePut file) text e s =
    let same : named.File file.key ≡ named.File at =
    exact_key (named.File file.key) (named.File at) s in
    let key : file.key ≡ at = cc in inl (ap File key)
file_brought at _ text e s = absurd (none_some None text refl e)

pipeline_brought : (at : List ℕ) (one : Event) (told : PipelineSetting) →
    pipeline_told one ≡ Some told → Brings (Pipeline at) (named.Pipeline at) one
pipeline_brought at (event.PipelineSet it) told e s =
    let same : named.Pipeline it.name ≡ named.Pipeline at =
    exact_key (named.Pipeline it.name) (named.Pipeline at) s in
    let key : it.name ≡ at = cc in inl (ap Pipeline key)
pipeline_brought at _ told e s = absurd (none_some None told refl e)

resource_brought : (at : ResourceKey) (one : Event) (told : ResourceSetting) →
    resource_told one ≡ Some told → Brings (Resource at) (named.Resource at) one
resource_brought at (event.ResourceSet it) told e s =
    let same : named.Resource it.key ≡ named.Resource at =
    exact_key (named.Resource it.key) (named.Resource at) s in
    let key : it.key ≡ at = cc in inl (ap Resource key)
resource_brought at _ told e s = absurd (none_some None told refl e)

principal_brought : (at : List ℕ) (one : Event) (told : PrincipalSetting) →
    principal_told one ≡ Some told → Brings (Principal at) (named.Principal at) one
principal_brought at (event.PrincipalSet it) told e s =
    let same : named.Principal it.name ≡ named.Principal at =
    exact_key (named.Principal it.name) (named.Principal at) s in
    let key : it.name ≡ at = cc in inl (ap Principal key)
principal_brought at _ told e s = absurd (none_some None told refl e)

agent_brought : (at : List ℕ) (one : Event) (told : AgentSetting) →
    agent_told one ≡ Some told → Brings (Agent at) (named.Agent at) one
agent_brought at (event.AgentSet it) told e s =
    let same : named.Agent it.name ≡ named.Agent at =
    exact_key (named.Agent it.name) (named.Agent at) s in
    let key : it.name ≡ at = cc in inl (ap Agent key)
agent_brought at _ told e s = absurd (none_some None told refl e)

-- ---- what a queued run brings

run_is : (one run : ℕ) → same_key (named.Run one) (named.Run run) ≡ true → one ≡ run
run_is one run s =
    let same : named.Run one ≡ named.Run run = exact_key (named.Run one) (named.Run run) s in cc

run_brought : (run : ℕ) (one : Event) (told : QueuedRun) → run_told one ≡ Some told →
    Brings (Run run) (named.Run run) one
run_brought run (event.RunQueued it) told e s = inl (ap Run (run_is it.run run s))
run_brought run _ told e s = absurd (none_some None told refl e)

stage_there : (run at i : ℕ) (stages : List PlanStage) (planned : PlanStage) →
    slice_get stages i ≡ Some planned → Among (Stage run (at + i)) (stage_places run at stages)
stage_there run at i [] planned e = absurd (none_some None planned refl e)
stage_there run at zero (stage ∷ stages) planned e =
    let here : at ≡ at + 0 = omega arith in inl (ap (Stage run) here)
stage_there run at (suc i) (stage ∷ stages) planned e =
    let next : (at + 1) + i ≡ at + suc i = omega arith in
    inr (in_back (Stage run (at + suc i)) (job_places run at 0 stage.jobs)
    (stage_places run (at + 1) stages)
    (subst (λ (n : ℕ). Among (Stage run n) (stage_places run (at + 1) stages)) next
    (stage_there run (at + 1) i stages planned e)))

job_here : (run stage at i : ℕ) (jobs : List PlanJob) (planned : PlanJob) →
    slice_get jobs i ≡ Some planned → Among (Job run stage (at + i)) (job_places run stage at jobs)
job_here run stage at i [] planned e = absurd (none_some None planned refl e)
job_here run stage at zero (job ∷ jobs) planned e =
    let here : at ≡ at + 0 = omega arith in inl (ap (Job run stage) here)
job_here run stage at (suc i) (job ∷ jobs) planned e =
    let next : (at + 1) + i ≡ at + suc i = omega arith in
    inr (subst (λ (n : ℕ). Among (Job run stage n) (job_places run stage (at + 1) jobs)) next
    (job_here run stage (at + 1) i jobs planned e))

job_there : (run at i job : ℕ) (stages : List PlanStage) (stage : PlanStage) (planned : PlanJob) →
    slice_get stages i ≡ Some stage → slice_get stage.jobs job ≡ Some planned →
    Among (Job run (at + i) job) (stage_places run at stages)
job_there run at i job [] stage planned e f = absurd (none_some None stage refl e)
job_there run at zero job (first ∷ stages) stage planned e f =
    let same : first ≡ stage = ap (λ (o : Option PlanStage). unwrap_or o first) e in
    let here : at ≡ at + 0 = omega arith in
    let from : 0 + job ≡ job = omega arith in
    inr (in_front (Job run (at + 0) job) (job_places run at 0 first.jobs)
    (stage_places run (at + 1) stages)
    (subst (λ (n : ℕ). Among (Job run n job) (job_places run at 0 first.jobs)) here
    (subst (λ (n : ℕ). Among (Job run at n) (job_places run at 0 first.jobs)) from
    (job_here run at 0 job first.jobs planned
    (ap (λ (s : PlanStage). slice_get s.jobs job) same ∙ f)))))
job_there run at (suc i) job (first ∷ stages) stage planned e f =
    let next : (at + 1) + i ≡ at + suc i = omega arith in
    inr (in_back (Job run (at + suc i) job) (job_places run at 0 first.jobs)
    (stage_places run (at + 1) stages)
    (subst (λ (n : ℕ). Among (Job run n job) (stage_places run (at + 1) stages)) next
    (job_there run (at + 1) i job stages stage planned e f)))

stage_brought : (run stage : ℕ) (one : Event) (told : QueuedRun) (planned : PlanStage) →
    run_told one ≡ Some told → slice_get told.compiled.plan.stages stage ≡ Some planned →
    Brings (Stage run stage) (named.Run run) one
stage_brought run stage (event.RunQueued it) told planned e f s =
    let same : it ≡ told = ap (λ (o : Option QueuedRun). unwrap_or o it) e in
    let from : 0 + stage ≡ stage = omega arith in
    inr (subst (λ (r : ℕ). Among (Stage r stage)
    (stage_places it.run 0 it.compiled.plan.stages)) (run_is it.run run s)
    (subst (λ (n : ℕ). Among (Stage it.run n) (stage_places it.run 0 it.compiled.plan.stages)) from
    (stage_there it.run 0 stage it.compiled.plan.stages planned
    (ap (λ (q : QueuedRun). slice_get q.compiled.plan.stages stage) same ∙ f))))
stage_brought run stage _ told planned e f s = absurd (none_some None told refl e)

job_brought : (run stage job : ℕ) (one : Event) (told : QueuedRun) (at : PlanStage)
    (planned : PlanJob) → run_told one ≡ Some told →
    slice_get told.compiled.plan.stages stage ≡ Some at → slice_get at.jobs job ≡ Some planned →
    Brings (Job run stage job) (named.Run run) one
job_brought run stage job (event.RunQueued it) told at planned e f g s =
    let same : it ≡ told = ap (λ (o : Option QueuedRun). unwrap_or o it) e in
    let from : 0 + stage ≡ stage = omega arith in
    inr (subst (λ (r : ℕ). Among (Job r stage job)
    (stage_places it.run 0 it.compiled.plan.stages)) (run_is it.run run s)
    (subst (λ (n : ℕ). Among (Job it.run n job)
    (stage_places it.run 0 it.compiled.plan.stages)) from
    (job_there it.run 0 stage job it.compiled.plan.stages at planned
    (ap (λ (q : QueuedRun). slice_get q.compiled.plan.stages stage) same ∙ f) g)))
job_brought run stage job _ told at planned e f g s = absurd (none_some None told refl e)

decision_brought : (run stage : ℕ) (name : List ℕ) (one : Event) →
    is_decision_by name one ≡ true → Brings (Decision run stage name) (named.Stage run stage) one
decision_brought run stage name (event.DecisionMade r s approver approve) e key =
    let same : named.Stage r s ≡ named.Stage run stage =
    exact_key (named.Stage r s) (named.Stage run stage) key in
    let one : r ≡ run = cc in
    let two : s ≡ stage = cc in
    let three : approver ≡ name = exact_bytes approver name
    (is_equal (text_cmp approver name) e) in
    inl (λ i. Decision (one i) (two i) (three i))
decision_brought run stage name _ e key = absurd (true≢false (sym e))

-- ---- at each place

module _ (facts : List Fact) where
  at_fact : (at : Where) (test : Fact → Bool) (fact : Fact) → latest test facts ≡ Some fact →
      (test fact ≡ true → Among at (brought fact.event)) → Among at (brought_by facts)
  at_fact at test fact e brings =
      let there = found test facts fact e in by_fact facts fact at there.0 (brings there.1)

  told_by : {X : Type 0} (at : Where) (test : Fact → Bool) (told : Event → Option X) (x : X) →
      by told (latest test facts) ≡ Some x →
      ((one : Fact) → told one.event ≡ Some x → test one ≡ true → Among at (brought one.event)) →
      Among at (brought_by facts)
  told_by at test told x e brings =
      let some = led (λ (one : Fact). told one.event) (latest test facts) x e in
      at_fact at test some.0 some.1 (brings some.0 some.2)

  about_run : (run : ℕ) (one : Fact) → (is_about (named.Run run) one && is_queueing one.event) ≡
      true → same_key (key_of one.event) (named.Run run) ≡ true
  about_run run one e = first_on (is_about (named.Run run) one) (is_queueing one.event) e

  pub kept_brought : (at : Where) (kept : Record) → kept_at at facts ≡ Some kept →
      Among at (brought_by facts)
  kept_brought (File key) kept e =
      let some = mapped _ _ kept e in
      told_by (File key) _ text_told some.0 some.1
      (λ one told about. file_brought key one.event some.0 told about)
  kept_brought (Pipeline name) kept e =
      let some = mapped _ _ kept e in
      told_by (Pipeline name) _ pipeline_told some.0 some.1
      (λ one told about. pipeline_brought name one.event some.0 told about)
  kept_brought (Resource key) kept e =
      let some = mapped _ _ kept e in
      told_by (Resource key) _ resource_told some.0 some.1
      (λ one told about. resource_brought key one.event some.0 told about)
  kept_brought (Principal name) kept e =
      let some = mapped _ _ kept e in
      told_by (Principal name) _ principal_told some.0 some.1
      (λ one told about. principal_brought name one.event some.0 told about)
  kept_brought (Agent name) kept e =
      let some = mapped _ _ kept e in
      told_by (Agent name) _ agent_told some.0 some.1
      (λ one told about. agent_brought name one.event some.0 told about)
  kept_brought (Run run) kept e =
      let some = led _ _ kept e in
      let told = mapped _ _ kept some.2 in
      at_fact (Run run) _ some.0 some.1
      (λ about. run_brought run some.0.event told.0 told.1 (about_run run some.0 about))
  kept_brought (Stage run stage) kept e =
      let planned = mapped _ _ kept e in
      let queued = led _ _ planned.0 planned.1 in
      told_by (Stage run stage) _ run_told queued.0 queued.1
      (λ one told about. stage_brought run stage one.event queued.0 planned.0 told queued.2
      (about_run run one about))
  kept_brought (Job run stage job) kept e =
      let planned = mapped _ _ kept e in
      let at = led _ _ planned.0 planned.1 in
      let queued = led _ _ at.0 at.1 in
      told_by (Job run stage job) _ run_told queued.0 queued.1
      (λ one told about. job_brought run stage job one.event queued.0 at.0 planned.0 told
      queued.2 at.2 (about_run run one about))
  kept_brought (Decision run stage name) kept e =
      let some = led _ _ kept e in
      at_fact (Decision run stage name) _ some.0 some.1
      (λ about. decision_brought run stage name some.0.event
      (second_on (is_about (named.Stage run stage) some.0)
      (is_decision_by name some.0.event) about)
      (first_on (is_about (named.Stage run stage) some.0)
      (is_decision_by name some.0.event) about))
