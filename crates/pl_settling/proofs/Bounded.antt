-- What one settling adds is within what the plans of queued runs allow.
use Rattle.std.proofs.Common.{◌≡◌, ◌<◌, ◌≤◌, ◌+◌, ◌⊎◌, ◌&&◌, ℕ, zero, suc, Bool, true, false}
use Rattle.std.proofs.Common.{cond, List, [], ◌∷◌, ◌++◌, Option, Some, None, length, refl, sym, ap}
use Rattle.std.proofs.Common.{◌∙◌, subst, arith, inl, inr}
use Rattle.std.specs.List.{count_by, sum_by}
use Rattle.std.specs.Option.{option_map_or, option_or}
use Rattle.std.specs.Prelude.{if◌then◌else◌, slice_get}
use Rattle.std.proofs.lemmas.Bool.{cases_lt}
use Rattle.std.proofs.lemmas.List.Sums.{sum_by-cons}
use Rattle.pl_facts.specs.declared.fact.Event.{Event}
use Rattle.pl_facts.specs.declared.fact.Event.TheVariants as event
use Rattle.pl_facts.specs.declared.fact.Fact.{Fact}
use Rattle.pl_facts.specs.declared.fact.QueuedRun.{QueuedRun}
use Rattle.pl_due.specs.Below.pl_journal.specs.About.{is_about, key_of}
use Rattle.pl_due.specs.Below.pl_journal.specs.Kinds.{is_queueing}
use Rattle.pl_due.specs.Below.pl_journal.specs.Runs.{queueing, run_told}
use Rattle.pl_due.specs.Below.pl_journal.specs.Settings.{by}
use Rattle.pl_log.specs.Keys.{Job, Named, Run, Stage, same_key}
use Rattle.pl_log.proofs.Naming.{exact_key, key_itself}
use Rattle.pl_facts.specs.Below.pl_plan.specs.declared.plan.PlanStage.{PlanStage}
use Rattle.pl_due.specs.Nodes.{IsStageOf}
use Rattle.pl_due.proofs.Standing.{first_of_two}
use Rattle.pl_settling.specs.Allowed.{allowed, allowed_by, allowed_of}
use Rattle.pl_settling.specs.Laws.{IsOnce}
use Rattle.pl_settling.specs.Settles.{Adds}
use Rattle.pl_settling.proofs.Giving.{gives}
use Rattle.pl_settling.proofs.Occupying.{quiet_if, stage_before}
use Rattle.pl_settling.proofs.Planned.{IsOfStage, of_plan}

-- ---- how many of some facts are about the stages and jobs of a plan

abbrev about : Named → List Fact → ℕ
about key added = count_by (is_about key) added

abbrev jobs_about : ℕ → ℕ → ℕ → List Fact → ℕ
jobs_about run stage zero added = 0
jobs_about run stage (suc n) added = about (Job run stage n) added + jobs_about run stage n added

abbrev stage_about : ℕ → ℕ → PlanStage → List Fact → ℕ
stage_about run stage one added =
    about (Stage run stage) added + jobs_about run stage (length one.jobs) added

abbrev stages_about : ℕ → ℕ → List PlanStage → List Fact → ℕ
stages_about run at [] added = 0
stages_about run at (one ∷ stages) added =
    stage_about run at one added + stages_about run (suc at) stages added

abbrev run_about : Option QueuedRun → List Fact → ℕ
run_about None added = 0
run_about (Some told) added = stages_about told.run 0 told.compiled.plan.stages added

abbrev runs_about : List Fact → List Fact → ℕ
runs_about [] added = 0
runs_about (fact ∷ facts) added =
    run_about (run_told fact.event) added + runs_about facts added

-- ---- at most as many as are allowed

module _ (added : List Fact) (once : IsOnce added) where
  jobs_within : (run stage n : ℕ) → jobs_about run stage n added ≤ n
  jobs_within run stage zero = omega arith
  jobs_within run stage (suc n) =
      let first = once.job run stage n in
      let rest = jobs_within run stage n in
      omega (arith, first, rest)

  stages_within : (run at : ℕ) (stages : List PlanStage) →
      stages_about run at stages added ≤ sum_by allowed_of stages
  stages_within run at [] = omega arith
  stages_within run at (one ∷ stages) =
      let e = sum_by-cons allowed_of one stages in
      let first = once.stage run at in
      let jobs = jobs_within run at (length one.jobs) in
      let rest = stages_within run (suc at) stages in
      omega (arith, e, first, jobs, rest)

  run_within : (o : Option QueuedRun) →
      run_about o added
      ≤ option_map_or (λ told. sum_by allowed_of told.compiled.plan.stages) o 0
  run_within None = omega arith
  run_within (Some told) = stages_within told.run 0 told.compiled.plan.stages

  runs_within : (facts : List Fact) → runs_about facts added ≤ allowed facts
  runs_within [] = omega arith
  runs_within (fact ∷ facts) =
      let e = sum_by-cons allowed_by fact facts in
      let first = run_within (run_told fact.event) in
      let rest = runs_within facts in
      omega (arith, e, first, rest)

-- ---- a run by the fact that queues it

number_of : (told : Event) (queued : QueuedRun) (run : ℕ) → run_told told ≡ Some queued →
    key_of told ≡ Run run → queued.run ≡ run
number_of (event.RunQueued t) queued run is key =
    let same : t ≡ queued = cc in
    let number : t.run ≡ run = cc in
    ap (λ (q : QueuedRun). q.run) (sym same) ∙ number
number_of _ queued run is key = absurd (cc)

abbrev queues : ℕ → Fact → Bool
queues run fact = is_about (Run run) fact && is_queueing fact.event

-- what a run is told behind this fact, by what the later ones tell
abbrev behind : ℕ → Fact → Option Fact → Option QueuedRun
behind run fact later = by run_told (option_or later (if queues run fact then Some fact else None))

told_by : (run : ℕ) (fact : Fact) (told : QueuedRun) →
    by run_told (if queues run fact then Some fact else None) ≡ Some told →
    (run_told fact.event ≡ Some told) × (told.run ≡ run)
told_by run fact told is = go (queues run fact) refl is
  where
    go : (b : Bool) → queues run fact ≡ b →
        by run_told (if b then Some fact else None) ≡ Some told →
        (run_told fact.event ≡ Some told) × (told.run ≡ run)
    go true counts tells = (
      tells,
      number_of fact.event told run tells (exact_key (key_of fact.event) (Run run)
          (first_of_two (is_about (Run run) fact) (is_queueing fact.event) counts)),
    )
    go false counts tells = absurd (cc)

-- ---- one more of them

module _ (one : Fact) (added : List Fact) where
  about_more : (key : Named) →
      about key (one ∷ added) ≡ cond (is_about key one) 1 0 + about key added
  about_more key = sum_by-cons (λ x. cond (is_about key x) 1 0) one added

  about_hit : (key : Named) → is_about key one ≡ true →
      about key (one ∷ added) ≡ 1 + about key added
  about_hit key is = about_more key ∙ ap (λ b. cond b 1 0 + about key added) is

  jobs_more : (run stage n : ℕ) →
      jobs_about run stage n added ≤ jobs_about run stage n (one ∷ added)
  jobs_more run stage zero = omega arith
  jobs_more run stage (suc n) =
      let e = about_more (Job run stage n) in
      let rest = jobs_more run stage n in
      omega (arith, e, rest)

  stages_more : (run at : ℕ) (stages : List PlanStage) →
      stages_about run at stages added ≤ stages_about run at stages (one ∷ added)
  stages_more run at [] = omega arith
  stages_more run at (first ∷ stages) =
      let e = about_more (Stage run at) in
      let jobs = jobs_more run at (length first.jobs) in
      let rest = stages_more run (suc at) stages in
      omega (arith, e, jobs, rest)

  run_more : (o : Option QueuedRun) → run_about o added ≤ run_about o (one ∷ added)
  run_more None = omega arith
  run_more (Some told) = stages_more told.run 0 told.compiled.plan.stages

  runs_more : (facts : List Fact) → runs_about facts added ≤ runs_about facts (one ∷ added)
  runs_more [] = omega arith
  runs_more (fact ∷ facts) =
      let first = run_more (run_told fact.event) in
      let rest = runs_more facts in
      omega (arith, first, rest)

  jobs_hit : (run stage n job : ℕ) → job < n → is_about (Job run stage job) one ≡ true →
      1 + jobs_about run stage n added ≤ jobs_about run stage n (one ∷ added)
  jobs_hit run stage zero job below is = omega (arith, below)
  jobs_hit run stage (suc n) job below is =
      go (cases_lt job n) (λ less. jobs_hit run stage n job less is)
    where
      go : (job < n) ⊎ (n ≤ job) → (job < n →
          1 + jobs_about run stage n added ≤ jobs_about run stage n (one ∷ added)) →
          1 + jobs_about run stage (suc n) added ≤ jobs_about run stage (suc n) (one ∷ added)
      go (inl less) among =
          let e = about_more (Job run stage n) in
          let rest = among less in
          omega (arith, e, rest)
      go (inr least) among =
          let e : job ≡ n = omega (arith, below, least) in
          let hit = about_hit (Job run stage n)
          (subst (λ j. is_about (Job run stage j) one ≡ true) e is) in
          let rest = jobs_more run stage n in
          omega (arith, hit, rest)

  stage_hit : (run stage : ℕ) (planned : PlanStage) → IsOfStage run stage planned one.event →
      1 + stage_about run stage planned added ≤ stage_about run stage planned (one ∷ added)
  stage_hit run stage planned (inl is) =
      let hit = about_hit (Stage run stage)
      (ap (λ key. same_key key (Stage run stage)) is ∙ key_itself (Stage run stage)) in
      let jobs = jobs_more run stage (length planned.jobs) in
      omega (arith, hit, jobs)
  stage_hit run stage planned (inr (job, below, is)) =
      let e = about_more (Stage run stage) in
      let hit = jobs_hit run stage (length planned.jobs) job below
      (ap (λ key. same_key key (Job run stage job)) is ∙ key_itself (Job run stage job)) in
      omega (arith, e, hit)

  stages_hit : (run at place stage : ℕ) (stages : List PlanStage) (planned : PlanStage) →
      slice_get stages place ≡ Some planned → stage ≡ at + place →
      IsOfStage run stage planned one.event →
      1 + stages_about run at stages added ≤ stages_about run at stages (one ∷ added)
  stages_hit run at place stage [] planned there e of = absurd (cc)
  stages_hit run at zero stage (first ∷ stages) planned there e of =
      let same : first ≡ planned = cc in
      let here : stage ≡ at = omega (arith, e) in
      let hit = stage_hit run at first
      (subst (λ s. IsOfStage run s first one.event) here
      (subst (λ p. IsOfStage run stage p one.event) (sym same) of)) in
      let rest = stages_more run (suc at) stages in
      omega (arith, hit, rest)
  stages_hit run at (suc place) stage (first ∷ stages) planned there e of =
      let a = about_more (Stage run at) in
      let jobs = jobs_more run at (length first.jobs) in
      let later : stage ≡ suc at + place = omega (arith, e) in
      let rest = stages_hit run (suc at) place stage stages planned there later of in
      omega (arith, a, jobs, rest)

  run_hit : (run stage : ℕ) (o : Option QueuedRun) (told : QueuedRun) (planned : PlanStage) →
      o ≡ Some told → told.run ≡ run →
      slice_get told.compiled.plan.stages stage ≡ Some planned →
      IsOfStage run stage planned one.event →
      1 + run_about o added ≤ run_about o (one ∷ added)
  run_hit run stage o told planned is number there of =
      let e : stage ≡ 0 + stage = omega arith in
      let hit = stages_hit told.run 0 stage stage told.compiled.plan.stages planned there e
      (subst (λ r. IsOfStage r stage planned one.event) (sym number) of) in
      subst (λ some. 1 + run_about some added ≤ run_about some (one ∷ added)) (sym is) hit

  runs_hit : (run stage : ℕ) (told : QueuedRun) (planned : PlanStage) (facts : List Fact) →
      IsStageOf facts run stage told planned → IsOfStage run stage planned one.event →
      1 + runs_about facts added ≤ runs_about facts (one ∷ added)
  runs_hit run stage told planned [] there of =
      let e : None ≡ Some told = there.queued in absurd (cc)
  runs_hit run stage told planned (fact ∷ facts) there of =
      go (queueing run facts) refl
      (λ later. runs_hit run stage told planned facts later of)
    where
      go : (o : Option Fact) → queueing run facts ≡ o →
          (IsStageOf facts run stage told planned →
          1 + runs_about facts added ≤ runs_about facts (one ∷ added)) →
          1 + runs_about (fact ∷ facts) added ≤ runs_about (fact ∷ facts) (one ∷ added)
      go (Some late) is among =
          let queued : behind run fact (queueing run facts) ≡ Some told = there.queued in
          let told_late : by run_told (Some late) ≡ Some told =
          ap (behind run fact) (sym is) ∙ queued in
          let later : IsStageOf facts run stage told planned =
          record { queued = ap (by run_told) is ∙ told_late; planned = there.planned } in
          let rest = among later in
          let first = run_more (run_told fact.event) in
          omega (arith, first, rest)
      go None is among =
          let queued : behind run fact (queueing run facts) ≡ Some told = there.queued in
          let told_here : behind run fact None ≡ Some told =
          ap (behind run fact) (sym is) ∙ queued in
          let (tells, number) = told_by run fact told told_here in
          let first = run_hit run stage (run_told fact.event) told planned tells number
          there.planned of in
          let rest = runs_more facts in
          omega (arith, first, rest)

-- ---- what settling adds

within : (base : List Fact) (moment : ℕ) (facts added : List Fact) →
    ((run stage : ℕ) (told : QueuedRun) (one : PlanStage) → IsStageOf facts run stage told one →
    IsStageOf base run stage told one) → Adds moment facts added →
    length added ≤ runs_about base added
within base moment facts [] same adds = omega arith
within base moment facts (one ∷ added) same (due, at, rest) =
    let is = of_plan facts moment one.event due in
    let hit = runs_hit one added is.run is.stage is.told is.one base
    (same is.run is.stage is.told is.one is.there) is.of in
    let quiet = quiet_if facts moment one (gives facts moment one.event due) in
    let more = within base moment (facts ++ one ∷ []) added
    (λ run stage told planned there. same run stage told planned
    (stage_before facts one quiet run stage told planned there)) rest in
    omega (arith, hit, more)

pub bounded : (moment : ℕ) (facts added : List Fact) → IsOnce added → Adds moment facts added →
    length added ≤ allowed facts
bounded moment facts added once adds =
    let a = within facts moment facts added (λ run stage told one there. there) adds in
    let b = runs_within added once facts in
    omega (arith, a, b)
