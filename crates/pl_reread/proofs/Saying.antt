-- What is left to be said of the records of a state.
use Rattle.std.proofs.Common.{◌≡◌, ◌⊎◌, inl, inr, ℕ, ◌<◌, ◌^◌, nat_lt, Bool, true, false, List, ◌∷◌, ◌++◌}
use Rattle.std.proofs.Common.{slice_get, Option, Some, None, refl, sym, ap, subst, ◌∙◌}
use Rattle.std.specs.List.{AllByRecursion}
use Rattle.std.specs.Option.{option_and_then, option_map, option_map_or}
use Rattle.std.specs.Prelude.{unwrap_or, IfSome, if◌then◌else◌}
use Rattle.pl_base.specs.declared.digest.Digest.{Digest}
use Rattle.pl_facts.specs.declared.fact.Fact.{Fact}
use Rattle.pl_facts.specs.declared.fact.QueuedRun.{QueuedRun}
use Rattle.pl_journal.specs.Log.{Log, last_moment, last_run, version}
use Rattle.pl_facts.specs.Sizes.{counted}
use Rattle.pl_journal.specs.Runs.{canceling, decision, queueing, run_told}
use Rattle.pl_journal.specs.Settings.{agent_set, by, file, pipeline, principal_set, resource_set}
use Rattle.pl_keeper.specs.Keeping.{place}
use Rattle.pl_keeper.specs.declared.records.KeptJob.{KeptJob}
use Rattle.pl_keeper.specs.declared.records.KeptRun.{KeptRun}
use Rattle.pl_keeper.specs.declared.records.KeptStage.{KeptStage}
use Rattle.pl_keeper.specs.declared.records.Record.{Record}
use Rattle.pl_keeper.specs.declared.records.Record.TheVariants as kept
use Rattle.pl_changes.specs.Differing.{Ascend}
use Rattle.pl_changes.proofs.Leading.{none_some, or_false}
use Rattle.pl_changes.proofs.Places.{Place}
use Rattle.pl_kept.specs.Kept.{kept_at, numbers_kept, planned_job, planned_stage, Where, File}
use Rattle.pl_kept.specs.Kept.{Pipeline, Resource, Principal, Agent, Run, Stage, Job, Decision}
use Rattle.pl_places.specs.Places.{place_at, Fits}
use Rattle.pl_plan.specs.declared.plan.Compiled.{Compiled}
use Rattle.pl_plan.specs.declared.plan.Plan.{Plan}
use Rattle.pl_plan.specs.declared.plan.PlanJob.{PlanJob}
use Rattle.pl_plan.specs.declared.plan.PlanStage.{PlanStage}
use Rattle.pl_torn.specs.Seen.{seen_at}
use Rattle.pl_torn.specs.Looking as torn
use Rattle.pl_torn.specs.Looking.{plan_told}
use Rattle.pl_torn.specs.Plans.{lacks_rows}
use Rattle.pl_torn.specs.Torn.{is_bad_job_of, is_bad_record, is_bad_stage_of}
use Rattle.pl_torn.specs.declared.seen.Seen.{Seen}
use Rattle.pl_reread.specs.Reread.{AreMade, AreTheNumbers, AreToldBy, IsGood, IsToldAt, LeaveNothing}
use Rattle.pl_reread.specs.Reread.{SayNothingBad, compiled_of}
use Rattle.pl_reread.proofs.Judging.{picked}
use Rattle.pl_reread.proofs.Planned.{no_rows_lack, own_seen, stage_is}
use Rattle.pl_reread.proofs.Rereading.{rows_in}

-- ---- the place of a record

abbrev where_of : Record → Option Where
where_of (kept.Meta told) = None
where_of (kept.File told) = Some (File told.key)
where_of (kept.Pipeline told) = Some (Pipeline told.name)
where_of (kept.Resource told) = Some (Resource told.key)
where_of (kept.Principal told) = Some (Principal told.name)
where_of (kept.Agent told) = Some (Agent told.name)
where_of (kept.Run told) = Some (Run told.run)
where_of (kept.Stage told) = Some (Stage told.run told.position)
where_of (kept.Job told) = Some (Job told.run told.stage told.position)
where_of (kept.Decision told) = Some (Decision told.run told.stage told.approver)

mapped : {X : Type 0} (f : X → Record) (here : Where) → ((x : X) → where_of (f x) ≡ Some here) →
    (o : Option X) (told : Record) → option_map f o ≡ Some told → where_of told ≡ Some here
mapped f here own None told e = absurd (none_some None told refl e)
mapped f here own (Some x) told e =
    ap (λ (o : Option Record). option_and_then where_of o) (sym e) ∙ own x

led : {X Y : Type 0} (g : X → Option Y) (f : X → Y → Record) (here : Where) →
    ((x : X) (y : Y) → where_of (f x y) ≡ Some here) → (o : Option X) (told : Record) →
    option_and_then (λ x. option_map (f x) (g x)) o ≡ Some told → where_of told ≡ Some here
led g f here own None told e = absurd (none_some None told refl e)
led g f here own (Some x) told e = mapped (f x) here (own x) (g x) told e

-- what is kept at a place is of that place
pub of_place : (facts : List Fact) (here : Where) (told : Record) →
    kept_at here facts ≡ Some told → where_of told ≡ Some here
of_place facts (File key) told e = mapped _ (File key) (λ x. refl) (file key facts) told e
of_place facts (Pipeline name) told e =
    mapped _ (Pipeline name) (λ x. refl) (pipeline name facts) told e
of_place facts (Resource key) told e =
    mapped _ (Resource key) (λ x. refl) (resource_set key facts) told e
of_place facts (Principal name) told e =
    mapped _ (Principal name) (λ x. refl) (principal_set name facts) told e
of_place facts (Agent name) told e =
    mapped _ (Agent name) (λ x. refl) (agent_set name facts) told e
of_place facts (Run run) told e =
    led (λ (fact : Fact). run_told fact.event) _ (Run run) (λ x y. refl) (queueing run facts) told e
of_place facts (Stage run stage) told e =
    mapped _ (Stage run stage) (λ x. refl) (planned_stage run stage facts) told e
of_place facts (Job run stage job) told e =
    mapped _ (Job run stage job) (λ x. refl) (planned_job run stage job facts) told e
of_place facts (Decision run stage name) told e =
    led _ _ (Decision run stage name) (λ x y. refl) (decision run stage name facts) told e

-- ---- where each record says nothing bad of what is left, none says something bad

the_where : (one other : Where) → Some one ≡ Some other → one ≡ other
the_where one other e = ap (λ (o : Option Where). unwrap_or o one) e

abbrev counts : ℕ → Log → Record
counts change log = kept.Meta (record {
  moment = last_moment log;
  run = last_run log;
  version = counted (version log);
  change = change;
})

-- the numbers say nothing bad
numbers_say : (admin : Digest) (all front : List Seen) (compiled : Option Compiled) (change : ℕ)
    (log : Log) (told : Record) → numbers_kept change log ≡ Some told →
    is_bad_record admin all front compiled told ≡ false
numbers_say admin all front compiled change log told e = by (nat_lt 0 change) e where
  by : (b : Bool) → (if b then Some (counts change log) else None) ≡ Some told →
      is_bad_record admin all front compiled told ≡ false
  by true f = ap (λ (o : Option Record).
      option_map_or (is_bad_record admin all front compiled) o false) (sym f)
  by false f = absurd (none_some None told refl f)

some_in : {X Y : Type 0} (f : X → Y) (o : Option X) (y : Y) → option_map f o ≡ Some y →
    (x : X) × (o ≡ Some x)
some_in f None y e = absurd (none_some None y refl e)
some_in f (Some x) y e = (x, refl)

some_both : {X Y : Type 0} (g : X → Option Y) (o : Option X) (y : Y) →
    option_and_then g o ≡ Some y → (x : X) × (o ≡ Some x) × (g x ≡ Some y)
some_both g None y e = absurd (none_some None y refl e)
some_both g (Some x) y e = (x, refl, e)

module _ (admin : Digest) (change : ℕ) (log : Log) (all : List Seen)
    (is : AreToldBy change log all) (ascend : Ascend (rows_in all)) (made : AreMade log all)
    (good : (at : Where) → IfSome (kept_at at log.facts) IsGood)
    (left : LeaveNothing admin log all) where
  -- a run's row, and those of its stages and jobs: what it was compiled to
  run_says : (front : List Seen) (one : Seen) (rest : List Seen) → front ++ one ∷ rest ≡ all →
      (told : KeptRun) → one.kept ≡ Some (kept.Run told) →
      kept_at (Run told.run) log.facts ≡ Some (kept.Run told) → Fits (Run told.run) →
      one.compiled ≡ compiled_of told.run log.facts →
      is_bad_record admin all front one.compiled (kept.Run told) ≡ false
  run_says front one rest e told said kept_is fits compiled =
      let fact = some_both _ (queueing told.run log.facts) (kept.Run told) kept_is in
      let queued = some_in _ (run_told fact.0.event) (kept.Run told) fact.2 in
      let queued_is : by run_told (queueing told.run log.facts) ≡ Some queued.0 =
      ap (by run_told) fact.1 ∙ queued.1 in
      or_false (lacks_rows all one.compiled told) _
      (ap (λ (some : Option Compiled). lacks_rows all some told) (compiled ∙
      ap (option_map (λ (one : QueuedRun). one.compiled)) queued_is) ∙
      no_rows_lack change log all is made good told queued.0 queued_is)
      (left front one rest e (kept.Run told) said)

  stage_says : (front : List Seen) (one : Seen) (rest : List Seen) → front ++ one ∷ rest ≡ all →
      (told : KeptStage) → one.kept ≡ Some (kept.Stage told) →
      kept_at (Stage told.run told.position) log.facts ≡ Some (kept.Stage told) →
      Fits (Stage told.run told.position) →
      is_bad_record admin all front one.compiled (kept.Stage told) ≡ false
  stage_says front one rest e told said kept_is fits =
      let planned = some_in _ (planned_stage told.run told.position log.facts) (kept.Stage told)
      kept_is in
      let queued = some_both _ (by run_told (queueing told.run log.facts)) planned.0 planned.1 in
      let plan_is : plan_told told.run all ≡ Some queued.0.compiled.plan =
      ap (option_map (λ (one : Compiled). one.plan)) (made told.run fits.0 ∙
      ap (option_map (λ (one : QueuedRun). one.compiled)) queued.1) in
      ap (λ (some : Option Plan). option_map_or (λ plan. option_map_or
      (is_bad_stage_of all front plan.stages told) (slice_get plan.stages told.position) true) some
      true) plan_is ∙
      (ap (λ (some : Option PlanStage). option_map_or
      (is_bad_stage_of all front queued.0.compiled.plan.stages told) some true) queued.2 ∙
      left front one rest e (kept.Stage told) said queued.0 planned.0 queued.1 queued.2)

  job_says : (front : List Seen) (one : Seen) (rest : List Seen) → front ++ one ∷ rest ≡ all →
      (told : KeptJob) → one.kept ≡ Some (kept.Job told) →
      kept_at (Job told.run told.stage told.position) log.facts ≡ Some (kept.Job told) →
      Fits (Job told.run told.stage told.position) →
      is_bad_record admin all front one.compiled (kept.Job told) ≡ false
  job_says front one rest e told said kept_is fits =
      let job = some_in _ (planned_job told.run told.stage told.position log.facts)
      (kept.Job told) kept_is in
      let planned = some_both _ (planned_stage told.run told.stage log.facts) job.0 job.1 in
      let planned_is : torn.planned_stage told.run told.stage all ≡ Some planned.0 =
      stage_is change log all is made good told.run told.stage fits.0 ∙ planned.1 in
      ap (λ (some : Option PlanStage). option_map_or (λ one. option_map_or
      (is_bad_job_of all front told one) (slice_get one.jobs told.position) true) some true)
      planned_is ∙
      (ap (λ (some : Option PlanJob). option_map_or
      (is_bad_job_of all front told planned.0) some true) planned.2 ∙
      left front one rest e (kept.Job told) said planned.0 job.0 planned.1 planned.2)

  -- at its own place
  say : (front : List Seen) (one : Seen) (rest : List Seen) → front ++ one ∷ rest ≡ all →
      (told : Record) (here : Where) → one.kept ≡ Some told →
      kept_at here log.facts ≡ Some told → Fits here →
      ((run : ℕ) → here ≡ Run run → one.compiled ≡ compiled_of run log.facts) →
      where_of told ≡ Some here → is_bad_record admin all front one.compiled told ≡ false
  say front one rest e (kept.Meta told) here said kept_is fits compiled at = refl
  say front one rest e (kept.File told) here said kept_is fits compiled at = refl
  say front one rest e (kept.Pipeline told) here said kept_is fits compiled at =
      left front one rest e (kept.Pipeline told) said
  say front one rest e (kept.Resource told) here said kept_is fits compiled at = refl
  say front one rest e (kept.Principal told) here said kept_is fits compiled at =
      left front one rest e (kept.Principal told) said
  say front one rest e (kept.Agent told) here said kept_is fits compiled at = refl
  say front one rest e (kept.Run told) here said kept_is fits compiled at =
      let same : here ≡ Run told.run = sym (the_where (Run told.run) here at) in
      run_says front one rest e told said
      (subst (λ (w : Where). kept_at w log.facts ≡ Some (kept.Run told)) same kept_is)
      (subst Fits same fits) (compiled told.run same)
  say front one rest e (kept.Stage told) here said kept_is fits compiled at =
      let same : here ≡ Stage told.run told.position =
      sym (the_where (Stage told.run told.position) here at) in
      stage_says front one rest e told said
      (subst (λ (w : Where). kept_at w log.facts ≡ Some (kept.Stage told)) same kept_is)
      (subst Fits same fits)
  say front one rest e (kept.Job told) here said kept_is fits compiled at =
      let same : here ≡ Job told.run told.stage told.position =
      sym (the_where (Job told.run told.stage told.position) here at) in
      job_says front one rest e told said
      (subst (λ (w : Where). kept_at w log.facts ≡ Some (kept.Job told)) same kept_is)
      (subst Fits same fits)
  say front one rest e (kept.Decision told) here said kept_is fits compiled at =
      left front one rest e (kept.Decision told) said

  -- what a run's row was compiled to
  compiled_is : (one : Seen) (here : Where) → Fits here → place one.row.now ≡ place_at here →
      seen_at (place one.row.now) all ≡ Some one → (run : ℕ) → here ≡ Run run →
      one.compiled ≡ compiled_of run log.facts
  compiled_is one here fits there found run same =
      sym (ap (option_and_then (λ (it : Seen). it.compiled))
      (ap (λ (p : Place). seen_at p all) (sym (there ∙ ap place_at same)) ∙ found)) ∙
      made run (subst Fits same fits)

  say_by : (front : List Seen) (one : Seen) (rest : List Seen) → front ++ one ∷ rest ≡ all →
      (told : Record) → one.kept ≡ Some told →
      AreTheNumbers change log one ⊎ IsToldAt log one →
      seen_at (place one.row.now) all ≡ Some one →
      is_bad_record admin all front one.compiled told ≡ false
  say_by front one rest e told said (inl own) found =
      numbers_say admin all front one.compiled change log told (sym own.told ∙ said)
  say_by front one rest e told said (inr at) found =
      let kept_is : kept_at at.here log.facts ≡ Some told = sym at.told ∙ said in
      say front one rest e told at.here said kept_is at.fits
      (compiled_is one at.here at.fits at.there found)
      (of_place log.facts at.here told kept_is)

  pub say_nothing_bad : SayNothingBad admin all
  say_nothing_bad front one rest e told said =
      let own = subst (AllByRecursion (λ it. AreTheNumbers change log it ⊎ IsToldAt log it)) (sym e)
      is.own in
      let found = subst (AllByRecursion (λ it. seen_at (place it.row.now) all ≡ Some it)) (sym e)
      (own_seen all ascend) in
      say_by front one rest e told said
      (picked (λ it. AreTheNumbers change log it ⊎ IsToldAt log it) front one rest own)
      (picked (λ it. seen_at (place it.row.now) all ≡ Some it) front one rest found)
