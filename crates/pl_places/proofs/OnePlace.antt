-- Two places in bytes are one only where the places are.
use Rattle.std.proofs.Common.{◌≡◌, ℕ, Bool, true, false, nat_eq, true≢false, List, []}
use Rattle.std.proofs.Common.{◌++◌}
use Rattle.std.proofs.Common.{Option, Some, None, refl, sym, ap, ◌∙◌}
use Rattle.std.specs.Option.{option_and_then, option_map}
use Rattle.std.specs.Prelude.{is_some, unwrap_or, IfSome}
use Rattle.pl_base.specs.declared.place.FileKey.{FileKey}
use Rattle.pl_base.specs.declared.resource.ResourceKey.{ResourceKey}
use Rattle.pl_base.specs.declared.row.Row.{Row}
use Rattle.pl_kept.specs.Below.pl_facts.specs.declared.fact.Fact.{Fact}
use Rattle.pl_fields.specs.Checks.{file_key, resource_key}
use Rattle.pl_fields.specs.Fields.{number, text}
use Rattle.pl_fields.specs.WaysOfFields.{number_one_way, small_one_way, text_one_way}
use Rattle.pl_fields.specs.WaysOfKeys.{file_key_one_way, resource_key_one_way}
use Rattle.pl_keeper.specs.Keeping.{place}
use Rattle.pl_keeper.specs.Rows.{row_of, IsKept}
use Rattle.pl_keeper.specs.declared.records.Record.{Record}
use Rattle.pl_keeper.specs.declared.records.Record.TheVariants as kept
use Rattle.pl_kept.specs.Below.pl_journal.specs.Runs.{canceling, decision, job_end, queueing}
use Rattle.pl_kept.specs.Below.pl_journal.specs.Runs.{run_told, stage_end}
use Rattle.pl_kept.specs.Below.pl_journal.specs.Runs.{stage_start, taking, verdict_told}
use Rattle.pl_kept.specs.Below.pl_journal.specs.Settings.{agent_set, file, pipeline, principal_set}
use Rattle.pl_kept.specs.Below.pl_journal.specs.Settings.{resource_set}
use Rattle.pl_kept.specs.Below.pl_plan.specs.declared.plan.PlanJob.{PlanJob}
use Rattle.pl_kept.specs.Below.pl_plan.specs.declared.plan.PlanStage.{PlanStage}
use Rattle.pl_requests.specs.declared.settings.AgentSetting.{AgentSetting}
use Rattle.pl_requests.specs.declared.settings.PipelineSetting.{PipelineSetting}
use Rattle.pl_requests.specs.declared.settings.PrincipalSetting.{PrincipalSetting}
use Rattle.pl_requests.specs.declared.settings.ResourceSetting.{ResourceSetting}
use Rattle.pl_kept.specs.Told.{job_end_told, moment_of, stage_end_told, taking_told}
use Rattle.pl_kept.specs.Kept.{planned_job, planned_stage, run_record}
use Rattle.pl_kept.specs.Kept.{kept_at, row_at, Where, File, Pipeline, Resource, Principal, Agent}
use Rattle.pl_kept.specs.Kept.{Run, Stage, Job, Decision}
use Rattle.pl_places.specs.Places.{place_at, Fits}

apart : (n m : ℕ) → nat_eq n m ≡ false → nat_eq n n ≡ true → n ≡ m → ⊥
apart n m off same e = true≢false (sym same ∙ (ap (nat_eq n) e ∙ off))

bare : (a b : List ℕ) → a ≡ b → (a ++ []) ≡ (b ++ [])
bare a b e = ap (λ (bytes : List ℕ). bytes ++ []) e

pub one_place : (one other : Where) → Fits one → Fits other → place_at one ≡ place_at other →
    one ≡ other
one_place (File at) (File at2) f g e =
    ap File (file_key_one_way at at2 [] [] f g (bare (file_key at) (file_key at2) (ap (λ p. p.1)
    e))).0
one_place (File at) (Pipeline at2) f g e =
    absurd (apart 1 2 refl refl (ap (λ p. p.0) e))
one_place (File at) (Resource at2) f g e =
    absurd (apart 1 3 refl refl (ap (λ p. p.0) e))
one_place (File at) (Principal at2) f g e =
    absurd (apart 1 4 refl refl (ap (λ p. p.0) e))
one_place (File at) (Agent at2) f g e =
    absurd (apart 1 5 refl refl (ap (λ p. p.0) e))
one_place (File at) (Run run2) f g e =
    absurd (apart 1 6 refl refl (ap (λ p. p.0) e))
one_place (File at) (Stage run2 stage2) f g e =
    absurd (apart 1 7 refl refl (ap (λ p. p.0) e))
one_place (File at) (Job run2 stage2 job2) f g e =
    absurd (apart 1 8 refl refl (ap (λ p. p.0) e))
one_place (File at) (Decision run2 stage2 by_whom2) f g e =
    absurd (apart 1 9 refl refl (ap (λ p. p.0) e))
one_place (Pipeline at) (File at2) f g e =
    absurd (apart 2 1 refl refl (ap (λ p. p.0) e))
one_place (Pipeline at) (Pipeline at2) f g e =
    ap Pipeline (text_one_way at at2 [] [] f g (bare (text at) (text at2) (ap (λ p. p.1) e))).0
one_place (Pipeline at) (Resource at2) f g e =
    absurd (apart 2 3 refl refl (ap (λ p. p.0) e))
one_place (Pipeline at) (Principal at2) f g e =
    absurd (apart 2 4 refl refl (ap (λ p. p.0) e))
one_place (Pipeline at) (Agent at2) f g e =
    absurd (apart 2 5 refl refl (ap (λ p. p.0) e))
one_place (Pipeline at) (Run run2) f g e =
    absurd (apart 2 6 refl refl (ap (λ p. p.0) e))
one_place (Pipeline at) (Stage run2 stage2) f g e =
    absurd (apart 2 7 refl refl (ap (λ p. p.0) e))
one_place (Pipeline at) (Job run2 stage2 job2) f g e =
    absurd (apart 2 8 refl refl (ap (λ p. p.0) e))
one_place (Pipeline at) (Decision run2 stage2 by_whom2) f g e =
    absurd (apart 2 9 refl refl (ap (λ p. p.0) e))
one_place (Resource at) (File at2) f g e =
    absurd (apart 3 1 refl refl (ap (λ p. p.0) e))
one_place (Resource at) (Pipeline at2) f g e =
    absurd (apart 3 2 refl refl (ap (λ p. p.0) e))
one_place (Resource at) (Resource at2) f g e = ap Resource (resource_key_one_way at at2 [] [] f g
    (bare (resource_key at) (resource_key at2) (ap (λ p. p.1) e))).0
one_place (Resource at) (Principal at2) f g e =
    absurd (apart 3 4 refl refl (ap (λ p. p.0) e))
one_place (Resource at) (Agent at2) f g e =
    absurd (apart 3 5 refl refl (ap (λ p. p.0) e))
one_place (Resource at) (Run run2) f g e =
    absurd (apart 3 6 refl refl (ap (λ p. p.0) e))
one_place (Resource at) (Stage run2 stage2) f g e =
    absurd (apart 3 7 refl refl (ap (λ p. p.0) e))
one_place (Resource at) (Job run2 stage2 job2) f g e =
    absurd (apart 3 8 refl refl (ap (λ p. p.0) e))
one_place (Resource at) (Decision run2 stage2 by_whom2) f g e =
    absurd (apart 3 9 refl refl (ap (λ p. p.0) e))
one_place (Principal at) (File at2) f g e =
    absurd (apart 4 1 refl refl (ap (λ p. p.0) e))
one_place (Principal at) (Pipeline at2) f g e =
    absurd (apart 4 2 refl refl (ap (λ p. p.0) e))
one_place (Principal at) (Resource at2) f g e =
    absurd (apart 4 3 refl refl (ap (λ p. p.0) e))
one_place (Principal at) (Principal at2) f g e =
    ap Principal (text_one_way at at2 [] [] f g (bare (text at) (text at2) (ap (λ p. p.1) e))).0
one_place (Principal at) (Agent at2) f g e =
    absurd (apart 4 5 refl refl (ap (λ p. p.0) e))
one_place (Principal at) (Run run2) f g e =
    absurd (apart 4 6 refl refl (ap (λ p. p.0) e))
one_place (Principal at) (Stage run2 stage2) f g e =
    absurd (apart 4 7 refl refl (ap (λ p. p.0) e))
one_place (Principal at) (Job run2 stage2 job2) f g e =
    absurd (apart 4 8 refl refl (ap (λ p. p.0) e))
one_place (Principal at) (Decision run2 stage2 by_whom2) f g e =
    absurd (apart 4 9 refl refl (ap (λ p. p.0) e))
one_place (Agent at) (File at2) f g e =
    absurd (apart 5 1 refl refl (ap (λ p. p.0) e))
one_place (Agent at) (Pipeline at2) f g e =
    absurd (apart 5 2 refl refl (ap (λ p. p.0) e))
one_place (Agent at) (Resource at2) f g e =
    absurd (apart 5 3 refl refl (ap (λ p. p.0) e))
one_place (Agent at) (Principal at2) f g e =
    absurd (apart 5 4 refl refl (ap (λ p. p.0) e))
one_place (Agent at) (Agent at2) f g e =
    ap Agent (text_one_way at at2 [] [] f g (bare (text at) (text at2) (ap (λ p. p.1) e))).0
one_place (Agent at) (Run run2) f g e =
    absurd (apart 5 6 refl refl (ap (λ p. p.0) e))
one_place (Agent at) (Stage run2 stage2) f g e =
    absurd (apart 5 7 refl refl (ap (λ p. p.0) e))
one_place (Agent at) (Job run2 stage2 job2) f g e =
    absurd (apart 5 8 refl refl (ap (λ p. p.0) e))
one_place (Agent at) (Decision run2 stage2 by_whom2) f g e =
    absurd (apart 5 9 refl refl (ap (λ p. p.0) e))
one_place (Run run) (File at2) f g e =
    absurd (apart 6 1 refl refl (ap (λ p. p.0) e))
one_place (Run run) (Pipeline at2) f g e =
    absurd (apart 6 2 refl refl (ap (λ p. p.0) e))
one_place (Run run) (Resource at2) f g e =
    absurd (apart 6 3 refl refl (ap (λ p. p.0) e))
one_place (Run run) (Principal at2) f g e =
    absurd (apart 6 4 refl refl (ap (λ p. p.0) e))
one_place (Run run) (Agent at2) f g e =
    absurd (apart 6 5 refl refl (ap (λ p. p.0) e))
one_place (Run run) (Run run2) f g e =
    ap Run (number_one_way run run2 [] [] f g (bare (number run) (number run2) (ap (λ p. p.1) e))).0
one_place (Run run) (Stage run2 stage2) f g e =
    absurd (apart 6 7 refl refl (ap (λ p. p.0) e))
one_place (Run run) (Job run2 stage2 job2) f g e =
    absurd (apart 6 8 refl refl (ap (λ p. p.0) e))
one_place (Run run) (Decision run2 stage2 by_whom2) f g e =
    absurd (apart 6 9 refl refl (ap (λ p. p.0) e))
one_place (Stage run stage) (File at2) f g e =
    absurd (apart 7 1 refl refl (ap (λ p. p.0) e))
one_place (Stage run stage) (Pipeline at2) f g e =
    absurd (apart 7 2 refl refl (ap (λ p. p.0) e))
one_place (Stage run stage) (Resource at2) f g e =
    absurd (apart 7 3 refl refl (ap (λ p. p.0) e))
one_place (Stage run stage) (Principal at2) f g e =
    absurd (apart 7 4 refl refl (ap (λ p. p.0) e))
one_place (Stage run stage) (Agent at2) f g e =
    absurd (apart 7 5 refl refl (ap (λ p. p.0) e))
one_place (Stage run stage) (Run run2) f g e =
    absurd (apart 7 6 refl refl (ap (λ p. p.0) e))
one_place (Stage run stage) (Stage run2 stage2) f g e =
    let first = number_one_way run run2 (number stage) (number stage2) f.0 g.0 (ap (λ p. p.1) e) in
    let second = small_one_way stage stage2 [] [] f.1 g.1
    (bare (number stage) (number stage2) first.1) in
    λ i. Stage (first.0 i) (second.0 i)
one_place (Stage run stage) (Job run2 stage2 job2) f g e =
    absurd (apart 7 8 refl refl (ap (λ p. p.0) e))
one_place (Stage run stage) (Decision run2 stage2 by_whom2) f g e =
    absurd (apart 7 9 refl refl (ap (λ p. p.0) e))
one_place (Job run stage job) (File at2) f g e =
    absurd (apart 8 1 refl refl (ap (λ p. p.0) e))
one_place (Job run stage job) (Pipeline at2) f g e =
    absurd (apart 8 2 refl refl (ap (λ p. p.0) e))
one_place (Job run stage job) (Resource at2) f g e =
    absurd (apart 8 3 refl refl (ap (λ p. p.0) e))
one_place (Job run stage job) (Principal at2) f g e =
    absurd (apart 8 4 refl refl (ap (λ p. p.0) e))
one_place (Job run stage job) (Agent at2) f g e =
    absurd (apart 8 5 refl refl (ap (λ p. p.0) e))
one_place (Job run stage job) (Run run2) f g e =
    absurd (apart 8 6 refl refl (ap (λ p. p.0) e))
one_place (Job run stage job) (Stage run2 stage2) f g e =
    absurd (apart 8 7 refl refl (ap (λ p. p.0) e))
one_place (Job run stage job) (Job run2 stage2 job2) f g e =
    let first = number_one_way run run2 (number stage ++ number job) (number stage2 ++ number job2)
    f.0 g.0 (ap (λ p. p.1) e) in
    let second = small_one_way stage stage2 (number job) (number job2) f.1.0 g.1.0 first.1 in
    let third = small_one_way job job2 [] [] f.1.1 g.1.1
    (bare (number job) (number job2) second.1) in
    λ i. Job (first.0 i) (second.0 i) (third.0 i)
one_place (Job run stage job) (Decision run2 stage2 by_whom2) f g e =
    absurd (apart 8 9 refl refl (ap (λ p. p.0) e))
one_place (Decision run stage by_whom) (File at2) f g e =
    absurd (apart 9 1 refl refl (ap (λ p. p.0) e))
one_place (Decision run stage by_whom) (Pipeline at2) f g e =
    absurd (apart 9 2 refl refl (ap (λ p. p.0) e))
one_place (Decision run stage by_whom) (Resource at2) f g e =
    absurd (apart 9 3 refl refl (ap (λ p. p.0) e))
one_place (Decision run stage by_whom) (Principal at2) f g e =
    absurd (apart 9 4 refl refl (ap (λ p. p.0) e))
one_place (Decision run stage by_whom) (Agent at2) f g e =
    absurd (apart 9 5 refl refl (ap (λ p. p.0) e))
one_place (Decision run stage by_whom) (Run run2) f g e =
    absurd (apart 9 6 refl refl (ap (λ p. p.0) e))
one_place (Decision run stage by_whom) (Stage run2 stage2) f g e =
    absurd (apart 9 7 refl refl (ap (λ p. p.0) e))
one_place (Decision run stage by_whom) (Job run2 stage2 job2) f g e =
    absurd (apart 9 8 refl refl (ap (λ p. p.0) e))
one_place (Decision run stage by_whom) (Decision run2 stage2 by_whom2) f g e =
    let first = number_one_way run run2 (number stage ++ text by_whom)
    (number stage2 ++ text by_whom2) f.0 g.0 (ap (λ p. p.1) e) in
    let second = small_one_way stage stage2 (text by_whom) (text by_whom2) f.1.0 g.1.0 first.1 in
    let third = text_one_way by_whom by_whom2 [] [] f.1.1 g.1.1
    (bare (text by_whom) (text by_whom2) second.1) in
    λ i. Decision (first.0 i) (second.0 i) (third.0 i)

-- ---- a row stands at its place, and its fields fit

module _ {X : Type 0} (f : X → Record) (at : ℕ × List ℕ) (there : (x : X) → place (row_of (f x)) ≡
    at)
    (Q : Type 0) (fits : (x : X) → IsKept (f x) → Q) where
  placed : (o : Option X) (row : Row) → option_map row_of (option_map f o) ≡ Some row →
      place row ≡ at
  placed None row e = absurd (true≢false (sym (ap is_some e)))
  placed (Some x) row e = ap (λ (o : Option Row). place (unwrap_or o row)) (sym e) ∙ there x

  fitting : (o : Option X) (row : Row) → IfSome (option_map f o) IsKept →
      option_map row_of (option_map f o) ≡ Some row → Q
  fitting None row kept e = absurd (true≢false (sym (ap is_some e)))
  fitting (Some x) row kept e = fits x kept

module _ {X Y : Type 0} (f : X → Option Y) (g : X → Y → Record) (at : ℕ × List ℕ)
    (there : (x : X) (y : Y) → place (row_of (g x y)) ≡ at) (Q : Type 0)
    (fits : (x : X) (y : Y) → IsKept (g x y) → Q) where
  placed_both : (o : Option X) (row : Row) →
      option_map row_of (option_and_then (λ x. option_map (g x) (f x)) o) ≡ Some row →
      place row ≡ at
  placed_both None row e = absurd (true≢false (sym (ap is_some e)))
  placed_both (Some x) row e = placed (g x) at (there x) Q (fits x) (f x) row e

  fitting_both : (o : Option X) (row : Row) →
      IfSome (option_and_then (λ x. option_map (g x) (f x)) o) IsKept →
      option_map row_of (option_and_then (λ x. option_map (g x) (f x)) o) ≡ Some row → Q
  fitting_both None row kept e = absurd (true≢false (sym (ap is_some e)))
  fitting_both (Some x) row kept e = fitting (g x) at (there x) Q (fits x) (f x) row kept e

module _ (facts : List Fact) where
  -- the record of each table, of what was looked up
  abbrev file_record : FileKey → List ℕ → Record
  file_record at text = kept.File (record { key = at; text = text })

  abbrev pipeline_record : List ℕ → PipelineSetting → Record
  pipeline_record at told =
      kept.Pipeline (record { name = at; repo = told.repo; path = told.path })

  abbrev resource_record : ResourceKey → ResourceSetting → Record
  resource_record at told = kept.Resource (record {
    key = at;
    exclusive = told.exclusive;
    pipelines = told.pipelines;
    checks = told.checks;
  })

  abbrev principal_record : List ℕ → PrincipalSetting → Record
  principal_record at told =
      kept.Principal (record { name = at; roles = told.roles; digest = told.digest })

  abbrev agent_record : List ℕ → AgentSetting → Record
  agent_record at told = kept.Agent (record {
    name = at;
    pool = told.pool;
    capabilities = told.capabilities;
  })

  abbrev stage_record : ℕ → ℕ → PlanStage → Record
  stage_record run stage planned = kept.Stage (record {
    run = run;
    position = stage;
    started = option_map moment_of (stage_start run stage facts);
    ended = stage_end_told (stage_end run stage facts);
  })

  abbrev job_record : ℕ → ℕ → ℕ → PlanJob → Record
  job_record run stage job planned = kept.Job (record {
    run = run;
    stage = stage;
    position = job;
    taken = taking_told (taking run stage job facts);
    ended = job_end_told (job_end run stage job facts);
  })

  abbrev decision_record : ℕ → ℕ → List ℕ → Fact → Bool → Record
  decision_record run stage by_whom fact approve = kept.Decision (record {
    run = run;
    stage = stage;
    approver = by_whom;
    approve = approve;
    moment = fact.moment;
  })

  abbrev canceled : ℕ → Option ℕ
  canceled run = option_map moment_of (canceling run facts)

  pub stands_there : (where_ : Where) (row : Row) → row_at where_ facts ≡ Some row →
      place row ≡ place_at where_
  stands_there (File at) row e =
      placed (file_record at) (1, file_key at) (λ x. refl) (Fits (File at))
      (λ x kept. kept.0) (file at facts) row e
  stands_there (Pipeline at) row e =
      placed (pipeline_record at) (2, text at) (λ x. refl) (Fits (Pipeline at))
      (λ x kept. kept.0) (pipeline at facts) row e
  stands_there (Resource at) row e =
      placed (resource_record at) (3, resource_key at) (λ x. refl) (Fits (Resource at))
      (λ x kept. kept.0) (resource_set at facts) row e
  stands_there (Principal at) row e =
      placed (principal_record at) (4, text at) (λ x. refl) (Fits (Principal at))
      (λ x kept. kept.0) (principal_set at facts) row e
  stands_there (Agent at) row e =
      placed (agent_record at) (5, text at) (λ x. refl) (Fits (Agent at))
      (λ x kept. kept.0) (agent_set at facts) row e
  stands_there (Run run) row e =
      placed_both (λ fact. run_told fact.event) (λ fact told. run_record run (canceled run)
      fact.moment told)
      (6, number run) (λ x y. refl) (Fits (Run run)) (λ x y kept. kept.0) (queueing run facts) row e
  stands_there (Stage run stage) row e =
      placed (stage_record run stage) (7, number run ++ number stage) (λ x. refl)
      (Fits (Stage run stage)) (λ x kept. kept.0) (planned_stage run stage facts) row e
  stands_there (Job run stage job) row e =
      placed (job_record run stage job) (8, number run ++ (number stage ++ number job)) (λ x. refl)
      (Fits (Job run stage job)) (λ x kept. kept.0) (planned_job run stage job facts) row e
  stands_there (Decision run stage by_whom) row e =
      placed_both (λ fact. verdict_told fact.event) (decision_record run stage by_whom)
      (9, number run ++ (number stage ++ text by_whom)) (λ x y. refl)
      (Fits (Decision run stage by_whom)) (λ x y kept. kept.0) (decision run stage by_whom facts)
      row e

  pub fits_there : (where_ : Where) (row : Row) → IfSome (kept_at where_ facts) IsKept →
      row_at where_ facts ≡ Some row → Fits where_
  fits_there (File at) row kept e =
      fitting (file_record at) (1, file_key at) (λ x. refl) (Fits (File at))
      (λ x kept. kept.0) (file at facts) row kept e
  fits_there (Pipeline at) row kept e =
      fitting (pipeline_record at) (2, text at) (λ x. refl) (Fits (Pipeline at))
      (λ x kept. kept.0) (pipeline at facts) row kept e
  fits_there (Resource at) row kept e =
      fitting (resource_record at) (3, resource_key at) (λ x. refl) (Fits (Resource at))
      (λ x kept. kept.0) (resource_set at facts) row kept e
  fits_there (Principal at) row kept e =
      fitting (principal_record at) (4, text at) (λ x. refl) (Fits (Principal at))
      (λ x kept. kept.0) (principal_set at facts) row kept e
  fits_there (Agent at) row kept e =
      fitting (agent_record at) (5, text at) (λ x. refl) (Fits (Agent at))
      (λ x kept. kept.0) (agent_set at facts) row kept e
  fits_there (Run run) row kept e =
      fitting_both (λ fact. run_told fact.event) (λ fact told. run_record run (canceled run)
      fact.moment told)
      (6, number run) (λ x y. refl) (Fits (Run run)) (λ x y kept. kept.0) (queueing run facts) row
      kept e
  fits_there (Stage run stage) row kept e =
      fitting (stage_record run stage) (7, number run ++ number stage) (λ x. refl)
      (Fits (Stage run stage)) (λ x kept. kept.0) (planned_stage run stage facts) row kept e
  fits_there (Job run stage job) row kept e =
      fitting (job_record run stage job) (8, number run ++ (number stage ++ number job)) (λ x. refl)
      (Fits (Job run stage job)) (λ x kept. kept.0) (planned_job run stage job facts) row kept e
  fits_there (Decision run stage by_whom) row kept e =
      fitting_both (λ fact. verdict_told fact.event) (decision_record run stage by_whom)
      (9, number run ++ (number stage ++ text by_whom)) (λ x y. refl)
      (Fits (Decision run stage by_whom)) (λ x y kept. kept.0) (decision run stage by_whom facts)
      row kept e
