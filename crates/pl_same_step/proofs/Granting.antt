-- Which rule a claim breaks, and which job an agent is given, where the same is found.
use Rattle.std.proofs.Common.{◌≡◌, ◌&&◌, ◌<◌, ℕ, nat_le, Bool, true, false, List, [], ◌∷◌, length, not}
use Rattle.std.proofs.Common.{find, count_by, option_map, slice_get, Option, Some, None, is_some}
use Rattle.std.proofs.Common.{if◌then◌else◌, inl, inr, refl, sym, ap, subst, ◌∙◌}
use Rattle.std.specs.List.{list_any, range_with_len}
use Rattle.std.specs.Option.{option_and_then, option_map_or}
use Rattle.pl_base.specs.Texts.{is}
use Rattle.pl_base.specs.declared.resource.ResourceKey.{ResourceKey}
use Rattle.pl_checks.specs.declared.view.Verdict.{Verdict}
use Rattle.pl_facts.specs.declared.fact.Event.{Event}
use Rattle.pl_facts.specs.declared.fact.Event.TheVariants as event
use Rattle.pl_facts.specs.declared.fact.Fact.{Fact}
use Rattle.pl_facts.specs.declared.fact.QueuedRun.{QueuedRun}
use Rattle.pl_step_laws.specs.Below.pl_step.specs.Below.pl_granting.specs.Broken.{asked_rules, Broken, BrokenOf, FirstBroken, NameBroken}
use Rattle.pl_step_laws.specs.Below.pl_step.specs.Below.pl_granting.specs.Broken.{Telling, UnlessStarted}
use Rattle.pl_step_laws.specs.Below.pl_step.specs.Below.pl_granting.specs.Drawn.{Drawn, MayHave}
use Rattle.pl_step_laws.specs.Below.pl_step.specs.Below.pl_granting.specs.Grantable.{IsFree, IsGrantable}
use Rattle.pl_step_laws.specs.Below.pl_step.specs.Below.pl_granting.specs.Locked.{Awaits, FirstHeld, IsBehindRule, IsHeldRule, LeastFirst}
use Rattle.pl_step_laws.specs.Below.pl_step.specs.Below.pl_granting.specs.Named.{job_at, job_in, job_in_stage, job_named, stage_named, IsJobOf}
use Rattle.pl_step_laws.specs.Below.pl_step.specs.Below.pl_granting.specs.Named.{JobOf}
use Rattle.pl_step_laws.specs.Below.pl_step.specs.Below.pl_granting.specs.Rules.{busy, busy_with, ended, ended_as, full, held_job, holder}
use Rattle.pl_step_laws.specs.Below.pl_step.specs.Below.pl_granting.specs.Rules.{is_held_by, is_leg_taken, is_same_job, is_started, job_label}
use Rattle.pl_step_laws.specs.Below.pl_step.specs.Below.pl_granting.specs.Rules.{job_taken, job_waits, legs_taken, stage_name, stage_waits}
use Rattle.pl_step_laws.specs.Below.pl_step.specs.Below.pl_granting.specs.Rules.{taken, unpermitted}
use Rattle.pl_journal.specs.Runs.{taker_told}
use Rattle.pl_journal.specs.Settings.{by}
use Rattle.pl_locks.specs.declared.contender.Contender.{Contender}
use Rattle.pl_plan.specs.declared.plan.PlanJob.{PlanJob}
use Rattle.pl_requests.specs.declared.request.JobName.{JobName}
use Rattle.pl_requests.specs.declared.settings.AgentSetting.{AgentSetting}
use Rattle.pl_rules.specs.declared.rule.Rule.{Rule}
use Rattle.pl_rules.specs.declared.rule.Rule.TheVariants as rules
use Rattle.pl_same_lookups.specs.Alike.{FindAlike, LookAlike}
use Rattle.pl_same_step.proofs.Dueing.{contention_same}
use Rattle.pl_same_step.proofs.Saying.{verdicts_same}
use Rattle.pl_same_step.proofs.Seeing.{awaited_job_same, awaited_same, contender_same, ending_same}
use Rattle.pl_same_step.proofs.Seeing.{holding_same, job_ready_same, legs_same, permits_same}
use Rattle.pl_same_step.proofs.Seeing.{queued_same}
use Rattle.pl_same_step.proofs.Seeing.{ready_same, running_same, uses_same}

-- ---- what each rule tells

module _ (facts other : List Fact) (alike : LookAlike facts other)
    (finds : FindAlike facts other) where
  pub ended_same : (at : JobOf) → ended facts at ≡ ended other at
  ended_same at = λ i. ended_as (ending_same facts other alike at.run at.stage at.job i)

  holder_same : (at : JobOf) → holder facts at ≡ holder other at
  holder_same at = λ i.
      by taker_told (holding_same facts other alike at.run at.stage at.job i)

  taken_same : (agent : List ℕ) (at : JobOf) → taken facts agent at ≡ taken other agent at
  taken_same agent at = λ i. option_and_then
      (λ one. if is one agent then None else Some (rules.JobTaken one)) (holder_same at i)

  job_at_same : (run stage job : ℕ) → job_at run stage job facts ≡ job_at run stage job other
  job_at_same run stage job = λ i. option_and_then (λ (queued : QueuedRun). option_and_then
      (λ staged. job_in run stage queued staged job)
      (slice_get queued.compiled.plan.stages stage)) (queued_same facts other alike run i)

  job_taken_same : (one : Event) → job_taken facts one ≡ job_taken other one
  job_taken_same (event.JobTaken run stage job agent) = job_at_same run stage job
  job_taken_same _ = refl

  held_job_same : (agent : List ℕ) → held_job facts agent ≡ held_job other agent
  held_job_same agent = λ i. option_and_then (λ (fact : Fact). job_taken_same fact.event i)
      (finds.holders agent i)

  pub is_held_same : (agent : List ℕ) (at : JobOf) →
      is_held_by facts agent at ≡ is_held_by other agent at
  is_held_same agent at = λ i. option_map_or (is_same_job at) (held_job_same agent i) false

  busy_same : (agent : List ℕ) → busy facts agent ≡ busy other agent
  busy_same agent = λ i. option_map busy_with (held_job_same agent i)

  stage_waits_same : (at : JobOf) → stage_waits facts at ≡ stage_waits other at
  stage_waits_same at = λ i. option_map
      (λ place. rules.StageDepends (stage_name at.queued.compiled.plan.stages place))
      (awaited_same facts other alike at.staged at.run i)

  started_same : (at : JobOf) → is_started facts at ≡ is_started other at
  started_same at = λ i. is_some (alike.starts at.run at.stage i)

  unpermitted_same : (at : JobOf) → unpermitted facts at ≡ unpermitted other at
  unpermitted_same at = λ i. option_map (λ (key : ResourceKey). rules.PermissionMissing key)
      (find (λ key. not (permits_same facts other alike at.queued.pipeline key i)) at.staged.uses)

  job_waits_same : (at : JobOf) → job_waits facts at ≡ job_waits other at
  job_waits_same at = λ i. option_map
      (λ place. rules.JobDepends (job_label at.staged.jobs place))
      (awaited_job_same facts other alike at.planned at.run at.stage i)

  full_same : (at : JobOf) → full facts at ≡ full other at
  full_same at = λ i. if nat_le at.planned.max_parallel (legs_same facts other alike at i)
      then Some (rules.ParallelFull at.planned.max_parallel) else None

  pub job_named_same : (name : JobName) → job_named name facts ≡ job_named name other
  job_named_same name = λ i. option_and_then (λ (queued : QueuedRun). option_and_then
      (job_in_stage name queued) (stage_named name.stage queued.compiled.plan.stages))
      (queued_same facts other alike name.run i)

-- ---- the first rule that is broken

abbrev Implies : List Telling → List Telling → Type 0
Implies [] [] = Unit {0}
Implies [] (one ∷ others) = ⊥
Implies (one ∷ others) [] = ⊥
Implies (one ∷ others) (its ∷ theirs) =
    ((found : Option Rule) → one found → its found) × Implies others theirs

first_same : (ones others : List Telling) (found : Option Rule) → Implies ones others →
    FirstBroken ones found → FirstBroken others found
first_same [] [] found all is = is
first_same [] (its ∷ theirs) found all is = absurd all
first_same (one ∷ ones) [] found all is = absurd all
first_same (one ∷ ones) (its ∷ theirs) found all (inl is) =
    inl (is.0, is.1, all.0 (Some is.0) is.2)
first_same (one ∷ ones) (its ∷ theirs) found all (inr is) =
    inr (all.0 None is.0, first_same ones theirs found all.1 is.1)

module _ (facts other : List Fact) (alike : LookAlike facts other) (back : LookAlike other facts)
    (finds : FindAlike facts other) where
  unless_same : (at : JobOf) (one its : Telling) →
      ((found : Option Rule) → one found → its found) → (found : Option Rule) →
      UnlessStarted facts at one found → UnlessStarted other at its found
  unless_same at one its to found (inl is) =
      inl (sym (started_same facts other alike finds at) ∙ is.0, is.1)
  unless_same at one its to found (inr is) =
      inr (sym (started_same facts other alike finds at) ∙ is.0, to found is.1)

  awaits_same : (moment : ℕ) (at : JobOf) (found : Option Rule) → Awaits facts moment at found →
      Awaits other moment at found
  awaits_same moment at found is = (
    is.0,
    verdicts_same at.queued at.staged at.run at.stage facts other alike back moment is.0 is.1,
    is.2,
  )

  held_rule_same : (moment : ℕ) (at : JobOf) (found : Option Rule) →
      IsHeldRule facts moment at found → IsHeldRule other moment at found
  held_rule_same moment at found is = record {
    locks = is.locks;
    contention = contention_same facts other alike back moment is.locks is.contention;
    stage = is.stage;
    held = subst (λ (keys : List ResourceKey). FirstHeld is.locks.holders keys is.stage)
        (uses_same facts other alike at.staged) is.held;
    gets = is.gets;
  }

  behind_rule_same : (moment : ℕ) (at : JobOf) (found : Option Rule) →
      IsBehindRule facts moment at found → IsBehindRule other moment at found
  behind_rule_same moment at found is = record {
    locks = is.locks;
    contention = contention_same facts other alike back moment is.locks is.contention;
    stage = is.stage;
    first = subst (λ (one : Contender). LeastFirst is.locks.eligible one is.stage)
        (contender_same facts other alike at.queued at.staged at.run at.stage) is.first;
    gets = is.gets;
  }

  all_same : (moment : ℕ) (agent : AgentSetting) (at : JobOf) →
      Implies (asked_rules facts moment agent at) (asked_rules other moment agent at)
  all_same moment agent at = (
    λ found is. is ∙ ended_same facts other alike finds at,
    (
      λ found is. is ∙ taken_same facts other alike finds agent.name at,
      (
        λ found is. is ∙ busy_same facts other alike finds agent.name,
        (
          λ found is. is,
          (
            λ found is. is,
            (
              λ found is. is ∙ stage_waits_same facts other alike finds at,
              (
                λ found is. unless_same at (λ o. o ≡ unpermitted facts at) (λ o. o ≡ unpermitted other at)
                    (λ o e. e ∙ unpermitted_same facts other alike finds at) found is,
                (
                  λ found is. unless_same at (Awaits facts moment at) (Awaits other moment at)
                      (awaits_same moment at) found is,
                  (
                    λ found is. unless_same at (IsHeldRule facts moment at) (IsHeldRule other moment at)
                        (held_rule_same moment at) found is,
                    (
                      λ found is. unless_same at (IsBehindRule facts moment at) (IsBehindRule other moment at)
                          (behind_rule_same moment at) found is,
                      (
                        λ found is. is ∙ job_waits_same facts other alike finds at,
                        (
                          λ found is. is ∙ full_same facts other alike finds at,
                          tt,
                        ),
                      ),
                    ),
                  ),
                ),
              ),
            ),
          ),
        ),
      ),
    ),
  )

  broken_same : (moment : ℕ) (agent : AgentSetting) (at : JobOf) (found : Option Rule) →
      Broken facts moment agent at found → Broken other moment agent at found
  broken_same moment agent at found (inl is) =
      inl (sym (is_held_same facts other alike finds agent.name at) ∙ is.0, is.1)
  broken_same moment agent at found (inr is) = inr (
    sym (is_held_same facts other alike finds agent.name at) ∙ is.0,
    first_same (asked_rules facts moment agent at) (asked_rules other moment agent at) found
        (all_same moment agent at) is.1,
  )

  broken_of_same : (moment : ℕ) (agent : AgentSetting) (job : Option JobOf)
      (found : Option Rule) → BrokenOf facts moment agent job found →
      BrokenOf other moment agent job found
  broken_of_same moment agent None found is = is
  broken_of_same moment agent (Some at) found is = broken_same moment agent at found is

  pub name_broken_same : (moment : ℕ) (agent : AgentSetting) (name : JobName)
      (found : Option Rule) → NameBroken facts moment agent name found →
      NameBroken other moment agent name found
  name_broken_same moment agent name found is =
      subst (λ (job : Option JobOf). BrokenOf other moment agent job found)
      (job_named_same facts other alike finds name)
      (broken_of_same moment agent (job_named name facts) found is)

  -- ---- jobs that an agent may have

  pub job_of_same : (at : JobOf) → IsJobOf facts at → IsJobOf other at
  job_of_same at is = record {
    queued = sym (queued_same facts other alike at.run) ∙ is.queued;
    staged = is.staged;
    planned = is.planned;
  }

  free_same : (agent : AgentSetting) (at : JobOf) → IsFree facts agent at →
      IsFree other agent at
  free_same agent at is = record {
    unended = sym (ending_same facts other alike at.run at.stage at.job) ∙ is.unended;
    untaken = λ one holds. is.untaken one (holder_same facts other alike finds at ∙ holds);
    idle = sym (held_job_same facts other alike finds agent.name) ∙ is.idle;
    pool = is.pool;
    able = is.able;
    ready = sym (ready_same facts other alike at.staged at.run) ∙ is.ready;
    runs = sym (running_same facts other alike at.run at.stage) ∙ is.runs;
    job_ready = sym (job_ready_same facts other alike at.planned at.run at.stage) ∙ is.job_ready;
    room = subst (λ n. n < at.planned.max_parallel) (legs_same facts other alike at) is.room;
  }

  grantable_same : (agent : AgentSetting) (at : JobOf) → IsGrantable facts agent at →
      IsGrantable other agent at
  grantable_same agent at (inl is) =
      inl (sym (is_held_same facts other alike finds agent.name at) ∙ is)
  grantable_same agent at (inr is) = inr (free_same agent at is)

  may_have_same : (agent : AgentSetting) (at : JobOf) → MayHave facts agent at →
      MayHave other agent at
  may_have_same agent at is = (job_of_same at is.0, grantable_same agent at is.1)

module _ (facts other : List Fact) (alike : LookAlike facts other) (back : LookAlike other facts)
    (finds : FindAlike facts other) (found_back : FindAlike other facts) where
  pub drawn_same : (agent : AgentSetting) (found : Option JobOf) → Drawn facts agent found →
      Drawn other agent found
  drawn_same agent None none = λ at is.
      none at (may_have_same other facts back alike found_back agent at is)
  drawn_same agent (Some at) is = (
    may_have_same facts other alike back finds agent at is.0,
    λ one may. is.1 one (may_have_same other facts back alike found_back agent one may),
  )
