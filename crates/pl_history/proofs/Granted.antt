-- What a claim is answered where no rule is broken exactly where the job may be given.
use Rattle.std.proofs.Common.{◌≡◌, ◌↔◌, ◌++◌, ℕ, Bool, true, false, cond, List, [], Option}
use Rattle.std.proofs.Common.{Some, None, refl, ap, subst, ◌∙◌, arith}
use Rattle.std.specs.Prelude.{slice_get}
use Rattle.std.specs.Option.{option_and_then, option_map_or}
use Rattle.std.proofs.lemmas.List.{append-nil}
use Rattle.std.proofs.lemmas.Option.{none-some}
use Rattle.pl_step.specs.Below.pl_answers.specs.Answers.{refused, with_fact, without_fact}
use Rattle.pl_step.specs.Below.pl_answers.specs.declared.answer.Answer.{Answer}
use Rattle.pl_facts.specs.declared.fact.Event.TheVariants as event
use Rattle.pl_facts.specs.declared.fact.Fact.{Fact}
use Rattle.pl_facts.specs.declared.fact.QueuedRun.{QueuedRun}
use Rattle.pl_granting_laws.specs.Below.pl_granting.proofs.Places.{of_job_in}
use Rattle.pl_granting_laws.specs.Below.pl_granting.specs.Broken.{Broken, BrokenOf, NameBroken}
use Rattle.pl_granting_laws.specs.Below.pl_granting.specs.Grantable.{IsGrantable}
use Rattle.pl_granting_laws.specs.Below.pl_granting.specs.Named.{IsJobOf, JobOf, job_in}
use Rattle.pl_granting_laws.specs.Below.pl_granting.specs.Named.{job_in_stage, job_labelled}
use Rattle.pl_granting_laws.specs.Below.pl_granting.specs.Named.{job_named}
use Rattle.pl_granting_laws.specs.Below.pl_granting.specs.Named.{stage_named}
use Rattle.pl_granting_laws.specs.Below.pl_granting.specs.Rules.{is_held_by}
use Rattle.pl_history.specs.Claims.{IsAnsweredExactly, MayBeGiven, taken_by}
use Rattle.pl_step.specs.Below.pl_jobs.specs.Granting.{give, give_named, job_reply}
use Rattle.pl_journal.specs.Runs.{queueing, run_told}
use Rattle.pl_journal.specs.Settings.{by}
use Rattle.pl_plan.specs.declared.plan.PlanStage.{PlanStage}
use Rattle.pl_requests.specs.declared.request.JobName.{JobName}
use Rattle.pl_requests.specs.declared.settings.AgentSetting.{AgentSetting}
use Rattle.pl_rules.specs.declared.rule.Rule.{Rule}
use Rattle.pl_rules.specs.declared.rule.Rule.TheVariants as rules
use Rattle.pl_step.specs.Step.{happened, stepped_with}
use Rattle.pl_step.specs.declared.stepped.Stepped.{Stepped}

-- ---- a job that is found by its name is there

found_by : {X Y : Type 0} (f : X → Option Y) (o : Option X) (y : Y) →
    option_and_then f o ≡ Some y → (x : X) × (o ≡ Some x) × (f x ≡ Some y)
found_by f None y is = absurd (none-some y is)
found_by f (Some x) y is = (x, refl, is)

pub named_there : (name : JobName) (facts : List Fact) (at : JobOf) →
    job_named name facts ≡ Some at → IsJobOf facts at
named_there name facts at is =
    let run = found_by (λ (queued : QueuedRun). option_and_then (job_in_stage name queued)
    (stage_named name.stage queued.compiled.plan.stages))
    (by run_told (queueing name.run facts)) at is in
    let stage = found_by (job_in_stage name run.0)
    (stage_named name.stage run.0.compiled.plan.stages) at run.2 in
    let planned = found_by (λ (staged : PlanStage). option_and_then
    (job_in name.run stage.0 run.0 staged) (job_labelled name.job staged.jobs))
    (slice_get run.0.compiled.plan.stages stage.0) at stage.2 in
    let job = found_by (job_in name.run stage.0 run.0 planned.0)
    (job_labelled name.job planned.0.jobs) at planned.2 in
    (of_job_in facts name.run stage.0 job.0 at run.0 planned.0
    (record { queued = run.1; planned = planned.1 }) job.2).there

-- ---- the answer by the rule that is found

module _ (facts : List Fact) (moment : ℕ) (who : AgentSetting) (name : JobName)
    (exactly : (at : JobOf) → job_named name facts ≡ Some at →
    Broken facts moment who at None ↔ IsGrantable facts who at)
    (one : (at : JobOf) (left right : Option Rule) → Broken facts moment who at left →
    Broken facts moment who at right → left ≡ right) where
  -- where none is broken the agent may have the job
  may_by : (job : Option JobOf) → job_named name facts ≡ job → BrokenOf facts moment who job None →
      MayBeGiven facts who name
  may_by None is broken = absurd (none-some rules.JobUnknown broken)
  may_by (Some at) is broken = (at, is, (exactly at is).0 broken)

  pub may : NameBroken facts moment who name None → MayBeGiven facts who name
  may broken = may_by (job_named name facts) refl broken

  -- where it may have the job none is broken
  pub unbroken : (found : Option Rule) → NameBroken facts moment who name found →
      MayBeGiven facts who name → found ≡ None
  unbroken found broken (at, is, grantable) =
      one at found None
      (subst (λ (job : Option JobOf). BrokenOf facts moment who job found) is broken)
      ((exactly at is).1 grantable)

  -- a rule that is found is the only one
  pub only : (found : Option Rule) → NameBroken facts moment who name found →
      (found ≡ None) ↔ MayBeGiven facts who name
  only found broken = (
    λ none. may (subst (NameBroken facts moment who name) none broken),
    λ given. unbroken found broken given,
  )

  module _ (due : List Fact) where
    abbrev whole : Answer → Stepped
    whole answer = stepped_with answer.reply (due ++ happened moment answer.event)

    by_held : (at : JobOf) (held : Bool) →
        whole (cond held (without_fact (job_reply facts at))
        (with_fact (job_reply facts at) (event.JobTaken at.run at.stage at.job who.name))) ≡
        stepped_with (job_reply facts at) (due ++ cond held []
        (happened moment (Some (event.JobTaken at.run at.stage at.job who.name))))
    by_held at true = refl
    by_held at false = refl

    gives : (at : JobOf) → job_named name facts ≡ Some at →
        whole (give_named facts who name None) ≡
        stepped_with (job_reply facts at) (due ++ taken_by facts moment who at)
    gives at is = ap (λ (job : Option JobOf). whole (option_map_or (give facts who) job
        (refused 403 rules.JobUnknown))) is
        ∙ by_held at (is_held_by facts who.name at)

    not_both : (n : ℕ) → n ≡ 403 → n ≡ 200 → ⊥
    not_both n left right = omega arith

    module _ (stepped : Stepped) where
      given_by : (found : Option Rule) → NameBroken facts moment who name found →
          stepped ≡ whole (give_named facts who name found) → (at : JobOf) →
          job_named name facts ≡ Some at → IsGrantable facts who at →
          stepped ≡ stepped_with (job_reply facts at) (due ++ taken_by facts moment who at)
      given_by found broken is at named grantable =
          is
          ∙ ap (λ (rule : Option Rule). whole (give_named facts who name rule))
          (unbroken found broken (at, named, grantable))
          ∙ gives at named

      status_by : (found : Option Rule) → NameBroken facts moment who name found →
          stepped ≡ whole (give_named facts who name found) → stepped.reply.status ≡ 200 →
          MayBeGiven facts who name
      status_by None broken is status = may broken
      status_by (Some rule) broken is status =
          absurd (not_both stepped.reply.status (ap (λ (s : Stepped). s.reply.status) is) status)

      refused_by : (found : Option Rule) → NameBroken facts moment who name found →
          stepped ≡ whole (give_named facts who name found) → ¬ MayBeGiven facts who name →
          (rule : Rule) × NameBroken facts moment who name (Some rule)
          × (stepped ≡ stepped_with (refused 403 rule).reply due)
      refused_by None broken is none = absurd (none (may broken))
      refused_by (Some rule) broken is none = (
        rule,
        broken,
        is ∙ ap (stepped_with (refused 403 rule).reply) (append-nil due),
      )

      pub answered : (found : Option Rule) → NameBroken facts moment who name found →
          stepped ≡ whole (give_named facts who name found) →
          IsAnsweredExactly facts moment name who due stepped
      answered found broken is = record {
        exactly = (
          status_by found broken is,
          λ (at, named, grantable). ap (λ (s : Stepped). s.reply.status)
              (given_by found broken is at named grantable),
        );
        given = given_by found broken is;
        refuses = refused_by found broken is;
      }
