-- What is due in a run's stages behind facts that leave it as it was.
use Rattle.std.proofs.Common.{◌≡◌, ℕ, List, None, sym, ap, subst, ◌∙◌}
use Rattle.pl_base.specs.declared.outcome.Outcome.{Outcome}
use Rattle.pl_checks.specs.declared.check.Check.{Check}
use Rattle.pl_checks.specs.declared.view.CheckView.{CheckView}
use Rattle.pl_checks.specs.declared.view.Verdict.{Verdict}
use Rattle.pl_due.specs.Checked.{AreVerdictsOf, all_checks}
use Rattle.pl_due.specs.Contention.{Holds, IsEligible, contender_of}
use Rattle.pl_due.specs.Kinds.{Fails, IsDone, IsPassedOver, JobIsPassedOver, TimesOut}
use Rattle.pl_due.specs.Kinds.{false_job_end, false_stage_end}
use Rattle.pl_due.specs.Nodes.{IsStageOf}
use Rattle.pl_facts.specs.declared.fact.Event.{Event}
use Rattle.pl_facts.specs.declared.fact.Event.TheVariants.{StageEnded}
use Rattle.pl_facts.specs.declared.fact.Fact.{Fact}
use Rattle.pl_facts.specs.declared.fact.QueuedRun.{QueuedRun}
use Rattle.pl_due.specs.Below.pl_journal.specs.Runs.{run_told}
use Rattle.pl_due.specs.Below.pl_journal.specs.Settings.{by}
use Rattle.pl_judgement.specs.Said.{AreVerdicts}
use Rattle.pl_facts.specs.Below.pl_plan.specs.declared.plan.PlanStage.{PlanStage}
use Rattle.pl_due.specs.Below.pl_results.specs.Combining.{combined}
use Rattle.pl_due.specs.Below.pl_results.specs.declared.members.PlanNode.TheVariants.{Job, Stage}
use Rattle.pl_due.specs.Below.pl_views.specs.CheckViews.{check_view}
use Rattle.pl_run_laws.proofs.Same.{awaits_is, canceled_is, check_view_is, checks_are}
use Rattle.pl_run_laws.proofs.Same.{condition_is, done_is, outcomes_are, over_is, permitted_is}
use Rattle.pl_run_laws.proofs.Same.{running_is, turned, turned_uses, uses_are, waiting_is}
use Rattle.pl_run_laws.specs.Kinds.{IsSameBut, IsSameChecked}
use Rattle.pl_run_laws.specs.Runs.{IsSameRun}
use Rattle.pl_run_laws.specs.Uses.{AreSameUses}

-- ---- one way

module _ (run : ℕ) (old new : List Fact) (same : IsSameRun run old new) (told : QueuedRun)
    (one : PlanStage) (stage : ℕ) where
  there : IsStageOf old run stage told one → IsStageOf new run stage told one
  there is = record {
    queued = ap (by run_told) same.queued ∙ is.queued;
    planned = is.planned;
  }

  runs : Holds old told one run stage → Holds new told one run stage
  runs is = running_is run old new same stage ∙ is

  times_out : (moment job : ℕ) (event : Event) → TimesOut old moment told one run stage job event →
      TimesOut new moment told one run stage job event
  times_out moment job event is = record {
    runs = running_is run old new same stage ∙ is.runs;
    over = over_is run old new same moment one stage job ∙ is.over;
    gets = is.gets;
  }

  job_passed : (job : ℕ) (event : Event) → JobIsPassedOver old told one run stage job event →
      JobIsPassedOver new told one run stage job event
  job_passed job event is = record {
    runs = running_is run old new same stage ∙ is.runs;
    awaits = awaits_is run old new same one stage job ∙ is.awaits;
    says = condition_is run old new same told (Job stage job) ∙ is.says;
    gets = is.gets ∙ ap (λ canceled. false_job_end canceled run stage job)
        (sym (canceled_is run old new same));
  }

  done : (job : ℕ) (event : Event) → IsDone old told one run stage job event →
      IsDone new told one run stage job event
  done job event is = record {
    itself = is.itself;
    runs = running_is run old new same stage ∙ is.runs;
    all = done_is run old new same one stage ∙ is.all;
    gets = is.gets ∙ ap (λ (all : List Outcome). StageEnded run stage (combined all) None)
        (sym (outcomes_are run old new same one stage));
  }

  passed : (job : ℕ) (event : Event) → IsPassedOver old told one run stage job event →
      IsPassedOver new told one run stage job event
  passed job event is = record {
    itself = is.itself;
    waits = waiting_is run old new same one stage ∙ is.waits;
    says = condition_is run old new same told (Stage stage) ∙ is.says;
    gets = is.gets ∙ ap (λ canceled. false_stage_end canceled run stage)
        (sym (canceled_is run old new same));
  }

  module _ (alike : AreSameUses one.uses old new) where
    say : (moment : ℕ) (verdicts : List Verdict) →
        AreVerdictsOf old moment told one run stage verdicts →
        AreVerdictsOf new moment told one run stage verdicts
    say moment verdicts are =
        subst (λ (checks : List Check).
        AreVerdicts checks (check_view told one run stage new) moment verdicts)
        (sym (checks_are old new one.uses alike))
        (subst (λ (view : CheckView). AreVerdicts (all_checks old one.uses) view moment verdicts)
        (sym (check_view_is run old new same told one stage)) are)

    fails : (moment job : ℕ) (event : Event) → Fails old moment told one run stage job event →
        Fails new moment told one run stage job event
    fails moment job event is = record {
      itself = is.itself;
      waits = waiting_is run old new same one stage ∙ is.waits;
      verdicts = is.verdicts;
      are = say moment is.verdicts is.are;
      rule = is.rule;
      first = is.first;
      gets = is.gets;
    }

    eligible : (moment : ℕ) → IsEligible old moment told one run stage →
        IsEligible new moment told one run stage
    eligible moment is = record {
      waits = waiting_is run old new same one stage ∙ is.waits;
      says = condition_is run old new same told (Stage stage) ∙ is.says;
      permitted = permitted_is old new told one alike ∙ is.permitted;
      verdicts = is.verdicts;
      are = say moment is.verdicts is.are;
      pass = is.pass;
    }

    contends : contender_of new told one run stage ≡ contender_of old told one run stage
    contends = λ i. record {
      run = run;
      position = stage;
      pipeline = told.pipeline;
      name = one.name;
      behaviour = one.behaviour;
      resources = uses_are old new one alike i;
    }

-- ---- both ways

module _ (run : ℕ) (old new : List Fact) (same : IsSameRun run old new) where
  back : IsSameRun run new old
  back = turned run old new same

  pub same_but : IsSameBut run old new
  same_but = record {
    stages = λ stage told one. (
      there run old new same told one stage,
      there run new old back told one stage,
    );
    timeouts = λ moment told one stage job event. (
      times_out run old new same told one stage moment job event,
      times_out run new old back told one stage moment job event,
    );
    jobs = λ told one stage job event. (
      job_passed run old new same told one stage job event,
      job_passed run new old back told one stage job event,
    );
    done = λ told one stage job event. (
      done run old new same told one stage job event,
      done run new old back told one stage job event,
    );
    conditions = λ told one stage job event. (
      passed run old new same told one stage job event,
      passed run new old back told one stage job event,
    );
    runs = λ told one stage. (
      runs run old new same told one stage,
      runs run new old back told one stage,
    );
  }

  pub same_checked : IsSameChecked run old new
  same_checked = record {
    fails = λ moment told one stage job event alike. (
      fails run old new same told one stage alike moment job event,
      fails run new old back told one stage (turned_uses one.uses old new alike) moment job
          event,
    );
    eligible = λ moment told one stage alike. (
      eligible run old new same told one stage alike moment,
      eligible run new old back told one stage (turned_uses one.uses old new alike) moment,
    );
    contender = λ told one stage alike. contends run old new same told one stage alike;
  }
