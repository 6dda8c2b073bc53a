use Rattle.std.proofs.Common.{ℕ, Option, arith, sym, ◌∙◌}
use Rattle.pl_base.specs.declared.outcome.Outcome.{Outcome}
use Rattle.pl_journal.specs.Runs.{job_ending, outcome_told}
use Rattle.pl_journal.specs.Settings.{by}
use Rattle.pl_due.specs.Asked.{facts_of}
use Rattle.pl_due.proofs.Fits.{few_jobs_at}
use Rattle.pl_due.proofs.Ranges.{made_none, made_some}
use Rattle.pl_due.proofs.nodes.outcomes.Goals.{in-Some+in_ok-push, in_default}
use Rattle.pl_due.proofs.nodes.outcomes.Goals as goal

pub overflow_cast-job : goal.overflow_cast-job
overflow_cast-job c = omega (
  arith,
  c.len-job-end.ensures,
  c.loop-job-test.true,
  few_jobs_at c.args.at.now c.requires,
)

pub loop-job-preserved : goal.loop-job-preserved
loop-job-preserved c =
    let at = c.args.at.now in
    let made : ℕ → Option Outcome =
    λ job. by outcome_told (job_ending at.run at.stage job (facts_of at)) in
    elim c.match-outcome_at.branch [
      | in-Some+in_ok-push w ↦
          made_some made c.loop-job.job w.in-Some.outcome c.loop-job.all c.match-outcome_at.all
          c.loop-job.invariant (sym w.in-Some.ensures) (w.all-is ∙ w.in_ok-push.ensures.ok)
      | in_default w ↦
          made_none made c.loop-job.job c.loop-job.all c.match-outcome_at.all
          c.loop-job.invariant (sym w.in_default.ensures) w.all-is
    ]
