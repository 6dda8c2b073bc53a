-- Jobs that agents report (Microsoft Learn, Azure Pipelines: "Jobs", continueOnError; "Set
-- variables in scripts", output variables).
use Rattle.std.specs.Prelude.{ℕ, Bool, true, false, ◌&&◌, List, Option, Some, None, is_some}
use Rattle.std.specs.Prelude.{if◌then◌else◌}
use Rattle.std.specs.Cmp.Lexicographic.{pointwise}
use Rattle.std.specs.Option.{option_map_or}
use Rattle.pl_answers.specs.Answers.{empty_object, refused, with_fact, without_fact}
use Rattle.pl_answers.specs.declared.answer.Answer.{Answer}
use Rattle.pl_base.specs.Texts.{is}
use Rattle.pl_base.specs.contracts.outcome.OutcomePartialEq.TheImpl as outcome
use Rattle.pl_base.specs.declared.outcome.Outcome.{Outcome}
use Rattle.pl_base.specs.declared.outcome.Outcome.TheVariants.{Failed, SucceededWithIssues}
use Rattle.pl_facts.specs.declared.fact.Event.{Event}
use Rattle.pl_facts.specs.declared.fact.Event.TheVariants as event
use Rattle.pl_facts.specs.declared.fact.Fact.{Fact}
use Rattle.pl_granting.specs.Named.{JobOf, job_named}
use Rattle.pl_granting.specs.Rules.{ended}
use Rattle.pl_journal.specs.Runs.{job_end, job_ending, outputs_told, rule_told, taker_told, taking}
use Rattle.pl_journal.specs.Settings.{by}
use Rattle.pl_requests.specs.declared.request.JobName.{JobName}
use Rattle.pl_requests.specs.declared.request.Report.{Report}
use Rattle.pl_rules.specs.declared.rule.Rule.{Rule}
use Rattle.pl_rules.specs.declared.rule.Rule.TheVariants as rules

abbrev pub is_outcome : Outcome → Outcome → Bool
is_outcome = (outcome.ghosts).eq

-- a report's outputs: keys and values in byte order of the keys, each once
abbrev pub Outputs : Type 0
Outputs = List (List ℕ × List ℕ)

abbrev pub is_output : List ℕ × List ℕ → List ℕ × List ℕ → Bool
is_output one other = is one.0 other.0 && is one.1 other.1

abbrev pub are_same : Outputs → Outputs → Bool
are_same kept told = pointwise is_output kept told

-- a failure that the job's stage is to survive
abbrev pub effective : Bool → Outcome → Outcome
effective true Failed = SucceededWithIssues
effective _ outcome = outcome

-- what was reported, as it was reported
abbrev pub reported_told : Event → Option Outcome
reported_told (event.JobEnded outcome reported stage job run rule outputs) = reported
reported_told _ = None

module _ (facts : List Fact) (at : JobOf) where
  abbrev pub reported : Option Outcome
  reported = by reported_told (job_end at.run at.stage at.job facts)

  abbrev pub has_outputs : Outputs → Bool
  has_outputs outputs = option_map_or (λ kept. are_same kept outputs)
      (by outputs_told (job_end at.run at.stage at.job facts)) false

  -- the agent that took the job, whether it has ended or not
  abbrev pub taker : Option (List ℕ)
  taker = by taker_told (taking at.run at.stage at.job facts)

  abbrev pub is_taker : List ℕ → Bool
  is_taker name = option_map_or (is name) taker false

  abbrev pub stranger : Rule
  stranger = rules.ReportStranger taker

  -- a rule ended it, and no report: it is told which
  abbrev pub was_ended : Bool
  was_ended = is_some (by rule_told (job_ending at.run at.stage at.job facts))

  abbrev pub ended_otherwise : Option Rule
  ended_otherwise = if was_ended then ended facts at else None

  -- it was reported before: the same report changes nothing, and another one is refused
  abbrev pub report_again : Report → Outcome → Answer
  report_again told kept = if is_outcome kept told.outcome && has_outputs told.outputs
      then without_fact empty_object else refused 409 (rules.ReportChanged kept)

  abbrev pub report_taken : Report → Answer
  report_taken told = option_map_or (report_again told) reported
      (with_fact empty_object (event.JobEnded (effective at.planned.go_on told.outcome)
      (Some told.outcome) at.stage at.job at.run None told.outputs))

abbrev pub report_job : List Fact → List ℕ → Report → JobOf → Answer
report_job facts caller told at = option_map_or (refused 409) (ended_otherwise facts at)
    (if is_taker facts at caller then report_taken facts at told
    else refused 409 (stranger facts at))

abbrev pub report : List Fact → List ℕ → JobName → Report → Answer
report facts caller name told = option_map_or (report_job facts caller told)
    (job_named name facts) (refused 404 rules.JobUnknown)
