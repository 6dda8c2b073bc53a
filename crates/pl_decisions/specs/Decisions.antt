-- Decisions about stages (Microsoft Learn, Azure Pipelines, "Define approvals and checks",
-- Approvals). A decision stays: once made it is neither changed nor made anew.
use Rattle.std.specs.Prelude.{ℕ, Bool, false, not, ◌&&◌, List, [], ◌∷◌, Option, Some, None, is_some}
use Rattle.std.specs.Prelude.{slice_get, codes, if◌then◌else◌}
use Rattle.std.specs.List.{list_any, position}
use Rattle.std.specs.Option.{option_map_or}
use Rattle.pl_answers.specs.Answers.{refused, with_fact, without_fact}
use Rattle.pl_answers.specs.declared.answer.Answer.{Answer}
use Rattle.pl_base.specs.Texts.{is}
use Rattle.pl_base.specs.declared.resource.ResourceKey.{ResourceKey}
use Rattle.pl_checks.specs.declared.check.Check.{Check}
use Rattle.pl_checks.specs.declared.check.Check.TheVariants as check
use Rattle.pl_due.specs.Checked.{checks_on}
use Rattle.pl_facts.specs.declared.fact.Event.TheVariants as event
use Rattle.pl_facts.specs.declared.fact.Fact.{Fact}
use Rattle.pl_facts.specs.declared.fact.QueuedRun.{QueuedRun}
use Rattle.pl_journal.specs.Runs.{decision, queueing, run_told, stage_end, stage_start}
use Rattle.pl_journal.specs.Runs.{verdict_told}
use Rattle.pl_journal.specs.Settings.{by}
use Rattle.pl_plan.specs.declared.plan.PlanStage.{PlanStage}
use Rattle.pl_refusals.specs.Names.{verdict_name}
use Rattle.pl_refusals.specs.Rows.{text}
use Rattle.pl_requests.specs.Replies.{json_reply}
use Rattle.pl_requests.specs.declared.reply.Reply.{Reply}
use Rattle.pl_rules.specs.declared.rule.Rule.{Rule}
use Rattle.pl_rules.specs.declared.rule.Rule.TheVariants as rules
use Rattle.pl_rules.specs.declared.state.State.{State}
use Rattle.pl_rules.specs.declared.state.State.TheVariants as state

-- two verdicts are the same
abbrev pub is_same : Bool → Bool → Bool
is_same one other = if one then other else not other

abbrev pub verdict_reply : Bool → Reply
verdict_reply approve = json_reply 200 (text (codes "verdict") (verdict_name approve) ∷ [])

-- ---- who may decide

abbrev pub is_among : List (List ℕ) → List ℕ → Bool
is_among names name = list_any (is name) names

-- an approval check that lists somebody
abbrev pub lists : List ℕ → Check → Bool
lists name (check.Approval told) = is_among told.approvers name
lists name _ = false

-- ... and lets whoever queued the run decide
abbrev pub lists_requester : List ℕ → Check → Bool
lists_requester name (check.Approval told) = told.requester && is_among told.approvers name
lists_requester name _ = false

-- one of the checks of what a stage uses
abbrev pub some_on : List Fact → (Check → Bool) → ResourceKey → Bool
some_on facts test key = list_any test (checks_on facts key)

abbrev pub some_check : List Fact → PlanStage → (Check → Bool) → Bool
some_check facts planned test = list_any (some_on facts test) planned.uses

-- ---- the stage

-- how far it has come, where it isn't waiting any more
abbrev pub closed : List Fact → ℕ → ℕ → Option State
closed facts run stage = if is_some (stage_end run stage facts) then Some state.Ended
    else if is_some (stage_start run stage facts) then Some state.Running else None

-- ---- the answer: first what was decided before, then the stage, then who decides

-- somebody who isn't listed doesn't decide, nor does whoever queued the run, unless a check lets
-- them
abbrev pub unfit : List Fact → List ℕ → QueuedRun → PlanStage → Option Rule
unfit facts name queued planned =
    if not (some_check facts planned (lists name)) then Some rules.ApproverUnlisted
    else if is name queued.requester && not (some_check facts planned (lists_requester name))
    then Some rules.ApproverRequester else None

abbrev pub decide_again : Bool → Bool → Answer
decide_again before approve = if is_same before approve then without_fact (verdict_reply approve)
    else refused 409 (rules.DecisionChanged before)

-- what somebody decided about the stage before
abbrev pub kept : List Fact → List ℕ → ℕ → ℕ → Option Bool
kept facts name run stage = by verdict_told (decision run stage name facts)

module _ (facts : List Fact) (name : List ℕ) (approve : Bool) (run stage : ℕ) where
  abbrev pub decide_waiting : QueuedRun → PlanStage → Answer
  decide_waiting queued planned = option_map_or (refused 403) (unfit facts name queued planned)
      (with_fact (verdict_reply approve) (event.DecisionMade run stage name approve))

  abbrev pub decide_first : QueuedRun → PlanStage → Answer
  decide_first queued planned = option_map_or (λ far. refused 409 (rules.DecisionClosed far))
      (closed facts run stage) (decide_waiting queued planned)

  abbrev pub decide_at : QueuedRun → PlanStage → Answer
  decide_at queued planned = option_map_or (λ before. decide_again before approve)
      (kept facts name run stage) (decide_first queued planned)

-- ---- by names

-- the place of the stage of a name, which is compared exactly
abbrev pub stage_named : List ℕ → List PlanStage → Option ℕ
stage_named name stages = position (λ one. is one.name name) stages

abbrev pub decide_in : List Fact → List ℕ → Bool → ℕ → QueuedRun → ℕ → Answer
decide_in facts name approve run queued stage = option_map_or
    (decide_at facts name approve run stage queued)
    (slice_get queued.compiled.plan.stages stage) (refused 404 rules.StageUnknown)

abbrev pub decide_run : List Fact → List ℕ → ℕ → List ℕ → Bool → QueuedRun → Answer
decide_run facts name run stage approve queued = option_map_or
    (decide_in facts name approve run queued)
    (stage_named stage queued.compiled.plan.stages) (refused 404 rules.StageUnknown)

abbrev pub decide : List Fact → List ℕ → ℕ → List ℕ → Bool → Answer
decide facts name run stage approve = option_map_or
    (decide_run facts name run stage approve)
    (by run_told (queueing run facts)) (refused 404 rules.RunUnknown)
