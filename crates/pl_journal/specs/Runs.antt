-- Runs, their stages and their jobs: the latest fact counts.
use Rattle.std.specs.Prelude.{ℕ, nat_lt, Bool, false, not, ◌&&◌, ◌||◌, List, [], ◌∷◌, flat_map}
use Rattle.std.specs.Prelude.{Option, Some, None, is_none, is_some, if◌then◌else◌}
use Rattle.std.specs.Option.{option_or, option_and_then, option_map_or}
use Rattle.pl_base.specs.declared.outcome.Outcome.{Outcome}
use Rattle.pl_facts.specs.declared.fact.Event.{Event}
use Rattle.pl_facts.specs.declared.fact.Event.TheVariants as event
use Rattle.pl_facts.specs.declared.fact.Fact.{Fact}
use Rattle.pl_facts.specs.declared.fact.QueuedRun.{QueuedRun}
use Rattle.pl_rules.specs.declared.rule.Rule.{Rule}
use Rattle.pl_journal.specs.About.{is_about, is_also_about, latest_also, latest_of}
use Rattle.pl_journal.specs.Kinds.{is_queueing, is_canceling, is_start, is_stage_end}
use Rattle.pl_journal.specs.Kinds.{is_decision_by, is_taking, is_job_end}
use Rattle.pl_journal.specs.Settings.{by}
use Rattle.pl_log.specs.Keys.{Run, Stage, Job, Taker}
use Rattle.pl_log.specs.Latest.{latest, latest_first}

-- ---- what one fact tells

abbrev pub run_told : Event → Option QueuedRun
run_told (event.RunQueued told) = Some told
run_told _ = None

abbrev pub number_told : Event → Option ℕ
number_told (event.RunQueued told) = Some told.run
number_told _ = None

-- how something ended, and by which rule
abbrev pub outcome_told : Event → Option Outcome
outcome_told (event.StageEnded run stage outcome rule) = Some outcome
outcome_told (event.JobEnded outcome reported stage job run rule outputs) = Some outcome
outcome_told _ = None

abbrev pub rule_told : Event → Option Rule
rule_told (event.StageEnded run stage outcome rule) = rule
rule_told (event.JobEnded outcome reported stage job run rule outputs) = rule
rule_told _ = None

abbrev pub outputs_told : Event → Option (List (List ℕ × List ℕ))
outputs_told (event.JobEnded outcome reported stage job run rule outputs) = Some outputs
outputs_told _ = None

abbrev pub taker_told : Event → Option (List ℕ)
taker_told (event.JobTaken run stage job agent) = Some agent
taker_told _ = None

-- whether the stage was approved
abbrev pub verdict_told : Event → Option Bool
verdict_told (event.DecisionMade run stage approver approve) = Some approve
verdict_told _ = None

-- who decided, and whether it was approved; another fact tells nothing of that
abbrev pub decided : Event → List (List ℕ × Bool)
decided (event.DecisionMade run stage approver approve) = (approver, approve) ∷ []
decided _ = []

-- ---- runs and stages: the facts that count

abbrev pub queueing : ℕ → List Fact → Option Fact
queueing run facts = latest_of (Run run) is_queueing facts

abbrev pub canceling : ℕ → List Fact → Option Fact
canceling run facts = latest_of (Run run) is_canceling facts

abbrev pub stage_start : ℕ → ℕ → List Fact → Option Fact
stage_start run stage facts = latest_of (Stage run stage) is_start facts

abbrev pub stage_end : ℕ → ℕ → List Fact → Option Fact
stage_end run stage facts = latest_of (Stage run stage) is_stage_end facts

-- what somebody decided about a stage
abbrev pub decision : ℕ → ℕ → List ℕ → List Fact → Option Fact
decision run stage name facts = latest_of (Stage run stage) (is_decision_by name) facts

-- whether a decision is still its approver's: the latest one about the stage says the same
abbrev pub still_decided : List Fact → Event → Bool
still_decided facts (event.DecisionMade run stage approver approve) = option_map_or
    (λ now. if now then approve else not approve)
    (by verdict_told (decision run stage approver facts)) false
still_decided facts _ = false

-- who decided about a stage, and whether it was approved: the latest decision of each counts, and
-- the latest of these stands in front
abbrev pub decisions : ℕ → ℕ → List Fact → List (List ℕ × Bool)
decisions run stage facts = flat_map (λ fact. decided fact.event)
    (latest_first (λ fact. is_about (Stage run stage) fact && still_decided facts fact.event)
    facts)

-- ---- jobs

abbrev pub taking : ℕ → ℕ → ℕ → List Fact → Option Fact
taking run stage job facts = latest_of (Job run stage job) is_taking facts

abbrev pub job_end : ℕ → ℕ → ℕ → List Fact → Option Fact
job_end run stage job facts = latest_of (Job run stage job) is_job_end facts

-- the end of a stage that ended without a start
abbrev pub skipping : ℕ → ℕ → List Fact → Option Fact
skipping run stage facts =
    if is_some (stage_start run stage facts) then None else stage_end run stage facts

-- what ended the job: its own end, or its stage's where that ended without a start
abbrev pub job_ending : ℕ → ℕ → ℕ → List Fact → Option Fact
job_ending run stage job facts = option_or (job_end run stage job facts) (skipping run stage facts)

-- the taking by which an agent holds the job, until the job's end
abbrev pub holding : ℕ → ℕ → ℕ → List Fact → Option Fact
holding run stage job facts =
    if is_some (job_ending run stage job facts) then None else taking run stage job facts

-- whether the job that the fact tells hasn't ended
abbrev pub still_runs : List Fact → Event → Bool
still_runs facts (event.JobTaken run stage job agent) = is_none (job_ending run stage job facts)
still_runs facts _ = false

-- The taking by which an agent holds a job. An agent takes a job only where it holds none, and
-- moments never fall along the facts: what it took before the moment of its last taking has ended.
-- Of the takings of that moment, though, the one whose job still runs needn't be the last: a
-- service that is opened again has the facts of one moment in the order of its rows. So from its
-- last taking back the first one counts whose job still runs, or which is older; and it holds the
-- job where that still runs.
abbrev pub decides : List Fact → ℕ → Fact → Bool
decides facts last fact = still_runs facts fact.event || nat_lt fact.moment last

abbrev pub if_running : List Fact → Fact → Option Fact
if_running facts fact = if still_runs facts fact.event then Some fact else None

abbrev pub held_at : List ℕ → List Fact → ℕ → Option Fact
held_at agent facts last = option_and_then (if_running facts)
    (latest (λ fact. is_also_about (Taker agent) fact && decides facts last fact) facts)

abbrev pub held_by : List ℕ → List Fact → Option Fact
held_by agent facts = option_and_then (λ last. held_at agent facts last.moment)
    (latest_also (Taker agent) facts)

-- the outputs of a job that ended by itself
abbrev pub outputs : ℕ → ℕ → ℕ → List Fact → Option (List (List ℕ × List ℕ))
outputs run stage job facts = by outputs_told (job_ending run stage job facts)
