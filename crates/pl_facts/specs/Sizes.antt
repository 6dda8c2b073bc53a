-- The size of an entry: the bytes of the texts in its request and in its facts. Digests, kinds and
-- numbers don't count, and of a run that is queued what its plan was compiled from counts, and not
-- the plan.
use Rattle.std.specs.Prelude.{ℕ, ◌+◌, min, List, [], ◌∷◌, length, Option, Some, None}
use Rattle.pl_base.specs.declared.expanded.Argument.{Argument}
use Rattle.pl_base.specs.declared.expanded.Refusal.{Refusal}
use Rattle.pl_base.specs.declared.place.FileKey.{FileKey}
use Rattle.pl_requests.specs.Below.pl_checks.specs.declared.check.Check.{Check}
use Rattle.pl_requests.specs.Below.pl_checks.specs.declared.check.Check.TheVariants as check
use Rattle.pl_plan.specs.declared.plan.Sources.{Sources}
use Rattle.pl_requests.specs.declared.request.JobName.{JobName}
use Rattle.pl_requests.specs.declared.request.Order.{Order}
use Rattle.pl_requests.specs.declared.request.Request.{Request}
use Rattle.pl_requests.specs.declared.request.Request.TheVariants as request
use Rattle.pl_requests.specs.declared.settings.AgentSetting.{AgentSetting}
use Rattle.pl_requests.specs.declared.settings.FileText.{FileText}
use Rattle.pl_requests.specs.declared.settings.PipelineSetting.{PipelineSetting}
use Rattle.pl_requests.specs.declared.settings.ResourceSetting.{ResourceSetting}
use Rattle.pl_rules.specs.declared.rule.Rule.{Rule}
use Rattle.pl_rules.specs.declared.rule.Rule.TheVariants as rule
use Rattle.pl_facts.specs.declared.entry.Entry.{Entry}
use Rattle.pl_facts.specs.declared.fact.Event.{Event}
use Rattle.pl_facts.specs.declared.fact.Event.TheVariants as event
use Rattle.pl_facts.specs.declared.fact.Fact.{Fact}
use Rattle.pl_facts.specs.declared.fact.QueuedRun.{QueuedRun}

-- what the items of a list count together
abbrev pub total : {X : Type 0} → (X → ℕ) → List X → ℕ
total size [] = 0
total size (x ∷ xs) = size x + total size xs

abbrev pub if_any : {X : Type 0} → (X → ℕ) → Option X → ℕ
if_any size None = 0
if_any size (Some x) = size x

-- a number as far as the code counts
abbrev pub counted : ℕ → ℕ
counted n = min n 18446744073709551615

-- ---- what requests and facts share

abbrev pub text_size : List ℕ → ℕ
text_size text = length text

abbrev pub texts_size : List (List ℕ) → ℕ
texts_size texts = total text_size texts

abbrev pub pair_size : List ℕ × List ℕ → ℕ
pair_size pair = length pair.0 + length pair.1

abbrev pub key_size : FileKey → ℕ
key_size key = length key.repo + (length key.git_ref + length key.path)

abbrev pub file_size : FileText → ℕ
file_size file = key_size file.key + length file.text

abbrev pub argument_size : Argument → ℕ
argument_size argument = length argument.name + length argument.text

-- a zone counts as its text
abbrev pub check_size : Check → ℕ
check_size (check.RequiredTemplate told) = total key_size told.templates
check_size (check.Branch told) = texts_size told.patterns
check_size (check.Approval told) = texts_size told.approvers
check_size (check.Hours told) = length told.zone

abbrev pub pipeline_size : PipelineSetting → ℕ
pipeline_size told = length told.name + (length told.repo + length told.path)

abbrev pub resource_size : ResourceSetting → ℕ
resource_size told = length told.key.name + (if_any texts_size told.pipelines +
    total check_size told.checks)

abbrev pub agent_size : AgentSetting → ℕ
agent_size told = length told.name + (length told.pool + total pair_size told.capabilities)

-- ---- requests

abbrev pub job_name_size : JobName → ℕ
job_name_size told = length told.stage + length told.job

abbrev pub order_size : Order → ℕ
order_size told = length told.pipeline + (length told.git_ref + total argument_size told.arguments)

abbrev pub request_size : Request → ℕ
request_size (request.PutFile file) = file_size file
request_size (request.RemoveFile key) = key_size key
request_size (request.GetFile key) = key_size key
request_size (request.SetPipeline told) = pipeline_size told
request_size (request.SetResource told) = resource_size told
request_size (request.SetPrincipal told) = length told.name
request_size (request.SetAgent told) = agent_size told
request_size (request.QueueText text) = length text
request_size (request.Queue told) = order_size told
request_size (request.ReadRun run) = 0
request_size (request.Cancel run) = 0
request_size (request.Decide run stage approve) = length stage
request_size request.Draw = 0
request_size (request.Claim job) = job_name_size job
request_size (request.Why job agent) = job_name_size job + length agent
request_size (request.Report job report) = job_name_size job + total pair_size report.outputs
request_size request.Shutdown = 0

-- ---- facts

-- what a rule tells in texts
abbrev pub busy_size : ℕ × List ℕ → ℕ
busy_size stage = length stage.1

abbrev pub refusal_size : Refusal → ℕ
refusal_size told = length told.code + (key_size told.place.file + texts_size told.detail)

abbrev pub rule_size : Rule → ℕ
rule_size (rule.JobEnded result by) = length by
rule_size (rule.JobTaken agent) = length agent
rule_size (rule.AgentBusy run stage job) = length stage + length job
rule_size (rule.PoolMismatch have need) = length have + length need
rule_size (rule.CapabilityMissing name) = length name
rule_size (rule.StageDepends stage) = length stage
rule_size (rule.PermissionMissing resource) = length resource.name
rule_size (rule.LockHeld run stage) = length stage
rule_size (rule.LockBehind run stage) = length stage
rule_size (rule.JobDepends job) = length job
rule_size (rule.TemplateArgument job step) = length job
rule_size (rule.BranchRefused git_ref) = length git_ref
rule_size (rule.ApprovalRejected approver) = length approver
rule_size (rule.ReportStranger agent) = if_any text_size agent
rule_size (rule.ResourceBusy stages) = total busy_size stages
rule_size (rule.TokenTaken name) = length name
rule_size (rule.ResourceUnknown resource) = length resource.name
rule_size (rule.CompileRefused refusal) = refusal_size refusal
rule_size _ = 0

abbrev pub source_size : FileKey × List ℕ → ℕ
source_size source = key_size source.0 + length source.1

abbrev pub sources_size : Sources → ℕ
sources_size told = key_size told.root + (total argument_size told.arguments +
    total source_size told.files)

abbrev pub run_size : QueuedRun → ℕ
run_size told = length told.pipeline + (length told.requester +
    sources_size told.compiled.sources)

abbrev pub event_size : Event → ℕ
event_size (event.FilePut file) = file_size file
event_size (event.FileRemoved key) = key_size key
event_size (event.PipelineSet told) = pipeline_size told
event_size (event.ResourceSet told) = resource_size told
event_size (event.PrincipalSet told) = length told.name
event_size (event.AgentSet told) = agent_size told
event_size (event.RunQueued told) = run_size told
event_size (event.DecisionMade run stage approver approve) = length approver
event_size (event.StageStarted run stage) = 0
event_size (event.StageEnded run stage outcome by) = if_any rule_size by
event_size (event.JobTaken run stage job agent) = length agent
event_size (event.JobEnded outcome reported stage job run by outputs) =
    if_any rule_size by + total pair_size outputs
event_size (event.RunCanceled run) = 0

abbrev pub fact_size : Fact → ℕ
fact_size fact = event_size fact.event

-- ---- entries

-- what a request and the facts that it adds count together
abbrev pub size_with : Request → List Fact → ℕ
size_with request facts = request_size request + total fact_size facts

abbrev pub size_of : Entry → ℕ
size_of entry = size_with entry.call.request entry.facts
