-- The table of rules: each by its name, with what is told beside it.
use Rattle.std.specs.Prelude.{ℕ, List, [], ◌∷◌, map, Option, Some, None, codes}
use Rattle.std.specs.Option.{option_map_or}
use Rattle.pl_base.specs.declared.expanded.Refusal.{Refusal}
use Rattle.pl_base.specs.declared.place.FileKey.{FileKey}
use Rattle.pl_base.specs.declared.place.Place.{Place}
use Rattle.pl_base.specs.declared.resource.ResourceKey.{ResourceKey}
use Rattle.pl_json.specs.declared.json.Json.{Json}
use Rattle.pl_json.specs.declared.json.Json.TheVariants as json
use Rattle.pl_json.specs.declared.members.Member.{Member}
use Rattle.pl_json.specs.Members.{member}
use Rattle.pl_json.specs.Objects.{object}
use Rattle.pl_rules.specs.declared.rule.Rule.{Rule}
use Rattle.pl_rules.specs.declared.rule.Rule.TheVariants.{JobUnknown, JobEnded, JobTaken, AgentBusy}
use Rattle.pl_rules.specs.declared.rule.Rule.TheVariants.{PoolMismatch, CapabilityMissing}
use Rattle.pl_rules.specs.declared.rule.Rule.TheVariants.{StageDepends, PermissionMissing}
use Rattle.pl_rules.specs.declared.rule.Rule.TheVariants.{ApprovalOpen, HoursClosed, LockHeld}
use Rattle.pl_rules.specs.declared.rule.Rule.TheVariants.{LockBehind, JobDepends, ParallelFull}
use Rattle.pl_rules.specs.declared.rule.Rule.TheVariants.{ConditionFalse, RunCanceled, JobTimeout}
use Rattle.pl_rules.specs.declared.rule.Rule.TheVariants.{TemplateRequired, TemplateArgument}
use Rattle.pl_rules.specs.declared.rule.Rule.TheVariants.{BranchRefused, ApprovalRejected}
use Rattle.pl_rules.specs.declared.rule.Rule.TheVariants.{ApprovalTimeout, HoursTimeout}
use Rattle.pl_rules.specs.declared.rule.Rule.TheVariants.{LockSuperseded, TokenUnknown, RoleMissing}
use Rattle.pl_rules.specs.declared.rule.Rule.TheVariants.{KeeperFault, Memory, NoRule, JournalFull}
use Rattle.pl_rules.specs.declared.rule.Rule.TheVariants.{FileUnknown, PipelineUnknown, RunUnknown}
use Rattle.pl_rules.specs.declared.rule.Rule.TheVariants.{StageUnknown, AgentUnknown}
use Rattle.pl_rules.specs.declared.rule.Rule.TheVariants.{ApproverUnlisted, ApproverRequester}
use Rattle.pl_rules.specs.declared.rule.Rule.TheVariants.{PrincipalReserved, PipelineReserved}
use Rattle.pl_rules.specs.declared.rule.Rule.TheVariants.{RunEnded, DecisionClosed}
use Rattle.pl_rules.specs.declared.rule.Rule.TheVariants.{DecisionChanged, ReportStranger}
use Rattle.pl_rules.specs.declared.rule.Rule.TheVariants.{ReportChanged, ResourceBusy, TokenTaken}
use Rattle.pl_rules.specs.declared.rule.Rule.TheVariants.{ResourceUnknown, CompileRefused}
use Rattle.pl_rules.specs.declared.rule.Rule.TheVariants.{HeadLarge, HeadBad, LengthMissing}
use Rattle.pl_rules.specs.declared.rule.Rule.TheVariants.{BodyLarge, RouteUnknown, MethodUnknown}
use Rattle.pl_rules.specs.declared.rule.Rule.TheVariants.{BodyBad}
use Rattle.pl_refusals.specs.Names.{day_name, kind_name, outcome_name, role_name, state_name}
use Rattle.pl_refusals.specs.Names.{verdict_name}

-- ---- members

abbrev pub text : List ℕ → List ℕ → Member Json
text name told = member name (json.Text told)

abbrev pub number : List ℕ → ℕ → Member Json
number name told = member name (json.Number told)

abbrev pub texts : List (List ℕ) → Json
texts told = json.Array (map json.Text told)

-- ---- what several rules tell

abbrev pub resource : ResourceKey → List (Member Json)
resource told = text (codes "kind") (kind_name told.kind) ∷ text (codes "name") told.name ∷ []

abbrev pub stage_at : ℕ → List ℕ → List (Member Json)
stage_at run stage = number (codes "run") run ∷ text (codes "stage") stage ∷ []

abbrev pub stage_object : ℕ × List ℕ → Json
stage_object told = object (stage_at told.0 told.1)

-- a file by its key
abbrev pub file_members : FileKey → List (Member Json)
file_members file = text (codes "path") file.path ∷ text (codes "ref") file.git_ref
    ∷ text (codes "repo") file.repo ∷ []

abbrev pub file_object : FileKey → Json
file_object file = object (file_members file)

-- a place in a file: its column and its line, and the file
abbrev pub place_object : Place → Json
place_object place = object (number (codes "col") place.col ∷ number (codes "line") place.line
    ∷ file_members place.file)

abbrev pub text_or_null : Option (List ℕ) → Json
text_or_null None = json.Null
text_or_null (Some told) = json.Text told

-- ---- the table

-- a rule's name and its fields
abbrev pub Row : Type 0
Row = List ℕ × List (Member Json)

abbrev pub row : Rule → Row
row JobUnknown = (codes "job.unknown", [])
row (JobEnded result by) =
    (codes "job.ended", text (codes "by") by ∷ text (codes "result") (outcome_name result) ∷ [])
row (JobTaken agent) = (codes "job.taken", text (codes "agent") agent ∷ [])
row (AgentBusy run stage job) =
    (codes "agent.busy", text (codes "job") job ∷ stage_at run stage)
row (PoolMismatch have need) =
    (codes "pool.mismatch", text (codes "have") have ∷ text (codes "need") need ∷ [])
row (CapabilityMissing name) = (codes "capability.missing", text (codes "name") name ∷ [])
row (StageDepends stage) = (codes "stage.depends", text (codes "stage") stage ∷ [])
row (PermissionMissing told) = (codes "permission.missing", resource told)
row (ApprovalOpen have need) =
    (codes "approval.open", number (codes "have") have ∷ number (codes "need") need ∷ [])
row (HoursClosed day minute) =
    (codes "hours.closed", text (codes "day") (day_name day) ∷ number (codes "minute") minute ∷ [])
row (LockHeld run stage) = (codes "lock.held", stage_at run stage)
row (LockBehind run stage) = (codes "lock.behind", stage_at run stage)
row (JobDepends job) = (codes "job.depends", text (codes "job") job ∷ [])
row (ParallelFull limit) = (codes "parallel.full", number (codes "limit") limit ∷ [])
row ConditionFalse = (codes "condition.false", [])
row RunCanceled = (codes "run.canceled", [])
row JobTimeout = (codes "job.timeout", [])
row TemplateRequired = (codes "template.required", [])
row (TemplateArgument job step) =
    (codes "template.argument", text (codes "job") job ∷ number (codes "step") step ∷ [])
row (BranchRefused git_ref) = (codes "branch.refused", text (codes "ref") git_ref ∷ [])
row (ApprovalRejected approver) =
    (codes "approval.rejected", text (codes "approver") approver ∷ [])
row ApprovalTimeout = (codes "approval.timeout", [])
row HoursTimeout = (codes "hours.timeout", [])
row (LockSuperseded run) = (codes "lock.superseded", number (codes "run") run ∷ [])
row TokenUnknown = (codes "token.unknown", [])
row (RoleMissing need) =
    (codes "role.missing", member (codes "need") (texts (map role_name need)) ∷ [])
row KeeperFault = (codes "keeper.fault", [])
row Memory = (codes "memory", [])
row NoRule = (codes "none", [])
row JournalFull = (codes "journal.full", [])
row FileUnknown = (codes "file.unknown", [])
row PipelineUnknown = (codes "pipeline.unknown", [])
row RunUnknown = (codes "run.unknown", [])
row StageUnknown = (codes "stage.unknown", [])
row AgentUnknown = (codes "agent.unknown", [])
row ApproverUnlisted = (codes "approver.unlisted", [])
row ApproverRequester = (codes "approver.requester", [])
row PrincipalReserved = (codes "principal.reserved", [])
row PipelineReserved = (codes "pipeline.reserved", [])
row RunEnded = (codes "run.ended", [])
row (DecisionClosed state) =
    (codes "decision.closed", text (codes "state") (state_name state) ∷ [])
row (DecisionChanged approve) =
    (codes "decision.changed", text (codes "verdict") (verdict_name approve) ∷ [])
row (ReportStranger agent) =
    (codes "report.stranger", member (codes "agent") (text_or_null agent) ∷ [])
row (ReportChanged result) =
    (codes "report.changed", text (codes "result") (outcome_name result) ∷ [])
row (ResourceBusy stages) =
    (codes "resource.busy", member (codes "stages") (json.Array (map stage_object stages)) ∷ [])
row (TokenTaken name) = (codes "token.taken", text (codes "name") name ∷ [])
row (ResourceUnknown told) = (codes "resource.unknown", resource told)
row (CompileRefused told) = (
  codes "compile.refused",
  member (codes "at") (place_object told.place)
      ∷ text (codes "code") told.code ∷ member (codes "detail") (texts told.detail) ∷ [],
)
row HeadLarge = (codes "head.large", [])
row HeadBad = (codes "head.bad", [])
row LengthMissing = (codes "length.missing", [])
row BodyLarge = (codes "body.large", [])
row RouteUnknown = (codes "route.unknown", [])
row MethodUnknown = (codes "method.unknown", [])
row BodyBad = (codes "body.bad", [])

abbrev pub name_of : Rule → List ℕ
name_of rule = (row rule).0

abbrev pub fields_of : Rule → List (Member Json)
fields_of rule = (row rule).1

-- a rule's object: its name and its fields
abbrev pub rule_object : Rule → Json
rule_object rule = object (text (codes "rule") (name_of rule) ∷ fields_of rule)
