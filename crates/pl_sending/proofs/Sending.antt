-- That an entry and a journal may go into another thread: a law for each type that they hold, from
-- the laws of its fields. Of plain types and of recursive ones these laws are made.
use mathlib.Core.List.{[], ◌∷◌}
use denote.Builtin.{bool, u32, u64, usize}
use denote.RattleType.{RattleType}
use denote.Param.Send.{IsSend, IsSync, sendable, view_send}
use denote.Param.SendFields.{declared_send, declared_sync, variants_send, variants_sync}
use denote.Struct.Tuple.{Tuple, tuple_type}
use Rattle.pl_base.proofs.boxed.Boxed.TheSendSync as boxed_s
use Rattle.pl_base.proofs.list.List.TheSendSync as list_s
use Rattle.pl_base.proofs.origin.Crossing.TheSendSync as crossing_s
use Rattle.pl_base.proofs.outcome.Behaviour.TheSendSync as behaviour_s
use Rattle.pl_base.proofs.outcome.Outcome.TheSendSync as outcome_s
use Rattle.pl_base.proofs.place.FileKey.TheSendSync as file_key_s
use Rattle.pl_base.proofs.place.Place.TheSendSync as place_s
use Rattle.pl_base.proofs.repo_ref.RepoRef.TheSendSync as repo_ref_s
use Rattle.pl_base.proofs.resource.ResourceKey.TheSendSync as resource_key_s
use Rattle.pl_base.proofs.shared.Shared.TheSendSync as shared_s
use Rattle.pl_base.proofs.shared_list.Chain.TheLaws.TheKnot as chain_k
use Rattle.pl_base.proofs.text.Text.TheSendSync as text_s
use Rattle.pl_base.proofs.value.Value.TheLaws.TheKnot as value_k
use Rattle.pl_base.specs.contracts.list.List as List
use Rattle.pl_base.specs.contracts.origin.Crossing as Crossing
use Rattle.pl_base.specs.contracts.origin.Origin as Origin
use Rattle.pl_base.specs.contracts.outcome.Outcome as Outcome
use Rattle.pl_base.specs.contracts.place.FileKey as FileKey
use Rattle.pl_base.specs.contracts.repo_ref.RepoRef as RepoRef
use Rattle.pl_base.specs.contracts.resource.ResourceKey as ResourceKey
use Rattle.pl_base.specs.contracts.shared.Shared as Shared
use Rattle.pl_base.specs.contracts.shared_list.Chain as Chain
use Rattle.pl_base.specs.contracts.shared_list.SharedList as SharedList
use Rattle.pl_base.specs.contracts.text.Text as Text
use Rattle.pl_base.specs.contracts.value.MarkedNode as MarkedNode
use Rattle.pl_base.specs.contracts.value.Value as Value
use Rattle.pl_expr.proofs.expr.Expr.TheLaws.TheKnot as expr_k
use Rattle.pl_expr.proofs.expr.Function.TheSendSync as function_s
use Rattle.pl_expr.specs.contracts.expr.Expr as Expr
use Rattle.pl_facts.specs.contracts.entry.Entry as Entry
use Rattle.pl_facts.specs.contracts.fact.Event as Event
use Rattle.pl_facts.specs.contracts.fact.Fact as Fact
use Rattle.pl_facts.specs.contracts.fact.QueuedRun as QueuedRun
use Rattle.pl_journal.proofs.built_in.BuiltIn.TheSendSync as built_in_s
use Rattle.pl_journal.proofs.journal.Numbers.TheSendSync as numbers_s
use Rattle.pl_journal.specs.contracts.about.Logged as Logged
use Rattle.pl_journal.specs.contracts.about.Logged.TheInside as logged_inside
use Rattle.pl_journal.specs.contracts.journal.Journal as Journal
use Rattle.pl_journal.specs.contracts.journal.Journal.TheInside as journal_inside
use Rattle.pl_log.proofs.log.Log.TheSendSync as log_s
use Rattle.pl_open_runs.specs.contracts.indexed_journal.IndexedJournal as IndexedJournal
use Rattle.pl_open_runs.specs.contracts.indexed_journal.IndexedJournal.TheInside as indexed_inside
use Rattle.pl_plan.proofs.plan.Sources.TheSendSync as sources_s
use Rattle.pl_plan.specs.contracts.plan.Compiled as Compiled
use Rattle.pl_plan.specs.contracts.plan.Plan as Plan
use Rattle.pl_plan.specs.contracts.plan.PlanJob as PlanJob
use Rattle.pl_plan.specs.contracts.plan.PlanStage as PlanStage
use Rattle.pl_plan.specs.contracts.plan.PlanStep as PlanStep
use Rattle.pl_requests.proofs.call.Call.TheSendSync as call_s
use Rattle.pl_requests.proofs.settings.AgentSetting.TheSendSync as agent_setting_s
use Rattle.pl_requests.proofs.settings.FileText.TheSendSync as file_text_s
use Rattle.pl_requests.proofs.settings.PipelineSetting.TheSendSync as pipeline_setting_s
use Rattle.pl_requests.proofs.settings.PrincipalSetting.TheSendSync as principal_setting_s
use Rattle.pl_requests.proofs.settings.ResourceSetting.TheSendSync as resource_setting_s
use Rattle.pl_requests.specs.contracts.settings.AgentSetting as AgentSetting
use Rattle.pl_requests.specs.contracts.settings.FileText as FileText
use Rattle.pl_requests.specs.contracts.settings.PipelineSetting as PipelineSetting
use Rattle.pl_requests.specs.contracts.settings.PrincipalSetting as PrincipalSetting
use Rattle.pl_requests.specs.contracts.settings.ResourceSetting as ResourceSetting
use Rattle.pl_rules.proofs.rule.Rule.TheSendSync as rule_s
use Rattle.pl_rules.specs.contracts.rule.Rule as Rule
use Rattle.pl_schema_parts.specs.contracts.pipeline.Variable as Variable
use Rattle.pl_uses.proofs.demand.Demand.TheSendSync as demand_s
use Rattle.pl_uses.specs.contracts.demand.Demand as Demand
use Rattle.std.proofs.Crossing as c
use Rattle.std.proofs.option.Option.TheSendSync as option_s
use Rattle.std.specs.contracts.option.Option as Option

-- a law in front of others
infixr 5 ◌&◌
abbrev ◌&◌ : {A B : Type 0} → A → B → A × B
law & laws = (law, laws)

chain_send : (T : RattleType) → IsSend T → IsSync T → IsSend (Chain.the_row T)
chain_send T s y =
    let a = chain_k.both_send-Chain T shared_s.the_send shared_s.the_sync s y in search sendable
    depth 20

chain_sync : (T : RattleType) → IsSend T → IsSync T → IsSync (Chain.the_row T)
chain_sync T s y =
    let a = chain_k.both_sync-Chain T shared_s.the_send shared_s.the_sync s y in search sendable
    depth 20

pub shared_list_send : (T : RattleType) → IsSend T → IsSync T → IsSend (SharedList.the_row T)
shared_list_send T s y =
    let a = shared_s.the_send (Chain.the_row T) (chain_send T s y) (chain_sync T s y) in search
    sendable depth 20

pub shared_list_sync : (T : RattleType) → IsSend T → IsSync T → IsSync (SharedList.the_row T)
shared_list_sync T s y =
    let a = shared_s.the_sync (Chain.the_row T) (chain_send T s y) (chain_sync T s y) in search
    sendable depth 20

origin_field_send : IsSend Origin.the_field.row
origin_field_send =
    let a = place_s.the_field_send in let b = shared_list_send Crossing.the_row crossing_s.the_send
    crossing_s.the_sync in search sendable depth 20

origin_field_sync : IsSync Origin.the_field.row
origin_field_sync =
    let a = place_s.the_field_sync in let b = shared_list_sync Crossing.the_row crossing_s.the_send
    crossing_s.the_sync in search sendable depth 20

value_field_send : IsSend Value.the_field.row
value_field_send =
    let a = origin_field_send in let b = text_s.the_send in search (
      value_k.send-Value,
      list_s.the_send,
      sendable,
    ) depth 20

value_field_sync : IsSync Value.the_field.row
value_field_sync =
    let a = origin_field_sync in let b = text_s.the_sync in search (
      value_k.sync-Value,
      list_s.the_sync,
      sendable,
    ) depth 20

marked_node_field_send : IsSend MarkedNode.the_field.row
marked_node_field_send =
    let a = origin_field_send in let b = text_s.the_send in search (
      value_k.send-MarkedNode,
      list_s.the_send,
      sendable,
    ) depth 20

marked_node_field_sync : IsSync MarkedNode.the_field.row
marked_node_field_sync =
    let a = origin_field_sync in let b = text_s.the_sync in search (
      value_k.sync-MarkedNode,
      list_s.the_sync,
      sendable,
    ) depth 20

pub marked_node_send : IsSend MarkedNode.the_row
marked_node_send = let a = marked_node_field_send in search sendable depth 20

pub marked_node_sync : IsSync MarkedNode.the_row
marked_node_sync = let a = marked_node_field_sync in search sendable depth 20

expr_field_send : IsSend Expr.the_field.row
expr_field_send =
    let a = value_field_send in let b = text_s.the_send in let f = function_s.the_field_send in
    search (expr_k.send-Expr, list_s.the_send, boxed_s.the_send, sendable) depth 20

expr_field_sync : IsSync Expr.the_field.row
expr_field_sync =
    let a = value_field_sync in let b = text_s.the_sync in let f = function_s.the_field_sync in
    search (expr_k.sync-Expr, list_s.the_sync, boxed_s.the_sync, sendable) depth 20

pub expr_send : IsSend Expr.the_row
expr_send = let a = expr_field_send in search sendable depth 20

pub expr_sync : IsSync Expr.the_row
expr_sync = let a = expr_field_sync in search sendable depth 20

bool_send : IsSend bool
bool_send = search sendable

bool_sync : IsSync bool
bool_sync = search sendable

u32_send : IsSend u32
u32_send = search sendable

u32_sync : IsSync u32
u32_sync = search sendable

u64_send : IsSend u64
u64_send = search sendable

u64_sync : IsSync u64
u64_sync = search sendable

usize_send : IsSend usize
usize_send = search sendable

usize_sync : IsSync usize
usize_sync = search sendable

maybe_expr_send : IsSend (Option.the_row Expr.the_row)
maybe_expr_send = option_s.the_send Expr.the_row expr_send

pub variable_send : IsSend Variable.the_row
variable_send =
    declared_send Variable.the_type (text_s.the_send & text_s.the_send & maybe_expr_send & tt)

maybe_expr_sync : IsSync (Option.the_row Expr.the_row)
maybe_expr_sync = option_s.the_sync Expr.the_row expr_sync

pub variable_sync : IsSync Variable.the_row
variable_sync =
    declared_sync Variable.the_type (text_s.the_sync & text_s.the_sync & maybe_expr_sync & tt)

pub plan_step_send : IsSend PlanStep.the_row
plan_step_send = declared_send PlanStep.the_type (text_s.the_send & marked_node_send & tt)

pub plan_step_sync : IsSync PlanStep.the_row
plan_step_sync = declared_sync PlanStep.the_type (text_s.the_sync & marked_node_sync & tt)

maybe_text_send : IsSend (Option.the_row Text.the_row)
maybe_text_send = option_s.the_send Text.the_row text_s.the_send

u32s_send : IsSend (List.the_row u32)
u32s_send = list_s.the_send u32 u32_send

u32s_sync : IsSync (List.the_row u32)
u32s_sync = list_s.the_sync u32 u32_sync

shared_u32s_send : IsSend (Shared.the_row (List.the_row u32))
shared_u32s_send = shared_s.the_send (List.the_row u32) u32s_send u32s_sync

variables_send : IsSend (List.the_row Variable.the_row)
variables_send = list_s.the_send Variable.the_row variable_send

texts_send : IsSend (List.the_row Text.the_row)
texts_send = list_s.the_send Text.the_row text_s.the_send

demands_send : IsSend (List.the_row Demand.the_row)
demands_send = list_s.the_send Demand.the_row demand_s.the_send

plan_steps_send : IsSend (List.the_row PlanStep.the_row)
plan_steps_send = list_s.the_send PlanStep.the_row plan_step_send

plan_steps_sync : IsSync (List.the_row PlanStep.the_row)
plan_steps_sync = list_s.the_sync PlanStep.the_row plan_step_sync

shared_plan_steps_send : IsSend (Shared.the_row (List.the_row PlanStep.the_row))
shared_plan_steps_send =
    shared_s.the_send (List.the_row PlanStep.the_row) plan_steps_send plan_steps_sync

pub plan_job_send : IsSend PlanJob.the_row
plan_job_send =
    declared_send PlanJob.the_type (text_s.the_send & maybe_text_send & bool_send & shared_u32s_send
    & maybe_expr_send & variables_send & texts_send & text_s.the_send & demands_send & u32_send &
    u32_send & bool_send & shared_plan_steps_send & tt)

maybe_text_sync : IsSync (Option.the_row Text.the_row)
maybe_text_sync = option_s.the_sync Text.the_row text_s.the_sync

shared_u32s_sync : IsSync (Shared.the_row (List.the_row u32))
shared_u32s_sync = shared_s.the_sync (List.the_row u32) u32s_send u32s_sync

variables_sync : IsSync (List.the_row Variable.the_row)
variables_sync = list_s.the_sync Variable.the_row variable_sync

texts_sync : IsSync (List.the_row Text.the_row)
texts_sync = list_s.the_sync Text.the_row text_s.the_sync

demands_sync : IsSync (List.the_row Demand.the_row)
demands_sync = list_s.the_sync Demand.the_row demand_s.the_sync

shared_plan_steps_sync : IsSync (Shared.the_row (List.the_row PlanStep.the_row))
shared_plan_steps_sync =
    shared_s.the_sync (List.the_row PlanStep.the_row) plan_steps_send plan_steps_sync

pub plan_job_sync : IsSync PlanJob.the_row
plan_job_sync =
    declared_sync PlanJob.the_type (text_s.the_sync & maybe_text_sync & bool_sync & shared_u32s_sync
    & maybe_expr_sync & variables_sync & texts_sync & text_s.the_sync & demands_sync & u32_sync &
    u32_sync & bool_sync & shared_plan_steps_sync & tt)

resource_keys_send : IsSend (List.the_row ResourceKey.the_row)
resource_keys_send = list_s.the_send ResourceKey.the_row resource_key_s.the_send

plan_jobs_send : IsSend (List.the_row PlanJob.the_row)
plan_jobs_send = list_s.the_send PlanJob.the_row plan_job_send

pub plan_stage_send : IsSend PlanStage.the_row
plan_stage_send =
    declared_send PlanStage.the_type (text_s.the_send & u32s_send & maybe_expr_send & variables_send
    & texts_send & resource_keys_send & behaviour_s.the_send & plan_jobs_send & tt)

resource_keys_sync : IsSync (List.the_row ResourceKey.the_row)
resource_keys_sync = list_s.the_sync ResourceKey.the_row resource_key_s.the_sync

plan_jobs_sync : IsSync (List.the_row PlanJob.the_row)
plan_jobs_sync = list_s.the_sync PlanJob.the_row plan_job_sync

pub plan_stage_sync : IsSync PlanStage.the_row
plan_stage_sync =
    declared_sync PlanStage.the_type (text_s.the_sync & u32s_sync & maybe_expr_sync & variables_sync
    & texts_sync & resource_keys_sync & behaviour_s.the_sync & plan_jobs_sync & tt)

maybe_file_key_send : IsSend (Option.the_row FileKey.the_row)
maybe_file_key_send = option_s.the_send FileKey.the_row file_key_s.the_send

repo_refs_send : IsSend (List.the_row RepoRef.the_row)
repo_refs_send = list_s.the_send RepoRef.the_row repo_ref_s.the_send

plan_stages_send : IsSend (List.the_row PlanStage.the_row)
plan_stages_send = list_s.the_send PlanStage.the_row plan_stage_send

pub plan_send : IsSend Plan.the_row
plan_send =
    declared_send Plan.the_type (file_key_s.the_send & maybe_file_key_send & repo_refs_send &
    plan_stages_send & tt)

maybe_file_key_sync : IsSync (Option.the_row FileKey.the_row)
maybe_file_key_sync = option_s.the_sync FileKey.the_row file_key_s.the_sync

repo_refs_sync : IsSync (List.the_row RepoRef.the_row)
repo_refs_sync = list_s.the_sync RepoRef.the_row repo_ref_s.the_sync

plan_stages_sync : IsSync (List.the_row PlanStage.the_row)
plan_stages_sync = list_s.the_sync PlanStage.the_row plan_stage_sync

pub plan_sync : IsSync Plan.the_row
plan_sync =
    declared_sync Plan.the_type (file_key_s.the_sync & maybe_file_key_sync & repo_refs_sync &
    plan_stages_sync & tt)

pub compiled_send : IsSend Compiled.the_row
compiled_send = declared_send Compiled.the_type (plan_send & sources_s.the_send & tt)

pub compiled_sync : IsSync Compiled.the_row
compiled_sync = declared_sync Compiled.the_type (plan_sync & sources_s.the_sync & tt)

shared_compiled_send : IsSend (Shared.the_row Compiled.the_row)
shared_compiled_send = shared_s.the_send Compiled.the_row compiled_send compiled_sync

pub queued_run_send : IsSend QueuedRun.the_row
queued_run_send =
    declared_send QueuedRun.the_type (u64_send & text_s.the_send & text_s.the_send &
    shared_compiled_send & tt)

shared_compiled_sync : IsSync (Shared.the_row Compiled.the_row)
shared_compiled_sync = shared_s.the_sync Compiled.the_row compiled_send compiled_sync

pub queued_run_sync : IsSync QueuedRun.the_row
queued_run_sync =
    declared_sync QueuedRun.the_type (u64_sync & text_s.the_sync & text_s.the_sync &
    shared_compiled_sync & tt)

shared_file_text_send : IsSend (Shared.the_row FileText.the_row)
shared_file_text_send = shared_s.the_send FileText.the_row file_text_s.the_send file_text_s.the_sync

shared_file_key_send : IsSend (Shared.the_row FileKey.the_row)
shared_file_key_send = shared_s.the_send FileKey.the_row file_key_s.the_send file_key_s.the_sync

shared_pipeline_setting_send : IsSend (Shared.the_row PipelineSetting.the_row)
shared_pipeline_setting_send =
    shared_s.the_send PipelineSetting.the_row pipeline_setting_s.the_send
    pipeline_setting_s.the_sync

shared_resource_setting_send : IsSend (Shared.the_row ResourceSetting.the_row)
shared_resource_setting_send =
    shared_s.the_send ResourceSetting.the_row resource_setting_s.the_send
    resource_setting_s.the_sync

shared_principal_setting_send : IsSend (Shared.the_row PrincipalSetting.the_row)
shared_principal_setting_send =
    shared_s.the_send PrincipalSetting.the_row principal_setting_s.the_send
    principal_setting_s.the_sync

shared_agent_setting_send : IsSend (Shared.the_row AgentSetting.the_row)
shared_agent_setting_send =
    shared_s.the_send AgentSetting.the_row agent_setting_s.the_send agent_setting_s.the_sync

shared_queued_run_send : IsSend (Shared.the_row QueuedRun.the_row)
shared_queued_run_send = shared_s.the_send QueuedRun.the_row queued_run_send queued_run_sync

shared_text_send : IsSend (Shared.the_row Text.the_row)
shared_text_send = shared_s.the_send Text.the_row text_s.the_send text_s.the_sync

shared_rule_send : IsSend (Shared.the_row Rule.the_row)
shared_rule_send = shared_s.the_send Rule.the_row rule_s.the_send rule_s.the_sync

maybe_shared_rule_send : IsSend (Option.the_row (Shared.the_row Rule.the_row))
maybe_shared_rule_send = option_s.the_send (Shared.the_row Rule.the_row) shared_rule_send

maybe_outcome_send : IsSend (Option.the_row Outcome.the_row)
maybe_outcome_send = option_s.the_send Outcome.the_row outcome_s.the_send

text_and_text_send : IsSend (Tuple (Text.the_row ∷ Text.the_row ∷ []))
text_and_text_send =
    declared_send (tuple_type (Text.the_row ∷ Text.the_row ∷ [])) (text_s.the_send & text_s.the_send
    & tt)

text_and_texts_send : IsSend (List.the_row (Tuple (Text.the_row ∷ Text.the_row ∷ [])))
text_and_texts_send = list_s.the_send (Tuple (Text.the_row ∷ Text.the_row ∷ [])) text_and_text_send

text_and_text_sync : IsSync (Tuple (Text.the_row ∷ Text.the_row ∷ []))
text_and_text_sync =
    declared_sync (tuple_type (Text.the_row ∷ Text.the_row ∷ [])) (text_s.the_sync & text_s.the_sync
    & tt)

text_and_texts_sync : IsSync (List.the_row (Tuple (Text.the_row ∷ Text.the_row ∷ [])))
text_and_texts_sync = list_s.the_sync (Tuple (Text.the_row ∷ Text.the_row ∷ [])) text_and_text_sync

shared_text_and_texts_send : IsSend (Shared.the_row (List.the_row (Tuple (Text.the_row ∷
    Text.the_row ∷ []))))
shared_text_and_texts_send =
    shared_s.the_send (List.the_row (Tuple (Text.the_row ∷ Text.the_row ∷ []))) text_and_texts_send
    text_and_texts_sync

pub event_send : IsSend Event.the_row
event_send =
    variants_send Event.enum ((shared_file_text_send & tt) & (shared_file_key_send & tt) &
    (shared_pipeline_setting_send & tt) & (shared_resource_setting_send & tt) &
    (shared_principal_setting_send & tt) & (shared_agent_setting_send & tt) &
    (shared_queued_run_send & tt) & (u64_send & u32_send & shared_text_send & bool_send & tt) &
    (u64_send & u32_send & tt) & (u64_send & u32_send & outcome_s.the_send & maybe_shared_rule_send
    & tt) & (u64_send & u32_send & u32_send & shared_text_send & tt) & (outcome_s.the_send &
    maybe_outcome_send & u32_send & u32_send & u64_send & maybe_shared_rule_send &
    shared_text_and_texts_send & tt) & (u64_send & tt) & tt)

shared_file_text_sync : IsSync (Shared.the_row FileText.the_row)
shared_file_text_sync = shared_s.the_sync FileText.the_row file_text_s.the_send file_text_s.the_sync

shared_file_key_sync : IsSync (Shared.the_row FileKey.the_row)
shared_file_key_sync = shared_s.the_sync FileKey.the_row file_key_s.the_send file_key_s.the_sync

shared_pipeline_setting_sync : IsSync (Shared.the_row PipelineSetting.the_row)
shared_pipeline_setting_sync =
    shared_s.the_sync PipelineSetting.the_row pipeline_setting_s.the_send
    pipeline_setting_s.the_sync

shared_resource_setting_sync : IsSync (Shared.the_row ResourceSetting.the_row)
shared_resource_setting_sync =
    shared_s.the_sync ResourceSetting.the_row resource_setting_s.the_send
    resource_setting_s.the_sync

shared_principal_setting_sync : IsSync (Shared.the_row PrincipalSetting.the_row)
shared_principal_setting_sync =
    shared_s.the_sync PrincipalSetting.the_row principal_setting_s.the_send
    principal_setting_s.the_sync

shared_agent_setting_sync : IsSync (Shared.the_row AgentSetting.the_row)
shared_agent_setting_sync =
    shared_s.the_sync AgentSetting.the_row agent_setting_s.the_send agent_setting_s.the_sync

shared_queued_run_sync : IsSync (Shared.the_row QueuedRun.the_row)
shared_queued_run_sync = shared_s.the_sync QueuedRun.the_row queued_run_send queued_run_sync

shared_text_sync : IsSync (Shared.the_row Text.the_row)
shared_text_sync = shared_s.the_sync Text.the_row text_s.the_send text_s.the_sync

shared_rule_sync : IsSync (Shared.the_row Rule.the_row)
shared_rule_sync = shared_s.the_sync Rule.the_row rule_s.the_send rule_s.the_sync

maybe_shared_rule_sync : IsSync (Option.the_row (Shared.the_row Rule.the_row))
maybe_shared_rule_sync = option_s.the_sync (Shared.the_row Rule.the_row) shared_rule_sync

maybe_outcome_sync : IsSync (Option.the_row Outcome.the_row)
maybe_outcome_sync = option_s.the_sync Outcome.the_row outcome_s.the_sync

shared_text_and_texts_sync : IsSync (Shared.the_row (List.the_row (Tuple (Text.the_row ∷
    Text.the_row ∷ []))))
shared_text_and_texts_sync =
    shared_s.the_sync (List.the_row (Tuple (Text.the_row ∷ Text.the_row ∷ []))) text_and_texts_send
    text_and_texts_sync

pub event_sync : IsSync Event.the_row
event_sync =
    variants_sync Event.enum ((shared_file_text_sync & tt) & (shared_file_key_sync & tt) &
    (shared_pipeline_setting_sync & tt) & (shared_resource_setting_sync & tt) &
    (shared_principal_setting_sync & tt) & (shared_agent_setting_sync & tt) &
    (shared_queued_run_sync & tt) & (u64_sync & u32_sync & shared_text_sync & bool_sync & tt) &
    (u64_sync & u32_sync & tt) & (u64_sync & u32_sync & outcome_s.the_sync & maybe_shared_rule_sync
    & tt) & (u64_sync & u32_sync & u32_sync & shared_text_sync & tt) & (outcome_s.the_sync &
    maybe_outcome_sync & u32_sync & u32_sync & u64_sync & maybe_shared_rule_sync &
    shared_text_and_texts_sync & tt) & (u64_sync & tt) & tt)

pub fact_send : IsSend Fact.the_row
fact_send = declared_send Fact.the_type (u64_send & event_send & tt)

pub fact_sync : IsSync Fact.the_row
fact_sync = declared_sync Fact.the_type (u64_sync & event_sync & tt)

facts_send : IsSend (List.the_row Fact.the_row)
facts_send = list_s.the_send Fact.the_row fact_send

pub entry_send : IsSend Entry.the_row
entry_send = declared_send Entry.the_type (u64_send & u64_send & call_s.the_send & facts_send & tt)

pub logged_send : IsSend Logged.the_row
logged_send = view_send _ _ _ _ _ (declared_send logged_inside.the_type (fact_send & tt))

pub journal_send : IsSend Journal.the_row
journal_send =
    view_send _ _ _ _ _ (declared_send journal_inside.the_type (log_s.the_send Logged.the_row _
    logged_send & built_in_s.the_send & numbers_s.the_send & usize_send & u64_send & u64_send & tt))

pub indexed_journal_send : IsSend IndexedJournal.the_row
indexed_journal_send =
    view_send _ _ _ _ _ (declared_send indexed_inside.the_type (journal_send & c.Vec-send u64
    u64_send & c.Vec-send u64 u64_send & tt))
