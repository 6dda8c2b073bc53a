-- Pipelines, resources, principals and agents that are set (Microsoft Learn, Azure Pipelines:
-- "Pipeline permissions", "Define approvals and checks", "Agents and pools"). What is reserved and
-- what is refused is this project's own.
use Rattle.std.specs.Prelude.{ℕ, nat_le, List, length, take, codes, Option, Some, None}
use Rattle.std.specs.Prelude.{if◌then◌else◌}
use Rattle.std.specs.Option.{option_and_then, option_map_or}
use Rattle.pl_answers.specs.Answers.{empty_object, refused, with_fact}
use Rattle.pl_answers.specs.declared.answer.Answer.{Answer}
use Rattle.pl_base.specs.Texts.{is}
use Rattle.pl_facts.specs.declared.fact.Event.TheVariants as event
use Rattle.pl_facts.specs.declared.fact.Fact.{Fact}
use Rattle.pl_journal.specs.Log.{Log}
use Rattle.pl_journal.specs.Settings.{admin, principal_with}
use Rattle.pl_requests.specs.declared.settings.AgentSetting.{AgentSetting}
use Rattle.pl_requests.specs.declared.settings.PipelineSetting.{PipelineSetting}
use Rattle.pl_requests.specs.declared.settings.PrincipalSetting.{PrincipalSetting}
use Rattle.pl_requests.specs.declared.settings.ResourceSetting.{ResourceSetting}
use Rattle.pl_rules.specs.declared.rule.Rule.{Rule}
use Rattle.pl_rules.specs.declared.rule.Rule.TheVariants as rules
use Rattle.pl_settings.specs.Running.{Stage, running_on}

-- ---- pipelines: the one of queued texts has no file

abbrev pub set_pipeline : PipelineSetting → Answer
set_pipeline told = if is told.name (codes "text") then refused 409 rules.PipelineReserved
    else with_fact empty_object (event.PipelineSet told)

-- ---- resources: what becomes exclusive isn't used by two stages that are running

abbrev pub busy_with : List Stage → Option Rule
busy_with running = if nat_le 2 (length running)
    then Some (rules.ResourceBusy (take 2 running)) else None

abbrev pub busy : List Fact → ResourceSetting → Option Rule
busy facts told = if told.exclusive then busy_with (running_on facts told.key) else None

abbrev pub set_resource : Log → ResourceSetting → Answer
set_resource log told = option_map_or (refused 409) (busy log.facts told)
    (with_fact empty_object (event.ResourceSet told))

-- ---- principals: a token is one principal's, and admin stays as it is built in

-- the name of another principal that has the token
abbrev pub other_owner : Log → PrincipalSetting → Option (List ℕ)
other_owner log told = option_and_then
    (λ owner. if is owner.name told.name then None else Some owner.name)
    (principal_with log.admin told.digest.bytes log.facts)

abbrev pub set_principal : Log → PrincipalSetting → Answer
set_principal log told = if is told.name admin then refused 409 rules.PrincipalReserved
    else option_map_or (λ name. refused 409 (rules.TokenTaken name)) (other_owner log told)
    (with_fact empty_object (event.PrincipalSet told))

-- ---- agents

abbrev pub set_agent : AgentSetting → Answer
set_agent told = with_fact empty_object (event.AgentSet told)
