-- Settings: the latest one counts. An agent `admin`, a principal `admin` and a pool `Default` are
-- built in: the agent and the pool are there until they are set, and the principal stays.
use Rattle.std.specs.Prelude.{ℕ, Bool, false, ◌&&◌, List, [], ◌∷◌, Option, Some, None, codes}
use Rattle.std.specs.Prelude.{if◌then◌else◌}
use Rattle.std.specs.Option.{option_or, option_and_then, option_map_or}
use Rattle.std.specs.Ordering.{is_eq}
use Rattle.pl_base.specs.Files.{text_cmp}
use Rattle.pl_base.specs.declared.digest.Digest.{Digest}
use Rattle.pl_base.specs.declared.place.FileKey.{FileKey}
use Rattle.pl_base.specs.declared.resource.Kind.TheVariants as kind
use Rattle.pl_base.specs.declared.resource.ResourceKey.{ResourceKey}
use Rattle.pl_facts.specs.declared.fact.Event.{Event}
use Rattle.pl_facts.specs.declared.fact.Event.TheVariants as event
use Rattle.pl_facts.specs.declared.fact.Fact.{Fact}
use Rattle.pl_facts.specs.Below.pl_requests.specs.declared.settings.AgentSetting.{AgentSetting}
use Rattle.pl_facts.specs.Below.pl_requests.specs.declared.settings.FileText.{FileText}
use Rattle.pl_facts.specs.Below.pl_requests.specs.declared.settings.PipelineSetting.{PipelineSetting}
use Rattle.pl_facts.specs.Below.pl_requests.specs.declared.settings.PrincipalSetting.{PrincipalSetting}
use Rattle.pl_facts.specs.Below.pl_requests.specs.declared.settings.ResourceSetting.{ResourceSetting}
use Rattle.pl_rules.specs.declared.role.Role.{Role}
use Rattle.pl_rules.specs.declared.role.Role.TheVariants as role
use Rattle.pl_journal.specs.About.{is_also_about, latest_about}
use Rattle.pl_log.specs.Keys.{File, Pipeline, Resource, Principal, Agent, Token, resource_cmp}
use Rattle.pl_log.specs.Latest.{latest}

-- ---- what one fact tells

abbrev pub file_told : Event → Option FileText
file_told (event.FilePut file) = Some file
file_told _ = None

abbrev pub text_told : Event → Option (List ℕ)
text_told (event.FilePut file) = Some file.text
text_told _ = None

abbrev pub pipeline_told : Event → Option PipelineSetting
pipeline_told (event.PipelineSet told) = Some told
pipeline_told _ = None

abbrev pub resource_told : Event → Option ResourceSetting
resource_told (event.ResourceSet told) = Some told
resource_told _ = None

abbrev pub principal_told : Event → Option PrincipalSetting
principal_told (event.PrincipalSet told) = Some told
principal_told _ = None

abbrev pub agent_told : Event → Option AgentSetting
agent_told (event.AgentSet told) = Some told
agent_told _ = None

-- what the fact tells, where there is one that tells it
abbrev pub by : {X : Type 0} → (Event → Option X) → Option Fact → Option X
by told fact = option_and_then (λ one. told one.event) fact

-- ---- what is built in

abbrev pub admin : List ℕ
admin = codes "admin"

abbrev pub default : List ℕ
default = codes "Default"

abbrev pub all_roles : List Role
all_roles = role.Admin ∷ role.Author ∷ role.Approver ∷ role.Agent ∷ role.Reader ∷ []

abbrev pub admin_principal : Digest → PrincipalSetting
admin_principal digest = record { name = admin; roles = all_roles; digest = digest }

abbrev pub admin_agent : AgentSetting
admin_agent = record { name = admin; pool = default; capabilities = [] }

-- the pool Default: all pipelines may use it, no stage holds it alone, and nothing guards it
abbrev pub default_pool : ResourceSetting
default_pool = record {
  key = record { kind = kind.Pool; name = default };
  pipelines = None;
  exclusive = false;
  checks = [];
}

-- ---- look-ups

-- a file that was removed later isn't there; what was put, and its text
abbrev pub file_put : FileKey → List Fact → Option FileText
file_put key facts = by file_told (latest_about (File key) facts)

abbrev pub file : FileKey → List Fact → Option (List ℕ)
file key facts = by text_told (latest_about (File key) facts)

abbrev pub pipeline : List ℕ → List Fact → Option PipelineSetting
pipeline name facts = by pipeline_told (latest_about (Pipeline name) facts)

-- what was set, and what there is
abbrev pub resource_set : ResourceKey → List Fact → Option ResourceSetting
resource_set key facts = by resource_told (latest_about (Resource key) facts)

abbrev pub resource : ResourceKey → List Fact → Option ResourceSetting
resource key facts = option_or (resource_set key facts)
    (if is_eq (resource_cmp key default_pool.key) then Some default_pool else None)

abbrev pub agent_set : List ℕ → List Fact → Option AgentSetting
agent_set name facts = by agent_told (latest_about (Agent name) facts)

abbrev pub agent : List ℕ → List Fact → Option AgentSetting
agent name facts = option_or (agent_set name facts)
    (if is_eq (text_cmp name admin) then Some admin_agent else None)

abbrev pub principal_set : List ℕ → List Fact → Option PrincipalSetting
principal_set name facts = by principal_told (latest_about (Principal name) facts)

abbrev pub principal : Digest → List ℕ → List Fact → Option PrincipalSetting
principal digest name facts =
    if is_eq (text_cmp name admin) then Some (admin_principal digest) else principal_set name facts

-- whether the principal that the fact tells has this token still
abbrev pub has_token : List Fact → List ℕ → Event → Bool
has_token facts token (event.PrincipalSet told) = option_map_or
    (λ now. is_eq (text_cmp now.digest.bytes token)) (principal_set told.name facts) false
has_token facts token _ = false

-- the principal, other than admin, that was set with this token and has it still
abbrev pub token_set : List ℕ → List Fact → Option PrincipalSetting
token_set token facts = by principal_told
    (latest (λ fact. is_also_about (Token token) fact && has_token facts token fact.event) facts)

-- who calls with this token
abbrev pub principal_with : Digest → List ℕ → List Fact → Option PrincipalSetting
principal_with digest token facts = if is_eq (text_cmp token digest.bytes)
    then Some (admin_principal digest) else token_set token facts
