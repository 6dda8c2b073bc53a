-- The bodies of the routes that have one, a definition a route: an object with exactly these
-- fields.
use Rattle.std.specs.Prelude.{ℕ, Bool, List, [], ◌∷◌, codes, Option, Some, None, Result, Ok, Err}
use Rattle.std.specs.Prelude.{if◌then◌else◌}
use Rattle.serde_json.specs.Data.{Data}
use Rattle.serde_json.specs.Find.{as_str}
use Rattle.pl_base.specs.declared.resource.ResourceKey.{ResourceKey}
use Rattle.pl_reading.specs.Steps.{◌>>=◌}
use Rattle.pl_requests.specs.declared.request.Order.{Order}
use Rattle.pl_requests.specs.declared.request.Report.{Report}
use Rattle.pl_requests.specs.declared.settings.AgentSetting.{AgentSetting}
use Rattle.pl_requests.specs.declared.settings.PipelineSetting.{PipelineSetting}
use Rattle.pl_requests.specs.declared.settings.PrincipalSetting.{PrincipalSetting}
use Rattle.pl_requests.specs.declared.settings.ResourceSetting.{ResourceSetting}
use Rattle.pl_bodies.specs.declared.fault.BodyFault.{BodyFault}
use Rattle.pl_bodies.specs.declared.fault.BodyFault.TheVariants.{Bad}
use Rattle.pl_bodies.specs.Atoms.{digest_of, flag_of, text_of}
use Rattle.pl_bodies.specs.Checks.{check_of}
use Rattle.pl_bodies.specs.Fields.{Meant, argument, field, list_of, only, pair}
use Rattle.pl_bodies.specs.Fields.{texts_by_name}
use Rattle.pl_bodies.specs.Words.{is_word, outcome_of, role_of, verdict_in}

-- `PUT /pipelines/{name}`: `repo` and `path`
abbrev pub pipeline_by : List ℕ → Data → Result PipelineSetting BodyFault
pipeline_by name body = do
  _ ← only (codes "repo" ∷ codes "path" ∷ []) body
  repo ← field text_of (codes "repo") body
  path ← field text_of (codes "path") body
  Ok (record { name = name; repo = repo; path = path })

-- the pipelines that may use a resource: the word `all`, or a list of names
abbrev pub word_permits : List ℕ → Result (Option (List (List ℕ))) BodyFault
word_permits text = if is_word (codes "all") text then Ok None else Err Bad

abbrev pub permitted_by : Option (List ℕ) → Meant (Option (List (List ℕ)))
permitted_by (Some word) value = word_permits word
permitted_by None value = list_of text_of value >>= λ names. Ok (Some names)

abbrev pub permitted_of : Meant (Option (List (List ℕ)))
permitted_of value = permitted_by (as_str value) value

-- `PUT /resources/{kind}/{name}`: `pipelines`, `exclusive` and `checks`
abbrev pub resource_by : ResourceKey → Data → Result ResourceSetting BodyFault
resource_by key body = do
  _ ← only (codes "pipelines" ∷ codes "exclusive" ∷ codes "checks" ∷ []) body
  pipelines ← field permitted_of (codes "pipelines") body
  exclusive ← field flag_of (codes "exclusive") body
  checks ← field (list_of check_of) (codes "checks") body
  Ok (record {
    key = key;
    pipelines = pipelines;
    exclusive = exclusive;
    checks = checks;
  })

-- `PUT /principals/{name}`: `roles` and `tokenSha256`
abbrev pub principal_by : List ℕ → Data → Result PrincipalSetting BodyFault
principal_by name body = do
  _ ← only (codes "roles" ∷ codes "tokenSha256" ∷ []) body
  roles ← field (list_of role_of) (codes "roles") body
  digest ← field digest_of (codes "tokenSha256") body
  Ok (record { name = name; roles = roles; digest = digest })

-- `PUT /agents/{name}`: `pool` and `capabilities`
abbrev pub agent_by : List ℕ → Data → Result AgentSetting BodyFault
agent_by name body = do
  _ ← only (codes "pool" ∷ codes "capabilities" ∷ []) body
  pool ← field text_of (codes "pool") body
  capabilities ← field (texts_by_name pair) (codes "capabilities") body
  Ok (record { name = name; pool = pool; capabilities = capabilities })

-- `POST /runs`: `pipeline`, `ref` and `parameters`
abbrev pub order_in : Data → Result Order BodyFault
order_in body = do
  _ ← only (codes "pipeline" ∷ codes "ref" ∷ codes "parameters" ∷ []) body
  pipeline ← field text_of (codes "pipeline") body
  git_ref ← field text_of (codes "ref") body
  arguments ← field (texts_by_name argument) (codes "parameters") body
  Ok (record { pipeline = pipeline; git_ref = git_ref; arguments = arguments })

-- `POST /runs/{run}/stages/{stage}/decision`: `verdict`
abbrev pub decision_in : Data → Result Bool BodyFault
decision_in body = do
  _ ← only (codes "verdict" ∷ []) body
  word ← field text_of (codes "verdict") body
  approve ← verdict_in word
  Ok approve

-- `POST /runs/{run}/stages/{stage}/jobs/{job}/report`: `result` and `outputs`
abbrev pub report_in : Data → Result Report BodyFault
report_in body = do
  _ ← only (codes "result" ∷ codes "outputs" ∷ []) body
  outcome ← field outcome_of (codes "result") body
  outputs ← field (texts_by_name pair) (codes "outputs") body
  Ok (record { outcome = outcome; outputs = outputs })
