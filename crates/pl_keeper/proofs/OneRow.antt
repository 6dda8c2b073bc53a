-- A row is one record's at most.
use Rattle.std.proofs.Common.{◌≡◌, ℕ, ◌<◌, ◌^◌, Bool, List, [], ◌∷◌, ◌++◌, Option, refl, ap, arith}
use Rattle.std.specs.Prelude.{IfSome}
use Rattle.pl_base.specs.declared.row.Row.{Row}
use Rattle.pl_fields.specs.declared.texts.Raw.{Raw}
use Rattle.pl_fields.specs.Checks.{argument, check, digest, file_key, resource_key, IsArgument}
use Rattle.pl_digests.specs.Digests.{IsDigest}
use Rattle.pl_fields.specs.Checks.{IsCheck, IsFileKey}
use Rattle.pl_fields.specs.Fields.{number, flag, text, option, list, IsShort, IsText, IsListOf}
use Rattle.pl_fields.specs.Kinds.{role_number, roles}
use Rattle.pl_fields.specs.Reading.{IsOneWay}
use Rattle.pl_fields.specs.WaysOfChecks.{check_one_way}
use Rattle.pl_fields.specs.WaysOfCompounds.{list_one_way, option_one_way, pair_one_way}
use Rattle.pl_fields.specs.WaysOfFields.{flag_one_way, number_one_way, raw_one_way, small_one_way}
use Rattle.pl_fields.specs.WaysOfFields.{text_one_way}
use Rattle.pl_fields.specs.WaysOfKeys.{argument_one_way, digest_one_way, file_key_one_way}
use Rattle.pl_fields.specs.WaysOfKeys.{resource_key_one_way}
use Rattle.pl_fields.specs.WaysOfKinds.{numbered_one_way, role_back}
use Rattle.pl_keeper.specs.Parts.{job_end, kept_file, stage_end, taking, texts, AreTexts, IsJobEnd}
use Rattle.pl_keeper.specs.Parts.{IsKeptFile, IsStageEnd, IsTaking}
use Rattle.pl_keeper.specs.Rows.{row_of, IsKept}
use Rattle.pl_keeper.specs.WaysOfParts.{IsNumber, job_end_one_way, kept_file_one_way}
use Rattle.pl_keeper.specs.WaysOfParts.{stage_end_one_way, taking_one_way, texts_one_way}
use Rattle.pl_keeper.specs.declared.records.Record.{Record}
use Rattle.pl_keeper.specs.declared.records.Record.TheVariants.{Meta, File, Pipeline, Resource}
use Rattle.pl_keeper.specs.declared.records.Record.TheVariants.{Principal, Agent, Run, Stage, Job}
use Rattle.pl_keeper.specs.declared.records.Record.TheVariants.{Decision}
use Rattle.pl_keeper.proofs.Tables.{agent_body, decision_body, decision_key, job_body, job_key}
use Rattle.pl_keeper.proofs.Tables.{meta_body, principal_body, resource_body, role_byte, run_body}
use Rattle.pl_keeper.proofs.Tables.{stage_body, stage_key, IsAgentBody, IsDecisionBody}
use Rattle.pl_keeper.proofs.Tables.{IsDecisionKey, IsJobBody, IsJobKey, IsMetaBody, IsPrincipalBody}
use Rattle.pl_keeper.proofs.Tables.{IsResourceBody, IsRunBody, IsSmall, IsStageBody, IsStageKey}
use Rattle.pl_keeper.proofs.Tables.{Sources}

same_value : {X : Type 0} (spelled : X → List ℕ) (fits : X → Type 0) → IsOneWay spelled fits →
    (x y : X) → fits x → fits y → spelled x ≡ spelled y → x ≡ y
same_value spelled fits way x y a b e =
    (way x y [] [] a b (ap (λ (bytes : List ℕ). bytes ++ []) e)).0

number_then : {B : Type 0} (b : B → List ℕ) (fits : B → Type 0) → IsOneWay b fits →
    IsOneWay (λ (p : ℕ × B). number p.0 ++ b p.1) (λ p. IsNumber p.0 × fits p.1)
number_then b fits way = pair_one_way number IsNumber number_one_way b fits way

small_then : {B : Type 0} (b : B → List ℕ) (fits : B → Type 0) → IsOneWay b fits →
    IsOneWay (λ (p : ℕ × B). number p.0 ++ b p.1) (λ p. IsSmall p.0 × fits p.1)
small_then b fits way = pair_one_way number IsSmall small_one_way b fits way

text_then : {B : Type 0} (b : B → List ℕ) (fits : B → Type 0) → IsOneWay b fits →
    IsOneWay (λ (p : List ℕ × B). text p.0 ++ b p.1) (λ p. IsText p.0 × fits p.1)
text_then b fits way = pair_one_way text IsText text_one_way b fits way

flag_then : {B : Type 0} (b : B → List ℕ) (fits : B → Type 0) → IsOneWay b fits →
    IsOneWay (λ (p : Bool × B). flag p.0 ++ b p.1) (λ p. Unit {0} × fits p.1)
flag_then b fits way = pair_one_way flag (λ _. Unit {0}) flag_one_way b fits way

optional_number : IsOneWay (option number) (λ told. IfSome told IsNumber)
optional_number = option_one_way number IsNumber number_one_way

meta_way : IsOneWay meta_body IsMetaBody
meta_way = number_then _ _ (number_then _ _ (number_then number IsNumber number_one_way))

resource_way : IsOneWay resource_body IsResourceBody
resource_way = flag_then _ _ (pair_one_way (option (list text))
    (λ told. IfSome told (IsListOf IsText))
    (option_one_way (list text) (IsListOf IsText) (list_one_way text IsText text_one_way))
    (list check) (IsListOf IsCheck) (list_one_way check IsCheck check_one_way))

principal_way : IsOneWay principal_body IsPrincipalBody
principal_way = pair_one_way (list role_byte) (IsListOf (λ _. Unit {0}))
    (list_one_way role_byte (λ _. Unit {0}) (numbered_one_way role_number roles role_back))
    digest IsDigest digest_one_way

agent_way : IsOneWay agent_body IsAgentBody
agent_way = text_then (list texts) (IsListOf AreTexts) (list_one_way texts AreTexts texts_one_way)

sources_way : IsOneWay (λ (p : Sources). file_key p.0 ++
    (list argument p.1.0 ++ (list kept_file p.1.1.0 ++ option number p.1.1.1)))
    (λ p. IsFileKey p.0 × (IsListOf IsArgument p.1.0 ×
    (IsListOf IsKeptFile p.1.1.0 × IfSome p.1.1.1 IsNumber)))
sources_way = pair_one_way file_key IsFileKey file_key_one_way _ _
    (pair_one_way (list argument) (IsListOf IsArgument)
    (list_one_way argument IsArgument argument_one_way) _ _
    (pair_one_way (list kept_file) (IsListOf IsKeptFile)
    (list_one_way kept_file IsKeptFile kept_file_one_way)
    (option number) (λ told. IfSome told IsNumber) optional_number))

run_way : IsOneWay run_body IsRunBody
run_way = text_then _ _ (text_then _ _ (number_then _ _ sources_way))

stage_key_way : IsOneWay stage_key IsStageKey
stage_key_way = number_then number IsSmall small_one_way

stage_way : IsOneWay stage_body IsStageBody
stage_way = pair_one_way (option number) (λ told. IfSome told IsNumber) optional_number
    (option stage_end) (λ told. IfSome told IsStageEnd)
    (option_one_way stage_end IsStageEnd stage_end_one_way)

job_key_way : IsOneWay job_key IsJobKey
job_key_way = number_then _ _ (small_then number IsSmall small_one_way)

job_way : IsOneWay job_body IsJobBody
job_way = pair_one_way (option taking) (λ told. IfSome told IsTaking)
    (option_one_way taking IsTaking taking_one_way)
    (option job_end) (λ told. IfSome told IsJobEnd)
    (option_one_way job_end IsJobEnd job_end_one_way)

decision_key_way : IsOneWay decision_key IsDecisionKey
decision_key_way = number_then _ _ (small_then text IsText text_one_way)

decision_way : IsOneWay decision_body IsDecisionBody
decision_way = flag_then number IsNumber number_one_way

pub one_record : (left right : Record) → IsKept left → IsKept right → row_of left ≡ row_of right →
    left ≡ right
one_record (Meta x) (Meta y) a b e =
    let body = same_value meta_body IsMetaBody meta_way (x.moment, (x.run, (x.version, x.change)))
    (y.moment, (y.run, (y.version, y.change))) a b (ap (λ (row : Row). row.body) e) in
    λ i. Meta (record {
      moment = (body i).0;
      run = (body i).1.0;
      version = (body i).1.1.0;
      change =
          (body i).1.1.1;
    })
one_record (File x) (File y) a b e =
    let key = same_value file_key IsFileKey file_key_one_way x.key y.key a.0 b.0
    (ap (λ (row : Row). row.key) e) in
    let body = same_value (λ (raw : Raw). text raw.bytes) (λ raw. IsShort raw.bytes) raw_one_way
    (record { bytes = x.text }) (record { bytes = y.text }) a.1 b.1
    (ap (λ (row : Row). row.body) e) in
    λ i. File (record { key = (key i); text = (body i).bytes })
one_record (Pipeline x) (Pipeline y) a b e =
    let key = same_value text IsText text_one_way x.name y.name a.0 b.0
    (ap (λ (row : Row). row.key) e) in
    let body = same_value texts AreTexts texts_one_way (x.repo, x.path) (y.repo, y.path) a.1 b.1
    (ap (λ (row : Row). row.body) e) in
    λ i. Pipeline (record { name = (key i); repo = (body i).0; path = (body i).1 })
one_record (Resource x) (Resource y) a b e =
    let key = same_value resource_key (λ key. Unit {0} × IsText key.name) resource_key_one_way x.key
    y.key a.0 b.0 (ap (λ (row : Row). row.key) e) in
    let body = same_value resource_body IsResourceBody resource_way
    (x.exclusive, (x.pipelines, x.checks)) (y.exclusive, (y.pipelines, y.checks)) a.1 b.1
    (ap (λ (row : Row). row.body) e) in
    λ i. Resource (record {
      key = (key i);
      exclusive = (body i).0;
      pipelines = (body i).1.0;
      checks = (body i).1.1;
    })
one_record (Principal x) (Principal y) a b e =
    let key = same_value text IsText text_one_way x.name y.name a.0 b.0
    (ap (λ (row : Row). row.key) e) in
    let body = same_value principal_body IsPrincipalBody principal_way (x.roles, x.digest)
    (y.roles, y.digest) a.1 b.1 (ap (λ (row : Row). row.body) e) in
    λ i. Principal (record { name = (key i); roles = (body i).0; digest = (body i).1 })
one_record (Agent x) (Agent y) a b e =
    let key = same_value text IsText text_one_way x.name y.name a.0 b.0
    (ap (λ (row : Row). row.key) e) in
    let body = same_value agent_body IsAgentBody agent_way (x.pool, x.capabilities)
    (y.pool, y.capabilities) a.1 b.1 (ap (λ (row : Row). row.body) e) in
    λ i. Agent (record { name = (key i); pool = (body i).0; capabilities = (body i).1 })
one_record (Run x) (Run y) a b e =
    let key = same_value number IsNumber number_one_way x.run y.run a.0 b.0
    (ap (λ (row : Row). row.key) e) in
    let body = same_value run_body IsRunBody run_way
    (x.pipeline, (x.requester, (x.moment, (x.root, (x.arguments, (x.files, x.canceled))))))
    (y.pipeline, (y.requester, (y.moment, (y.root, (y.arguments, (y.files, y.canceled)))))) a.1
    b.1 (ap (λ (row : Row). row.body) e) in
    λ i. Run (record {
      run = (key i);
      pipeline = (body i).0;
      requester = (body i).1.0;
      moment =
          (body i).1.1.0;
      root = (body i).1.1.1.0;
      arguments = (body i).1.1.1.1.0;
      files =
          (body i).1.1.1.1.1.0;
      canceled = (body i).1.1.1.1.1.1;
    })
one_record (Stage x) (Stage y) a b e =
    let key = same_value stage_key IsStageKey stage_key_way (x.run, x.position) (y.run, y.position)
    a.0 b.0 (ap (λ (row : Row). row.key) e) in
    let body = same_value stage_body IsStageBody stage_way (x.started, x.ended) (y.started, y.ended)
    a.1 b.1 (ap (λ (row : Row). row.body) e) in
    λ i. Stage (record {
      run = (key i).0;
      position = (key i).1;
      started = (body i).0;
      ended =
          (body i).1;
    })
one_record (Job x) (Job y) a b e =
    let key = same_value job_key IsJobKey job_key_way (x.run, (x.stage, x.position))
    (y.run, (y.stage, y.position)) a.0 b.0 (ap (λ (row : Row). row.key) e) in
    let body = same_value job_body IsJobBody job_way (x.taken, x.ended) (y.taken, y.ended) a.1 b.1
    (ap (λ (row : Row). row.body) e) in
    λ i. Job (record {
      run = (key i).0;
      stage = (key i).1.0;
      position = (key i).1.1;
      taken =
          (body i).0;
      ended = (body i).1;
    })
one_record (Decision x) (Decision y) a b e =
    let key = same_value decision_key IsDecisionKey decision_key_way (x.run, (x.stage, x.approver))
    (y.run, (y.stage, y.approver)) a.0 b.0 (ap (λ (row : Row). row.key) e) in
    let body = same_value decision_body IsDecisionBody decision_way (x.approve, x.moment)
    (y.approve, y.moment) a.1 b.1 (ap (λ (row : Row). row.body) e) in
    λ i. Decision (record {
      run = (key i).0;
      stage = (key i).1.0;
      approver = (key i).1.1;
      approve =
          (body i).0;
      moment = (body i).1;
    })
one_record _ _ a b e = let same = ap (λ (row : Row). row.table) e in absurd (omega arith)
