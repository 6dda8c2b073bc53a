-- The key and the body of each table as values, and what a table's reader misses.
use Rattle.std.proofs.Common.{◌≡◌, ℕ, ◌<◌, ◌^◌, Bool, List, [], ◌∷◌, ◌++◌, Option, Err, refl, ap}
use Rattle.std.proofs.Common.{arith}
use Rattle.std.specs.Prelude.{IfSome, IsErrOf, Result}
use Rattle.pl_base.specs.declared.digest.Digest.{Digest}
use Rattle.pl_base.specs.declared.expanded.Argument.{Argument}
use Rattle.pl_base.specs.declared.place.FileKey.{FileKey}
use Rattle.pl_base.specs.declared.resource.ResourceKey.{ResourceKey}
use Rattle.pl_base.specs.declared.row.Row.{Row}
use Rattle.pl_limits.specs.Below.pl_checks.specs.declared.check.Check.{Check}
use Rattle.pl_rules.specs.declared.role.Role.{Role}
use Rattle.pl_fields.specs.declared.fault.DecodeFault.{DecodeFault}
use Rattle.pl_fields.specs.declared.fault.DecodeFault.TheVariants.{Torn, Memory}
use Rattle.pl_fields.specs.declared.texts.Raw.{Raw}
use Rattle.pl_fields.specs.Checks.{argument, check, digest, file_key, resource_key, IsArgument}
use Rattle.pl_digests.specs.Digests.{IsDigest}
use Rattle.pl_fields.specs.Checks.{IsCheck, IsFileKey}
use Rattle.pl_fields.specs.Fields.{number, flag, text, option, list, IsShort, IsText, IsListOf}
use Rattle.pl_fields.specs.Kinds.{role_number}
use Rattle.pl_keeper.specs.Parts.{job_end, kept_file, stage_end, taking, texts, ArePartsOf}
use Rattle.pl_keeper.specs.Parts.{AreTexts, IsJobEnd, IsKeptFile, IsStageEnd, IsTaking}
use Rattle.pl_keeper.specs.Rows.{IsKeptAs, ReadsTable}
use Rattle.pl_keeper.specs.WaysOfParts.{IsNumber}
use Rattle.pl_keeper.specs.declared.records.JobEnd.{JobEnd}
use Rattle.pl_keeper.specs.declared.records.KeptFile.{KeptFile}
use Rattle.pl_keeper.specs.declared.records.Record.{Record}
use Rattle.pl_keeper.specs.declared.records.Record.TheVariants.{Meta, File, Pipeline, Resource}
use Rattle.pl_keeper.specs.declared.records.Record.TheVariants.{Principal, Agent, Run, Stage, Job}
use Rattle.pl_keeper.specs.declared.records.Record.TheVariants.{Decision}
use Rattle.pl_keeper.specs.declared.records.StageEnd.{StageEnd}
use Rattle.pl_keeper.specs.declared.records.Taking.{Taking}

abbrev pub IsAny : {X : Type 0} → X → Type 0
IsAny x = Unit {0}

abbrev pub IsSmall : ℕ → Type 0
IsSmall n = n < 2 ^ 32

abbrev pub nothing : Unit {0} → List ℕ
nothing x = []

abbrev pub meta_body : ℕ × (ℕ × (ℕ × ℕ)) → List ℕ
meta_body p = number p.0 ++ (number p.1.0 ++ (number p.1.1.0 ++ number p.1.1.1))

abbrev pub IsMetaBody : ℕ × (ℕ × (ℕ × ℕ)) → Type 0
IsMetaBody p = IsNumber p.0 × (IsNumber p.1.0 × (IsNumber p.1.1.0 × IsNumber p.1.1.1))

abbrev pub raw : Raw → List ℕ
raw told = text told.bytes

abbrev pub IsRaw : Raw → Type 0
IsRaw told = IsShort told.bytes

abbrev pub IsResourceKey : ResourceKey → Type 0
IsResourceKey key = Unit {0} × IsText key.name

abbrev pub resource_body : Bool × (Option (List (List ℕ)) × List Check) → List ℕ
resource_body p = flag p.0 ++ (option (list text) p.1.0 ++ list check p.1.1)

abbrev pub IsResourceBody : Bool × (Option (List (List ℕ)) × List Check) → Type 0
IsResourceBody p = Unit {0} × (IfSome p.1.0 (IsListOf IsText) × IsListOf IsCheck p.1.1)

abbrev pub role_byte : Role → List ℕ
role_byte role = role_number role ∷ []

abbrev pub principal_body : List Role × Digest → List ℕ
principal_body p = list role_byte p.0 ++ digest p.1

abbrev pub IsPrincipalBody : List Role × Digest → Type 0
IsPrincipalBody p = IsListOf (λ _. Unit {0}) p.0 × IsDigest p.1

abbrev pub agent_body : List ℕ × List (List ℕ × List ℕ) → List ℕ
agent_body p = text p.0 ++ list texts p.1

abbrev pub IsAgentBody : List ℕ × List (List ℕ × List ℕ) → Type 0
IsAgentBody p = IsText p.0 × IsListOf AreTexts p.1

abbrev pub Sources : Type 0
Sources = FileKey × (List Argument × (List KeptFile × Option ℕ))

abbrev pub run_body : List ℕ × (List ℕ × (ℕ × Sources)) → List ℕ
run_body p = text p.0 ++ (text p.1.0 ++
    (number p.1.1.0 ++ (file_key p.1.1.1.0 ++ (list argument p.1.1.1.1.0 ++
    (list kept_file p.1.1.1.1.1.0 ++ option number p.1.1.1.1.1.1)))))

abbrev pub IsRunBody : List ℕ × (List ℕ × (ℕ × Sources)) → Type 0
IsRunBody p = IsText p.0 × (IsText p.1.0 ×
    (IsNumber p.1.1.0 × (IsFileKey p.1.1.1.0 × (IsListOf IsArgument p.1.1.1.1.0 ×
    (IsListOf IsKeptFile p.1.1.1.1.1.0 × IfSome p.1.1.1.1.1.1 IsNumber)))))

abbrev pub stage_key : ℕ × ℕ → List ℕ
stage_key p = number p.0 ++ number p.1

abbrev pub IsStageKey : ℕ × ℕ → Type 0
IsStageKey p = IsNumber p.0 × IsSmall p.1

abbrev pub stage_body : Option ℕ × Option StageEnd → List ℕ
stage_body p = option number p.0 ++ option stage_end p.1

abbrev pub IsStageBody : Option ℕ × Option StageEnd → Type 0
IsStageBody p = IfSome p.0 IsNumber × IfSome p.1 IsStageEnd

abbrev pub job_key : ℕ × (ℕ × ℕ) → List ℕ
job_key p = number p.0 ++ (number p.1.0 ++ number p.1.1)

abbrev pub IsJobKey : ℕ × (ℕ × ℕ) → Type 0
IsJobKey p = IsNumber p.0 × (IsSmall p.1.0 × IsSmall p.1.1)

abbrev pub job_body : Option Taking × Option JobEnd → List ℕ
job_body p = option taking p.0 ++ option job_end p.1

abbrev pub IsJobBody : Option Taking × Option JobEnd → Type 0
IsJobBody p = IfSome p.0 IsTaking × IfSome p.1 IsJobEnd

abbrev pub decision_key : ℕ × (ℕ × List ℕ) → List ℕ
decision_key p = number p.0 ++ (number p.1.0 ++ text p.1.1)

abbrev pub IsDecisionKey : ℕ × (ℕ × List ℕ) → Type 0
IsDecisionKey p = IsNumber p.0 × (IsSmall p.1.0 × IsText p.1.1)

abbrev pub decision_body : Bool × ℕ → List ℕ
decision_body p = flag p.0 ++ number p.1

abbrev pub IsDecisionBody : Bool × ℕ → Type 0
IsDecisionBody p = Unit {0} × IsNumber p.1

-- a reader of parts that misses them has missed every record of the table
module _ {K B : Type 0} (key : K → List ℕ) (key_fits : K → Type 0) (body : B → List ℕ)
    (body_fits : B → Type 0) (n : ℕ) (row : Row)
    (split : (kept : Record) → IsKeptAs n row kept → (parts : K × B) ×
    ArePartsOf key key_fits body body_fits row parts) where
  pub misses : (fault : DecodeFault) →
      ((let read : Result (K × B) DecodeFault = Err fault in IsErrOf read Torn)
      → (parts : K × B) → ¬ ArePartsOf key key_fits body body_fits row parts) →
      ReadsTable n row (Err fault)
  misses Torn torn = λ kept is. let parts = split kept is in torn refl parts.0 parts.1
  misses Memory torn = tt

pub meta_parts : (row : Row) (kept : Record) → IsKeptAs 0 row kept →
    (parts : (Unit {0}) × (ℕ × (ℕ × (ℕ × ℕ)))) × ArePartsOf nothing IsAny meta_body IsMetaBody row
    parts
meta_parts row (Meta told) is = (
  (tt, (told.moment, (told.run, (told.version, told.change)))),
  record {
    is_key = record { does_fit = tt; whole = is.same_key };
    is_body = record { does_fit = is.is_kept; whole = is.same_body };
  },
)
meta_parts row (File told) is = let of : ℕ = 0 in let e : 1 ≡ of = is.of_table in
    absurd (omega arith)
meta_parts row (Pipeline told) is = let of : ℕ = 0 in let e : 2 ≡ of = is.of_table in
    absurd (omega arith)
meta_parts row (Resource told) is = let of : ℕ = 0 in let e : 3 ≡ of = is.of_table in
    absurd (omega arith)
meta_parts row (Principal told) is = let of : ℕ = 0 in let e : 4 ≡ of = is.of_table in
    absurd (omega arith)
meta_parts row (Agent told) is = let of : ℕ = 0 in let e : 5 ≡ of = is.of_table in
    absurd (omega arith)
meta_parts row (Run told) is = let of : ℕ = 0 in let e : 6 ≡ of = is.of_table in
    absurd (omega arith)
meta_parts row (Stage told) is = let of : ℕ = 0 in let e : 7 ≡ of = is.of_table in
    absurd (omega arith)
meta_parts row (Job told) is = let of : ℕ = 0 in let e : 8 ≡ of = is.of_table in
    absurd (omega arith)
meta_parts row (Decision told) is = let of : ℕ = 0 in let e : 9 ≡ of = is.of_table in
    absurd (omega arith)

pub file_parts : (row : Row) (kept : Record) → IsKeptAs 1 row kept → (parts : (FileKey) × (Raw)) ×
    ArePartsOf file_key IsFileKey raw IsRaw row parts
file_parts row (File told) is = (
  (told.key, (record { bytes = told.text })),
  record {
    is_key = record { does_fit = is.is_kept.0; whole = is.same_key };
    is_body = record { does_fit = is.is_kept.1; whole = is.same_body };
  },
)
file_parts row (Meta told) is = let of : ℕ = 1 in let e : 0 ≡ of = is.of_table in
    absurd (omega arith)
file_parts row (Pipeline told) is = let of : ℕ = 1 in let e : 2 ≡ of = is.of_table in
    absurd (omega arith)
file_parts row (Resource told) is = let of : ℕ = 1 in let e : 3 ≡ of = is.of_table in
    absurd (omega arith)
file_parts row (Principal told) is = let of : ℕ = 1 in let e : 4 ≡ of = is.of_table in
    absurd (omega arith)
file_parts row (Agent told) is = let of : ℕ = 1 in let e : 5 ≡ of = is.of_table in
    absurd (omega arith)
file_parts row (Run told) is = let of : ℕ = 1 in let e : 6 ≡ of = is.of_table in
    absurd (omega arith)
file_parts row (Stage told) is = let of : ℕ = 1 in let e : 7 ≡ of = is.of_table in
    absurd (omega arith)
file_parts row (Job told) is = let of : ℕ = 1 in let e : 8 ≡ of = is.of_table in
    absurd (omega arith)
file_parts row (Decision told) is = let of : ℕ = 1 in let e : 9 ≡ of = is.of_table in
    absurd (omega arith)

pub pipeline_parts : (row : Row) (kept : Record) → IsKeptAs 2 row kept →
    (parts : (List ℕ) × (List ℕ × List ℕ)) × ArePartsOf text IsText texts AreTexts row parts
pipeline_parts row (Pipeline told) is = (
  (told.name, (told.repo, told.path)),
  record {
    is_key = record { does_fit = is.is_kept.0; whole = is.same_key };
    is_body = record { does_fit = is.is_kept.1; whole = is.same_body };
  },
)
pipeline_parts row (Meta told) is = let of : ℕ = 2 in let e : 0 ≡ of = is.of_table in
    absurd (omega arith)
pipeline_parts row (File told) is = let of : ℕ = 2 in let e : 1 ≡ of = is.of_table in
    absurd (omega arith)
pipeline_parts row (Resource told) is = let of : ℕ = 2 in let e : 3 ≡ of = is.of_table in
    absurd (omega arith)
pipeline_parts row (Principal told) is = let of : ℕ = 2 in let e : 4 ≡ of = is.of_table in
    absurd (omega arith)
pipeline_parts row (Agent told) is = let of : ℕ = 2 in let e : 5 ≡ of = is.of_table in
    absurd (omega arith)
pipeline_parts row (Run told) is = let of : ℕ = 2 in let e : 6 ≡ of = is.of_table in
    absurd (omega arith)
pipeline_parts row (Stage told) is = let of : ℕ = 2 in let e : 7 ≡ of = is.of_table in
    absurd (omega arith)
pipeline_parts row (Job told) is = let of : ℕ = 2 in let e : 8 ≡ of = is.of_table in
    absurd (omega arith)
pipeline_parts row (Decision told) is = let of : ℕ = 2 in let e : 9 ≡ of = is.of_table in
    absurd (omega arith)

pub resource_parts : (row : Row) (kept : Record) → IsKeptAs 3 row kept →
    (parts : (ResourceKey) × (Bool × (Option (List (List ℕ)) × List Check))) ×
    ArePartsOf resource_key IsResourceKey resource_body IsResourceBody row parts
resource_parts row (Resource told) is = (
  (told.key, (told.exclusive, (told.pipelines, told.checks))),
  record {
    is_key = record { does_fit = is.is_kept.0; whole = is.same_key };
    is_body = record { does_fit = is.is_kept.1; whole = is.same_body };
  },
)
resource_parts row (Meta told) is = let of : ℕ = 3 in let e : 0 ≡ of = is.of_table in
    absurd (omega arith)
resource_parts row (File told) is = let of : ℕ = 3 in let e : 1 ≡ of = is.of_table in
    absurd (omega arith)
resource_parts row (Pipeline told) is = let of : ℕ = 3 in let e : 2 ≡ of = is.of_table in
    absurd (omega arith)
resource_parts row (Principal told) is = let of : ℕ = 3 in let e : 4 ≡ of = is.of_table in
    absurd (omega arith)
resource_parts row (Agent told) is = let of : ℕ = 3 in let e : 5 ≡ of = is.of_table in
    absurd (omega arith)
resource_parts row (Run told) is = let of : ℕ = 3 in let e : 6 ≡ of = is.of_table in
    absurd (omega arith)
resource_parts row (Stage told) is = let of : ℕ = 3 in let e : 7 ≡ of = is.of_table in
    absurd (omega arith)
resource_parts row (Job told) is = let of : ℕ = 3 in let e : 8 ≡ of = is.of_table in
    absurd (omega arith)
resource_parts row (Decision told) is = let of : ℕ = 3 in let e : 9 ≡ of = is.of_table in
    absurd (omega arith)

pub principal_parts : (row : Row) (kept : Record) → IsKeptAs 4 row kept →
    (parts : (List ℕ) × (List Role × Digest)) ×
    ArePartsOf text IsText principal_body IsPrincipalBody row parts
principal_parts row (Principal told) is = (
  (told.name, (told.roles, told.digest)),
  record {
    is_key = record { does_fit = is.is_kept.0; whole = is.same_key };
    is_body = record { does_fit = is.is_kept.1; whole = is.same_body };
  },
)
principal_parts row (Meta told) is = let of : ℕ = 4 in let e : 0 ≡ of = is.of_table in
    absurd (omega arith)
principal_parts row (File told) is = let of : ℕ = 4 in let e : 1 ≡ of = is.of_table in
    absurd (omega arith)
principal_parts row (Pipeline told) is = let of : ℕ = 4 in let e : 2 ≡ of = is.of_table in
    absurd (omega arith)
principal_parts row (Resource told) is = let of : ℕ = 4 in let e : 3 ≡ of = is.of_table in
    absurd (omega arith)
principal_parts row (Agent told) is = let of : ℕ = 4 in let e : 5 ≡ of = is.of_table in
    absurd (omega arith)
principal_parts row (Run told) is = let of : ℕ = 4 in let e : 6 ≡ of = is.of_table in
    absurd (omega arith)
principal_parts row (Stage told) is = let of : ℕ = 4 in let e : 7 ≡ of = is.of_table in
    absurd (omega arith)
principal_parts row (Job told) is = let of : ℕ = 4 in let e : 8 ≡ of = is.of_table in
    absurd (omega arith)
principal_parts row (Decision told) is = let of : ℕ = 4 in let e : 9 ≡ of = is.of_table in
    absurd (omega arith)

pub agent_parts : (row : Row) (kept : Record) → IsKeptAs 5 row kept →
    (parts : (List ℕ) × (List ℕ × List (List ℕ × List ℕ))) ×
    ArePartsOf text IsText agent_body IsAgentBody row parts
agent_parts row (Agent told) is = (
  (told.name, (told.pool, told.capabilities)),
  record {
    is_key = record { does_fit = is.is_kept.0; whole = is.same_key };
    is_body = record { does_fit = is.is_kept.1; whole = is.same_body };
  },
)
agent_parts row (Meta told) is = let of : ℕ = 5 in let e : 0 ≡ of = is.of_table in
    absurd (omega arith)
agent_parts row (File told) is = let of : ℕ = 5 in let e : 1 ≡ of = is.of_table in
    absurd (omega arith)
agent_parts row (Pipeline told) is = let of : ℕ = 5 in let e : 2 ≡ of = is.of_table in
    absurd (omega arith)
agent_parts row (Resource told) is = let of : ℕ = 5 in let e : 3 ≡ of = is.of_table in
    absurd (omega arith)
agent_parts row (Principal told) is = let of : ℕ = 5 in let e : 4 ≡ of = is.of_table in
    absurd (omega arith)
agent_parts row (Run told) is = let of : ℕ = 5 in let e : 6 ≡ of = is.of_table in
    absurd (omega arith)
agent_parts row (Stage told) is = let of : ℕ = 5 in let e : 7 ≡ of = is.of_table in
    absurd (omega arith)
agent_parts row (Job told) is = let of : ℕ = 5 in let e : 8 ≡ of = is.of_table in
    absurd (omega arith)
agent_parts row (Decision told) is = let of : ℕ = 5 in let e : 9 ≡ of = is.of_table in
    absurd (omega arith)

pub run_parts : (row : Row) (kept : Record) → IsKeptAs 6 row kept →
    (parts : (ℕ) × (List ℕ × (List ℕ ×
    (ℕ × (FileKey × (List Argument × (List KeptFile × Option ℕ))))))) ×
    ArePartsOf number IsNumber run_body IsRunBody row parts
run_parts row (Run told) is = (
  (
    told.run,
    (
      told.pipeline,
      (
        told.requester,
        (told.moment, (told.root, (told.arguments, (told.files, told.canceled)))),
      ),
    ),
  ),
  record {
    is_key = record { does_fit = is.is_kept.0; whole = is.same_key };
    is_body = record { does_fit = is.is_kept.1; whole = is.same_body };
  },
)
run_parts row (Meta told) is = let of : ℕ = 6 in let e : 0 ≡ of = is.of_table in
    absurd (omega arith)
run_parts row (File told) is = let of : ℕ = 6 in let e : 1 ≡ of = is.of_table in
    absurd (omega arith)
run_parts row (Pipeline told) is = let of : ℕ = 6 in let e : 2 ≡ of = is.of_table in
    absurd (omega arith)
run_parts row (Resource told) is = let of : ℕ = 6 in let e : 3 ≡ of = is.of_table in
    absurd (omega arith)
run_parts row (Principal told) is = let of : ℕ = 6 in let e : 4 ≡ of = is.of_table in
    absurd (omega arith)
run_parts row (Agent told) is = let of : ℕ = 6 in let e : 5 ≡ of = is.of_table in
    absurd (omega arith)
run_parts row (Stage told) is = let of : ℕ = 6 in let e : 7 ≡ of = is.of_table in
    absurd (omega arith)
run_parts row (Job told) is = let of : ℕ = 6 in let e : 8 ≡ of = is.of_table in absurd (omega arith)
run_parts row (Decision told) is = let of : ℕ = 6 in let e : 9 ≡ of = is.of_table in
    absurd (omega arith)

pub stage_parts : (row : Row) (kept : Record) → IsKeptAs 7 row kept →
    (parts : (ℕ × ℕ) × (Option ℕ × Option StageEnd)) ×
    ArePartsOf stage_key IsStageKey stage_body IsStageBody row parts
stage_parts row (Stage told) is = (
  ((told.run, told.position), (told.started, told.ended)),
  record {
    is_key = record { does_fit = is.is_kept.0; whole = is.same_key };
    is_body = record { does_fit = is.is_kept.1; whole = is.same_body };
  },
)
stage_parts row (Meta told) is = let of : ℕ = 7 in let e : 0 ≡ of = is.of_table in
    absurd (omega arith)
stage_parts row (File told) is = let of : ℕ = 7 in let e : 1 ≡ of = is.of_table in
    absurd (omega arith)
stage_parts row (Pipeline told) is = let of : ℕ = 7 in let e : 2 ≡ of = is.of_table in
    absurd (omega arith)
stage_parts row (Resource told) is = let of : ℕ = 7 in let e : 3 ≡ of = is.of_table in
    absurd (omega arith)
stage_parts row (Principal told) is = let of : ℕ = 7 in let e : 4 ≡ of = is.of_table in
    absurd (omega arith)
stage_parts row (Agent told) is = let of : ℕ = 7 in let e : 5 ≡ of = is.of_table in
    absurd (omega arith)
stage_parts row (Run told) is = let of : ℕ = 7 in let e : 6 ≡ of = is.of_table in
    absurd (omega arith)
stage_parts row (Job told) is = let of : ℕ = 7 in let e : 8 ≡ of = is.of_table in
    absurd (omega arith)
stage_parts row (Decision told) is = let of : ℕ = 7 in let e : 9 ≡ of = is.of_table in
    absurd (omega arith)

pub job_parts : (row : Row) (kept : Record) → IsKeptAs 8 row kept →
    (parts : (ℕ × (ℕ × ℕ)) × (Option Taking × Option JobEnd)) ×
    ArePartsOf job_key IsJobKey job_body IsJobBody row parts
job_parts row (Job told) is = (
  ((told.run, (told.stage, told.position)), (told.taken, told.ended)),
  record {
    is_key = record { does_fit = is.is_kept.0; whole = is.same_key };
    is_body = record { does_fit = is.is_kept.1; whole = is.same_body };
  },
)
job_parts row (Meta told) is = let of : ℕ = 8 in let e : 0 ≡ of = is.of_table in
    absurd (omega arith)
job_parts row (File told) is = let of : ℕ = 8 in let e : 1 ≡ of = is.of_table in
    absurd (omega arith)
job_parts row (Pipeline told) is = let of : ℕ = 8 in let e : 2 ≡ of = is.of_table in
    absurd (omega arith)
job_parts row (Resource told) is = let of : ℕ = 8 in let e : 3 ≡ of = is.of_table in
    absurd (omega arith)
job_parts row (Principal told) is = let of : ℕ = 8 in let e : 4 ≡ of = is.of_table in
    absurd (omega arith)
job_parts row (Agent told) is = let of : ℕ = 8 in let e : 5 ≡ of = is.of_table in
    absurd (omega arith)
job_parts row (Run told) is = let of : ℕ = 8 in let e : 6 ≡ of = is.of_table in absurd (omega arith)
job_parts row (Stage told) is = let of : ℕ = 8 in let e : 7 ≡ of = is.of_table in
    absurd (omega arith)
job_parts row (Decision told) is = let of : ℕ = 8 in let e : 9 ≡ of = is.of_table in
    absurd (omega arith)

pub decision_parts : (row : Row) (kept : Record) → IsKeptAs 9 row kept →
    (parts : (ℕ × (ℕ × List ℕ)) × (Bool × ℕ)) × ArePartsOf decision_key IsDecisionKey decision_body
    IsDecisionBody row parts
decision_parts row (Decision told) is = (
  ((told.run, (told.stage, told.approver)), (told.approve, told.moment)),
  record {
    is_key = record { does_fit = is.is_kept.0; whole = is.same_key };
    is_body = record { does_fit = is.is_kept.1; whole = is.same_body };
  },
)
decision_parts row (Meta told) is = let of : ℕ = 9 in let e : 0 ≡ of = is.of_table in
    absurd (omega arith)
decision_parts row (File told) is = let of : ℕ = 9 in let e : 1 ≡ of = is.of_table in
    absurd (omega arith)
decision_parts row (Pipeline told) is = let of : ℕ = 9 in let e : 2 ≡ of = is.of_table in
    absurd (omega arith)
decision_parts row (Resource told) is = let of : ℕ = 9 in let e : 3 ≡ of = is.of_table in
    absurd (omega arith)
decision_parts row (Principal told) is = let of : ℕ = 9 in let e : 4 ≡ of = is.of_table in
    absurd (omega arith)
decision_parts row (Agent told) is = let of : ℕ = 9 in let e : 5 ≡ of = is.of_table in
    absurd (omega arith)
decision_parts row (Run told) is = let of : ℕ = 9 in let e : 6 ≡ of = is.of_table in
    absurd (omega arith)
decision_parts row (Stage told) is = let of : ℕ = 9 in let e : 7 ≡ of = is.of_table in
    absurd (omega arith)
decision_parts row (Job told) is = let of : ℕ = 9 in let e : 8 ≡ of = is.of_table in
    absurd (omega arith)
