-- Which row each record is: its table, its key, its body.
use Rattle.std.specs.Prelude.{◌≡◌, ◌≢◌, ℕ, ◌<◌, ◌^◌, List, [], ◌∷◌, ◌++◌, IfSome, Result, Ok, Err}
use Rattle.pl_base.specs.declared.row.Row.{Row}
use Rattle.pl_fields.specs.declared.fault.DecodeFault.{DecodeFault}
use Rattle.pl_fields.specs.declared.fault.DecodeFault.TheVariants.{Torn, Memory}
use Rattle.pl_fields.specs.Checks.{argument, check, digest, file_key, resource_key, IsArgument}
use Rattle.pl_digests.specs.Digests.{IsDigest}
use Rattle.pl_fields.specs.Checks.{IsCheck, IsFileKey, IsShortArgument, IsShortCheck}
use Rattle.pl_fields.specs.Checks.{IsShortFileKey}
use Rattle.pl_fields.specs.Fields.{number, flag, text, option, list, IsShort, IsText, IsListOf}
use Rattle.pl_fields.specs.Kinds.{role_number}
use Rattle.pl_keeper.specs.Parts.{job_end, kept_file, stage_end, taking, texts, AreShort, AreTexts}
use Rattle.pl_keeper.specs.Parts.{IsJobEnd, IsKeptFile, IsShortJobEnd, IsShortKeptFile}
use Rattle.pl_keeper.specs.Parts.{IsShortStageEnd, IsShortTaking, IsStageEnd, IsTaking}
use Rattle.pl_keeper.specs.declared.records.KeptRun.{KeptRun}
use Rattle.pl_keeper.specs.declared.records.Record.{Record}
use Rattle.pl_keeper.specs.declared.records.Record.TheVariants.{Meta, File, Pipeline, Resource}
use Rattle.pl_keeper.specs.declared.records.Record.TheVariants.{Principal, Agent, Run, Stage, Job}
use Rattle.pl_keeper.specs.declared.records.Record.TheVariants.{Decision}

abbrev pub table : Record → ℕ
table (Meta kept) = 0
table (File kept) = 1
table (Pipeline kept) = 2
table (Resource kept) = 3
table (Principal kept) = 4
table (Agent kept) = 5
table (Run kept) = 6
table (Stage kept) = 7
table (Job kept) = 8
table (Decision kept) = 9

abbrev pub key : Record → List ℕ
key (Meta kept) = []
key (File kept) = file_key kept.key
key (Pipeline kept) = text kept.name
key (Resource kept) = resource_key kept.key
key (Principal kept) = text kept.name
key (Agent kept) = text kept.name
key (Run kept) = number kept.run
key (Stage kept) = number kept.run ++ number kept.position
key (Job kept) = number kept.run ++ (number kept.stage ++ number kept.position)
key (Decision kept) = number kept.run ++ (number kept.stage ++ text kept.approver)

abbrev pub body : Record → List ℕ
body (Meta kept) = number kept.moment ++ (number kept.run ++ (number kept.version ++
    number kept.change))
body (File kept) = text kept.text
body (Pipeline kept) = text kept.repo ++ text kept.path
body (Resource kept) = flag kept.exclusive ++ (option (list text) kept.pipelines ++
    list check kept.checks)
body (Principal kept) = list (λ role. role_number role ∷ []) kept.roles ++ digest kept.digest
body (Agent kept) = text kept.pool ++ list texts kept.capabilities
body (Run kept) = text kept.pipeline ++ (text kept.requester ++ (number kept.moment ++
    (file_key kept.root ++ (list argument kept.arguments ++ (list kept_file kept.files ++
    option number kept.canceled)))))
body (Stage kept) = option number kept.started ++ option stage_end kept.ended
body (Job kept) = option taking kept.taken ++ option job_end kept.ended
body (Decision kept) = flag kept.approve ++ number kept.moment

-- the row of a record
abbrev pub row_of : Record → Row
row_of kept = record { table = table kept; key = key kept; body = body kept }

-- what can be written: each text and list has a length of four bytes, and each rule has a number
abbrev pub IsShortRun : KeptRun → Type 0
IsShortRun kept = IsShort kept.pipeline × (IsShort kept.requester × (Unit {0} ×
    (IsShortFileKey kept.root × (IsListOf IsShortArgument kept.arguments ×
    (IsListOf IsShortKeptFile kept.files × IfSome kept.canceled (λ _. Unit {0}))))))

abbrev pub IsShortRecord : Record → Type 0
IsShortRecord (Meta kept) = Unit {0}
IsShortRecord (File kept) = IsShortFileKey kept.key × IsShort kept.text
IsShortRecord (Pipeline kept) = IsShort kept.name × (IsShort kept.repo × IsShort kept.path)
IsShortRecord (Resource kept) = (Unit {0} × IsShort kept.key.name) × (Unit {0} ×
    (IfSome kept.pipelines (IsListOf IsShort) × IsListOf IsShortCheck kept.checks))
IsShortRecord (Principal kept) = IsShort kept.name ×
    (IsListOf (λ _. Unit {0}) kept.roles × Unit {0})
IsShortRecord (Agent kept) = IsShort kept.name × (IsShort kept.pool ×
    IsListOf AreShort kept.capabilities)
IsShortRecord (Run kept) = IsShortRun kept
IsShortRecord (Stage kept) = IfSome kept.started (λ _. Unit {0}) × IfSome kept.ended IsShortStageEnd
IsShortRecord (Job kept) = IfSome kept.taken IsShortTaking × IfSome kept.ended IsShortJobEnd
IsShortRecord (Decision kept) = IsShort kept.approver

-- a record whose fields are values of their types
abbrev pub IsKeptRun : KeptRun → Type 0
IsKeptRun kept = (kept.run < 2 ^ 64) × (IsText kept.pipeline × (IsText kept.requester ×
    ((kept.moment < 2 ^ 64) × (IsFileKey kept.root × (IsListOf IsArgument kept.arguments ×
    (IsListOf IsKeptFile kept.files × IfSome kept.canceled (λ moment. moment < 2 ^ 64)))))))

abbrev pub IsKept : Record → Type 0
IsKept (Meta kept) = (kept.moment < 2 ^ 64) × ((kept.run < 2 ^ 64) × ((kept.version < 2 ^ 64) ×
    (kept.change < 2 ^ 64)))
IsKept (File kept) = IsFileKey kept.key × IsShort kept.text
IsKept (Pipeline kept) = IsText kept.name × (IsText kept.repo × IsText kept.path)
IsKept (Resource kept) = (Unit {0} × IsText kept.key.name) × (Unit {0} ×
    (IfSome kept.pipelines (IsListOf IsText) × IsListOf IsCheck kept.checks))
IsKept (Principal kept) = IsText kept.name × (IsListOf (λ _. Unit {0}) kept.roles ×
    IsDigest kept.digest)
IsKept (Agent kept) = IsText kept.name × (IsText kept.pool × IsListOf AreTexts kept.capabilities)
IsKept (Run kept) = IsKeptRun kept
IsKept (Stage kept) = ((kept.run < 2 ^ 64) × (kept.position < 2 ^ 32)) ×
    (IfSome kept.started (λ moment. moment < 2 ^ 64) × IfSome kept.ended IsStageEnd)
IsKept (Job kept) = ((kept.run < 2 ^ 64) × ((kept.stage < 2 ^ 32) × (kept.position < 2 ^ 32))) ×
    (IfSome kept.taken IsTaking × IfSome kept.ended IsJobEnd)
IsKept (Decision kept) = ((kept.run < 2 ^ 64) × ((kept.stage < 2 ^ 32) × IsText kept.approver)) ×
    (Unit {0} × (kept.moment < 2 ^ 64))

-- what one table's reader gives of a row: the record of that table whose key and body these are, or
-- the fault that there is none
pub record IsKeptAs (number_of : ℕ) (row : Row) (kept : Record) : Type 0 where
  pub of_table : table kept ≡ number_of
  pub is_kept : IsKept kept
  pub same_key : row.key ≡ key kept
  pub same_body : row.body ≡ body kept

abbrev pub ReadsTable : ℕ → Row → Result Record DecodeFault → Type 0
ReadsTable number_of row (Ok kept) = IsKeptAs number_of row kept
ReadsTable number_of row (Err Torn) = (kept : Record) → ¬ IsKeptAs number_of row kept
ReadsTable number_of row (Err Memory) = Unit {0}
