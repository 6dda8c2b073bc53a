-- Keys of files and of resources, arguments, and checks, and how each is written.
use Rattle.std.specs.Prelude.{ℕ, ◌<◌, ◌^◌, List, [], ◌∷◌, ◌++◌}
use Rattle.pl_base.specs.declared.digest.Digest.{Digest}
use Rattle.pl_base.specs.declared.expanded.Argument.{Argument}
use Rattle.pl_base.specs.declared.place.FileKey.{FileKey}
use Rattle.pl_base.specs.declared.resource.ResourceKey.{ResourceKey}
use Rattle.pl_checks.specs.declared.check.Approval.{Approval}
use Rattle.pl_checks.specs.declared.check.BranchControl.{BranchControl}
use Rattle.pl_checks.specs.declared.check.BusinessHours.{BusinessHours}
use Rattle.pl_checks.specs.declared.check.Check.{Check}
use Rattle.pl_checks.specs.declared.check.Check.TheVariants.{RequiredTemplate, Branch}
use Rattle.pl_checks.specs.declared.check.Check.TheVariants.{Approval as Approvals, Hours}
use Rattle.pl_checks.specs.declared.check.RequiredTemplate.{RequiredTemplate as Templates}
use Rattle.pl_digests.specs.Digests.{hex_of}
use Rattle.pl_rules.specs.Days.{day_number}
use Rattle.pl_zones.specs.Zones.{IsZoneText}
use Rattle.pl_fields.specs.Fields.{number, flag, text, list, IsShort, IsText, IsListOf}
use Rattle.pl_fields.specs.Kinds.{kind_number, arguments_number}

-- a file's key: its repository, its ref, its path
abbrev pub file_key : FileKey → List ℕ
file_key key = text key.repo ++ (text key.git_ref ++ text key.path)

abbrev pub IsShortFileKey : FileKey → Type 0
IsShortFileKey key = IsShort key.repo × (IsShort key.git_ref × IsShort key.path)

abbrev pub IsFileKey : FileKey → Type 0
IsFileKey key = IsText key.repo × (IsText key.git_ref × IsText key.path)

-- a resource's key: its kind, its name
abbrev pub resource_key : ResourceKey → List ℕ
resource_key key = (kind_number key.kind ∷ []) ++ text key.name

-- an argument: its name, its text
abbrev pub argument : Argument → List ℕ
argument given = text given.name ++ text given.text

abbrev pub IsShortArgument : Argument → Type 0
IsShortArgument given = IsShort given.name × IsShort given.text

abbrev pub IsArgument : Argument → Type 0
IsArgument given = IsText given.name × IsText given.text

-- a digest: its 64 hexadecimal digits in lower case, as a text
abbrev pub digest : Digest → List ℕ
digest told = text (hex_of told)

-- a zone: its text, which names a zone
pub record IsZone (zone : List ℕ) : Type 0 where
  pub is_text : IsText zone
  pub names : IsZoneText zone

-- the fields of the four kinds of checks, in order
abbrev pub templates : Templates → List ℕ
templates check = list file_key check.templates ++ (arguments_number check.arguments ∷ [])

abbrev pub branch : BranchControl → List ℕ
branch check = list text check.patterns

abbrev pub approval : Approval → List ℕ
approval check = list text check.approvers ++ (number check.least ++ (flag check.requester ++
    number check.minutes))

abbrev pub hours : BusinessHours → List ℕ
hours check = list (λ day. day_number day ∷ []) check.days ++ (text check.zone ++
    (number check.start ++ (number check.«end» ++ number check.minutes)))

-- the byte of a check's kind
abbrev pub check_number : Check → ℕ
check_number (RequiredTemplate told) = 0
check_number (Branch told) = 1
check_number (Approvals told) = 2
check_number (Hours told) = 3

abbrev pub check_fields : Check → List ℕ
check_fields (RequiredTemplate told) = templates told
check_fields (Branch told) = branch told
check_fields (Approvals told) = approval told
check_fields (Hours told) = hours told

-- a check: the byte of its kind, then its fields
abbrev pub check : Check → List ℕ
check guard = check_number guard ∷ check_fields guard

-- its texts and lists have lengths of four bytes
abbrev pub IsShortCheck : Check → Type 0
IsShortCheck (RequiredTemplate told) = IsListOf IsShortFileKey told.templates × Unit {0}
IsShortCheck (Branch told) = IsListOf IsShort told.patterns
IsShortCheck (Approvals told) = IsListOf IsShort told.approvers × (Unit {0} × (Unit {0} × Unit {0}))
IsShortCheck (Hours told) = IsListOf (λ _. Unit {0}) told.days × (IsShort told.zone ×
    (Unit {0} × (Unit {0} × Unit {0})))

-- its texts are text, its zone is one, and its numbers are of their fields' types
abbrev pub IsCheck : Check → Type 0
IsCheck (RequiredTemplate told) = IsListOf IsFileKey told.templates × Unit {0}
IsCheck (Branch told) = IsListOf IsText told.patterns
IsCheck (Approvals told) = IsListOf IsText told.approvers × ((told.least < 2 ^ 32) × (Unit {0} ×
    (told.minutes < 2 ^ 32)))
IsCheck (Hours told) = IsListOf (λ _. Unit {0}) told.days × (IsZone told.zone ×
    ((told.start < 2 ^ 32) × ((told.«end» < 2 ^ 32) × (told.minutes < 2 ^ 32))))
