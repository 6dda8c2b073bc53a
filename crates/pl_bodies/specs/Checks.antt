-- Checks as JSON objects (Microsoft Learn, Azure Pipelines, "Define approvals and checks"): the
-- member `kind`, and the fields of that kind.
use Rattle.std.specs.Prelude.{ℕ, List, [], ◌∷◌, codes, Ok, Err, if◌then◌else◌}
use Rattle.pl_base.specs.declared.place.FileKey.{FileKey}
use Rattle.pl_checks.specs.declared.check.Arguments.TheVariants.{Any}
use Rattle.pl_checks.specs.declared.check.Check.{Check}
use Rattle.pl_checks.specs.declared.check.Check.TheVariants.{RequiredTemplate, Branch, Approval}
use Rattle.pl_checks.specs.declared.check.Check.TheVariants.{Hours}
use Rattle.pl_reading.specs.Steps.{◌>>=◌}
use Rattle.pl_bodies.specs.declared.fault.BodyFault.TheVariants.{Bad}
use Rattle.pl_bodies.specs.Atoms.{flag_of, number_of, text_of, zone_of}
use Rattle.pl_bodies.specs.Fields.{Meant, field, field_or, list_of, only}
use Rattle.pl_bodies.specs.Words.{arguments_of, day_of, is_word}

-- a file: exactly `repo`, `ref` and `path`
abbrev pub key_of : Meant FileKey
key_of value = do
  _ ← only (codes "repo" ∷ codes "ref" ∷ codes "path" ∷ []) value
  repo ← field text_of (codes "repo") value
  git_ref ← field text_of (codes "ref") value
  path ← field text_of (codes "path") value
  Ok (record { repo = repo; git_ref = git_ref; path = path })

-- a required template: `templates`, and `arguments`, which are any where it isn't there
abbrev pub template_in : Meant Check
template_in value = do
  _ ← only (codes "kind" ∷ codes "templates" ∷ codes "arguments" ∷ []) value
  templates ← field (list_of key_of) (codes "templates") value
  arguments ← field_or arguments_of Any (codes "arguments") value
  Ok (RequiredTemplate (record { templates = templates; arguments = arguments }))

-- branch control: `patterns`
abbrev pub branch_in : Meant Check
branch_in value = do
  _ ← only (codes "kind" ∷ codes "patterns" ∷ []) value
  patterns ← field (list_of text_of) (codes "patterns") value
  Ok (Branch (record { patterns = patterns }))

-- how many minutes a check waits where `timeoutMinutes` isn't there: 30 days
abbrev pub default_minutes : ℕ
default_minutes = 43200

abbrev pub approval_fields : List (List ℕ)
approval_fields =
    codes "kind" ∷ codes "approvers" ∷ codes "least" ∷ codes "requester" ∷ codes "timeoutMinutes"
    ∷ []

-- an approval: `approvers`, `least`, `requester`, and `timeoutMinutes`
abbrev pub approval_in : Meant Check
approval_in value = do
  _ ← only approval_fields value
  approvers ← field (list_of text_of) (codes "approvers") value
  least ← field number_of (codes "least") value
  requester ← field flag_of (codes "requester") value
  minutes ← field_or number_of default_minutes (codes "timeoutMinutes") value
  Ok (Approval (record {
    approvers = approvers;
    least = least;
    requester = requester;
    minutes = minutes;
  }))

abbrev pub hours_fields : List (List ℕ)
hours_fields =
    codes "kind" ∷ codes "days" ∷ codes "zone" ∷ codes "start" ∷ codes "end"
    ∷ codes "timeoutMinutes" ∷ []

-- business hours: `days`, `zone`, `start`, `end`, and `timeoutMinutes`
abbrev pub hours_in : Meant Check
hours_in value = do
  _ ← only hours_fields value
  days ← field (list_of day_of) (codes "days") value
  zone ← field zone_of (codes "zone") value
  start ← field number_of (codes "start") value
  end ← field number_of (codes "end") value
  minutes ← field_or number_of default_minutes (codes "timeoutMinutes") value
  Ok (Hours (record {
    days = days;
    zone = zone;
    start = start;
    end = end;
    minutes = minutes;
  }))

-- a check, by the word of its kind
abbrev pub check_in : List ℕ → Meant Check
check_in kind value =
    if is_word (codes "requiredTemplate") kind then template_in value
    else if is_word (codes "branch") kind then branch_in value
    else if is_word (codes "approval") kind then approval_in value
    else if is_word (codes "hours") kind then hours_in value
    else Err Bad

abbrev pub check_of : Meant Check
check_of value = field text_of (codes "kind") value >>= λ kind. check_in kind value
