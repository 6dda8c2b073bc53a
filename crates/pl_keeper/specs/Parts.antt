-- What stands in rows beside plain fields, and how it is written.
use Rattle.std.specs.Prelude.{ℕ, ◌<◌, ◌^◌, List, [], ◌∷◌, ◌++◌, IfSome}
use Rattle.pl_base.specs.declared.row.Row.{Row}
use Rattle.pl_fields.specs.Checks.{file_key, IsFileKey, IsShortFileKey}
use Rattle.pl_fields.specs.Fields.{number, text, option, list, IsShort, IsText, IsListOf}
use Rattle.pl_fields.specs.Kinds.{outcome_number}
use Rattle.pl_fields.specs.Reading.{Is}
use Rattle.pl_fields.specs.Rules.{rule, IsKeptRule, IsShortRule}
use Rattle.pl_keeper.specs.declared.records.JobEnd.{JobEnd}
use Rattle.pl_keeper.specs.declared.records.KeptFile.{KeptFile}
use Rattle.pl_keeper.specs.declared.records.StageEnd.{StageEnd}
use Rattle.pl_keeper.specs.declared.records.Taking.{Taking}

-- a row's key is the first value, and its body the second
pub record ArePartsOf {K B : Type 0} (key : K → List ℕ) (key_fits : K → Type 0) (body : B → List ℕ)
    (body_fits : B → Type 0) (row : Row) (parts : K × B) : Type 0 where
  pub is_key : Is key key_fits row.key parts.0
  pub is_body : Is body body_fits row.body parts.1

-- two texts, the one behind the other
abbrev pub texts : List ℕ × List ℕ → List ℕ
texts pair = text pair.0 ++ text pair.1

abbrev pub AreShort : List ℕ × List ℕ → Type 0
AreShort pair = IsShort pair.0 × IsShort pair.1

abbrev pub AreTexts : List ℕ × List ℕ → Type 0
AreTexts pair = IsText pair.0 × IsText pair.1

-- a file: its key, its text
abbrev pub kept_file : KeptFile → List ℕ
kept_file file = file_key file.key ++ text file.text

abbrev pub IsShortKeptFile : KeptFile → Type 0
IsShortKeptFile file = IsShortFileKey file.key × IsShort file.text

abbrev pub IsKeptFile : KeptFile → Type 0
IsKeptFile file = IsFileKey file.key × IsShort file.text

-- a stage's end: its moment, the result, and the rule if one ended it
abbrev pub stage_end : StageEnd → List ℕ
stage_end told = number told.moment ++ ((outcome_number told.outcome ∷ []) ++ option rule told.rule)

abbrev pub IsShortStageEnd : StageEnd → Type 0
IsShortStageEnd told = Unit {0} × (Unit {0} × IfSome told.rule IsShortRule)

abbrev pub IsStageEnd : StageEnd → Type 0
IsStageEnd told = (told.moment < 2 ^ 64) × (Unit {0} × IfSome told.rule IsKeptRule)

-- a taking: the agent, its moment
abbrev pub taking : Taking → List ℕ
taking told = text told.agent ++ number told.moment

abbrev pub IsShortTaking : Taking → Type 0
IsShortTaking told = IsShort told.agent × Unit {0}

abbrev pub IsTaking : Taking → Type 0
IsTaking told = IsText told.agent × (told.moment < 2 ^ 64)

-- a job's end: its moment, the result, the rule if one ended it, the result that was reported if
-- one
-- was, and the outputs
abbrev pub job_end : JobEnd → List ℕ
job_end told = number told.moment ++ ((outcome_number told.outcome ∷ []) ++
    (option rule told.rule ++ (option (λ outcome. outcome_number outcome ∷ []) told.reported ++
    list texts told.outputs)))

abbrev pub IsShortJobEnd : JobEnd → Type 0
IsShortJobEnd told = Unit {0} × (Unit {0} × (IfSome told.rule IsShortRule ×
    (IfSome told.reported (λ _. Unit {0}) × IsListOf AreShort told.outputs)))

abbrev pub IsJobEnd : JobEnd → Type 0
IsJobEnd told = (told.moment < 2 ^ 64) × (Unit {0} × (IfSome told.rule IsKeptRule ×
    (IfSome told.reported (λ _. Unit {0}) × IsListOf AreTexts told.outputs)))
