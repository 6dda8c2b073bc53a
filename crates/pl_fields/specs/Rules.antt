-- The rules that end a stage or a job, by number, and how each is written.
use Rattle.std.specs.Prelude.{ℕ, ◌<◌, ◌^◌, List, [], ◌++◌}
use Rattle.pl_rules.specs.declared.rule.Rule.{Rule}
use Rattle.pl_rules.specs.declared.rule.Rule.TheVariants.{ConditionFalse, RunCanceled, JobTimeout}
use Rattle.pl_rules.specs.declared.rule.Rule.TheVariants.{TemplateRequired, TemplateArgument}
use Rattle.pl_rules.specs.declared.rule.Rule.TheVariants.{BranchRefused, ApprovalRejected}
use Rattle.pl_rules.specs.declared.rule.Rule.TheVariants.{ApprovalTimeout, HoursTimeout}
use Rattle.pl_rules.specs.declared.rule.Rule.TheVariants.{LockSuperseded}
use Rattle.pl_fields.specs.Fields.{number, text, decimal_text, IsShort, IsText}

-- the number of a rule that ends a stage or a job; no other rule has one
abbrev pub rule_number : Rule → ℕ
rule_number ConditionFalse = 1
rule_number RunCanceled = 2
rule_number JobTimeout = 3
rule_number TemplateRequired = 4
rule_number (TemplateArgument job step) = 5
rule_number (BranchRefused git_ref) = 6
rule_number (ApprovalRejected approver) = 7
rule_number ApprovalTimeout = 8
rule_number HoursTimeout = 9
rule_number (LockSuperseded run) = 10
rule_number _ = 0

-- what is told beside its name, as texts in order
abbrev pub rule_texts : Rule → List ℕ
rule_texts (TemplateArgument job step) = text job ++ decimal_text step
rule_texts (BranchRefused git_ref) = text git_ref
rule_texts (ApprovalRejected approver) = text approver
rule_texts (LockSuperseded run) = decimal_text run
rule_texts _ = []

-- a rule: its number, then these texts
abbrev pub rule : Rule → List ℕ
rule told = number (rule_number told) ++ rule_texts told

-- it has a number, and a text of it a length of four bytes
abbrev pub IsShortRule : Rule → Type 0
IsShortRule ConditionFalse = Unit {0}
IsShortRule RunCanceled = Unit {0}
IsShortRule JobTimeout = Unit {0}
IsShortRule TemplateRequired = Unit {0}
IsShortRule (TemplateArgument job step) = IsShort job
IsShortRule (BranchRefused git_ref) = IsShort git_ref
IsShortRule (ApprovalRejected approver) = IsShort approver
IsShortRule ApprovalTimeout = Unit {0}
IsShortRule HoursTimeout = Unit {0}
IsShortRule (LockSuperseded run) = Unit {0}
IsShortRule _ = ⊥

-- it has a number, and what it tells is text and numbers of its fields' types
abbrev pub IsKeptRule : Rule → Type 0
IsKeptRule ConditionFalse = Unit {0}
IsKeptRule RunCanceled = Unit {0}
IsKeptRule JobTimeout = Unit {0}
IsKeptRule TemplateRequired = Unit {0}
IsKeptRule (TemplateArgument job step) = IsText job × (step < 2 ^ 32)
IsKeptRule (BranchRefused git_ref) = IsText git_ref
IsKeptRule (ApprovalRejected approver) = IsText approver
IsKeptRule ApprovalTimeout = Unit {0}
IsKeptRule HoursTimeout = Unit {0}
IsKeptRule (LockSuperseded run) = run < 2 ^ 64
IsKeptRule _ = ⊥
