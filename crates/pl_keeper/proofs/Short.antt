-- The texts and lists of a record whose fields are values of their types have lengths of four
-- bytes.
use Rattle.std.proofs.Common.{ℕ, List, [], ◌∷◌, Option, Some, None}
use Rattle.std.specs.Prelude.{IfSome}
use Rattle.std.specs.List.{AllByRecursion}
use Rattle.pl_base.specs.declared.expanded.Argument.{Argument}
use Rattle.pl_base.specs.declared.place.FileKey.{FileKey}
use Rattle.pl_limits.specs.Below.pl_checks.specs.declared.check.Check.{Check}
use Rattle.pl_limits.specs.Below.pl_checks.specs.declared.check.Check.TheVariants.{RequiredTemplate, Branch, Approval}
use Rattle.pl_limits.specs.Below.pl_checks.specs.declared.check.Check.TheVariants.{Hours}
use Rattle.pl_rules.specs.declared.rule.Rule.{Rule}
use Rattle.pl_rules.specs.declared.rule.Rule.TheVariants.{TemplateArgument, BranchRefused}
use Rattle.pl_rules.specs.declared.rule.Rule.TheVariants.{ApprovalRejected, LockSuperseded}
use Rattle.pl_fields.specs.Checks.{IsArgument, IsCheck, IsFileKey, IsShortArgument, IsShortCheck}
use Rattle.pl_fields.specs.Checks.{IsShortFileKey}
use Rattle.pl_fields.specs.Fields.{IsShort, IsText, IsListOf}
use Rattle.pl_fields.specs.Rules.{IsKeptRule, IsShortRule}
use Rattle.pl_keeper.specs.Parts.{AreShort, AreTexts, IsJobEnd, IsKeptFile, IsShortJobEnd}
use Rattle.pl_keeper.specs.Parts.{IsShortKeptFile, IsShortStageEnd, IsShortTaking, IsStageEnd}
use Rattle.pl_keeper.specs.Parts.{IsTaking}
use Rattle.pl_keeper.specs.Rows.{IsKept, IsShortRecord}
use Rattle.pl_keeper.specs.declared.records.JobEnd.{JobEnd}
use Rattle.pl_keeper.specs.declared.records.KeptFile.{KeptFile}
use Rattle.pl_keeper.specs.declared.records.Record.{Record}
use Rattle.pl_keeper.specs.declared.records.Record.TheVariants.{Meta, File, Pipeline, Resource}
use Rattle.pl_keeper.specs.declared.records.Record.TheVariants.{Principal, Agent, Run, Stage, Job}
use Rattle.pl_keeper.specs.declared.records.Record.TheVariants.{Decision}
use Rattle.pl_keeper.specs.declared.records.StageEnd.{StageEnd}
use Rattle.pl_keeper.specs.declared.records.Taking.{Taking}

module _ {X : Type 0} (P Q : X → Type 0) (to : (x : X) → P x → Q x) where
  each : (xs : List X) → AllByRecursion P xs → AllByRecursion Q xs
  each [] h = h
  each (x ∷ xs) h = (to x h.0, each xs h.1)

  in_list : (xs : List X) → IsListOf P xs → IsListOf Q xs
  in_list xs h = record { short = h.short; each = each xs h.each }

  in_option : (o : Option X) → IfSome o P → IfSome o Q
  in_option None h = h
  in_option (Some x) h = to x h

is_short : (bytes : List ℕ) → IsText bytes → IsShort bytes
is_short bytes h = h.short

texts_short : (xs : List (List ℕ)) → IsListOf IsText xs → IsListOf IsShort xs
texts_short = in_list IsText IsShort is_short

pair_short : (p : List ℕ × List ℕ) → AreTexts p → AreShort p
pair_short p h = (h.0.short, h.1.short)

pairs_short : (xs : List (List ℕ × List ℕ)) → IsListOf AreTexts xs → IsListOf AreShort xs
pairs_short = in_list AreTexts AreShort pair_short

file_key_short : (key : FileKey) → IsFileKey key → IsShortFileKey key
file_key_short key h = (h.0.short, (h.1.0.short, h.1.1.short))

argument_short : (given : Argument) → IsArgument given → IsShortArgument given
argument_short given h = (h.0.short, h.1.short)

check_short : (told : Check) → IsCheck told → IsShortCheck told
check_short (RequiredTemplate told) h =
    (in_list IsFileKey IsShortFileKey file_key_short told.templates h.0, tt)
check_short (Branch told) h = texts_short told.patterns h
check_short (Approval told) h = (texts_short told.approvers h.0, (tt, (tt, tt)))
check_short (Hours told) h = (h.0, (h.1.0.is_text.short, (tt, (tt, tt))))

rule_short : (told : Rule) → IsKeptRule told → IsShortRule told
rule_short (TemplateArgument job step) h = h.0.short
rule_short (BranchRefused git_ref) h = h.short
rule_short (ApprovalRejected approver) h = h.short
rule_short (LockSuperseded run) h = tt
rule_short told h = h

ending_short : (rule : Option Rule) → IfSome rule IsKeptRule → IfSome rule IsShortRule
ending_short = in_option IsKeptRule IsShortRule rule_short

file_short : (file : KeptFile) → IsKeptFile file → IsShortKeptFile file
file_short file h = (file_key_short file.key h.0, h.1)

stage_end_short : (told : StageEnd) → IsStageEnd told → IsShortStageEnd told
stage_end_short told h = (tt, (tt, ending_short told.rule h.1.1))

taking_short : (told : Taking) → IsTaking told → IsShortTaking told
taking_short told h = (h.0.short, tt)

job_end_short : (told : JobEnd) → IsJobEnd told → IsShortJobEnd told
job_end_short told h =
    (tt, (tt, (ending_short told.rule h.1.1.0, (h.1.1.1.0, pairs_short told.outputs h.1.1.1.1))))

moment_short : (moment : Option ℕ) (P : ℕ → Type 0) → IfSome moment P →
    IfSome moment (λ _. Unit {0})
moment_short moment P = in_option P (λ _. Unit {0}) (λ _ _. tt) moment

pub kept_is_short : (kept : Record) → IsKept kept → IsShortRecord kept
kept_is_short (Meta kept) h = tt
kept_is_short (File kept) h = (file_key_short kept.key h.0, h.1)
kept_is_short (Pipeline kept) h = (h.0.short, (h.1.0.short, h.1.1.short))
kept_is_short (Resource kept) h = (
  (tt, h.0.1.short),
  (
    tt,
    (
      in_option (IsListOf IsText) (IsListOf IsShort) texts_short kept.pipelines h.1.1.0,
      in_list IsCheck IsShortCheck check_short kept.checks h.1.1.1,
    ),
  ),
)
kept_is_short (Principal kept) h = (h.0.short, (h.1.0, tt))
kept_is_short (Agent kept) h =
    (h.0.short, (h.1.0.short, pairs_short kept.capabilities h.1.1))
kept_is_short (Run kept) h = (
  h.1.0.short,
  (
    h.1.1.0.short,
    (
      tt,
      (
        file_key_short kept.root h.1.1.1.1.0,
        (
          in_list IsArgument IsShortArgument argument_short kept.arguments h.1.1.1.1.1.0,
          (
            in_list IsKeptFile IsShortKeptFile file_short kept.files h.1.1.1.1.1.1.0,
            moment_short kept.canceled _ h.1.1.1.1.1.1.1,
          ),
        ),
      ),
    ),
  ),
)
kept_is_short (Stage kept) h = (
  moment_short kept.started _ h.1.0,
  in_option IsStageEnd IsShortStageEnd stage_end_short kept.ended h.1.1,
)
kept_is_short (Job kept) h = (
  in_option IsTaking IsShortTaking taking_short kept.taken h.1.0,
  in_option IsJobEnd IsShortJobEnd job_end_short kept.ended h.1.1,
)
kept_is_short (Decision kept) h = h.0.1.1.short
