-- The required template (Microsoft Learn, Azure Pipelines, "Define approvals and checks", Required
-- template).
use Rattle.std.specs.Prelude.{◌≡◌, List, Some, All, Contains}
use Rattle.std.specs.Prelude.{◌⊎◌}
use Rattle.pl_base.specs.declared.place.FileKey.{FileKey}
use Rattle.pl_rules.specs.declared.rule.Rule.TheVariants as rules
use Rattle.pl_checks.specs.declared.check.Arguments.{Arguments}
use Rattle.pl_checks.specs.declared.check.Arguments.TheVariants.{Any, Values}
use Rattle.pl_checks.specs.declared.check.RequiredTemplate.{RequiredTemplate}
use Rattle.pl_checks.specs.declared.view.CheckView.{CheckView}
use Rattle.pl_checks.specs.declared.view.StepMark.{StepMark}
use Rattle.pl_checks.specs.declared.view.Verdict.{Verdict}
use Rattle.pl_checks.specs.declared.view.Verdict.TheVariants.{Pass, Wait, Fail}
use Rattle.pl_base.specs.Firsts.{IsFirst}
use Rattle.pl_checks.specs.Provenance.{IsLiteral}

-- the run extends this file, and the check lists it
pub record IsExtended (check : RequiredTemplate) (view : CheckView) (file : FileKey) : Type 0 where
  pub extends : view.extends ≡ Some file
  pub listed : Contains check.templates file

-- what is said of steps that have to be literal: Pass where all are, else the rule tells the first
-- that isn't
abbrev pub IsStepsVerdict : FileKey → List StepMark → Verdict → Type 0
IsStepsVerdict file steps Pass = All (IsLiteral file) steps
IsStepsVerdict file steps (Wait rule) = ⊥
IsStepsVerdict file steps (Fail rule) = (step : StepMark)
    × (rule ≡ rules.TemplateArgument step.job step.number)
    × IsFirst (λ s. ¬ IsLiteral file s) steps step

-- arguments of any kind pass; where they bring values alone, the steps decide
abbrev pub IsArgumentsVerdict : Arguments → FileKey → List StepMark → Verdict → Type 0
IsArgumentsVerdict Any file steps verdict = verdict ≡ Pass
IsArgumentsVerdict Values file steps verdict = IsStepsVerdict file steps verdict

-- Pass: the run extends a listed file, and where values alone may come in, every step is literal.
-- Wait: never. Fail: no listed file is extended; or values alone may come in, and a step isn't
-- literal.
abbrev pub IsTemplateVerdict : RequiredTemplate → CheckView → Verdict → Type 0
IsTemplateVerdict check view verdict =
    ((verdict ≡ Fail rules.TemplateRequired) × ((file : FileKey) → ¬ IsExtended check view file))
    ⊎ ((file : FileKey) × IsExtended check view file
    × IsArgumentsVerdict check.arguments file view.steps verdict)
