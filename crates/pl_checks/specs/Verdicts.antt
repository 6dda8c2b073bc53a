-- What a check says of a stage at a moment (Microsoft Learn, Azure Pipelines, "Define approvals and
-- checks").
use Rattle.std.specs.Prelude.{ℕ}
use Rattle.pl_checks.specs.declared.check.Check.{Check}
use Rattle.pl_checks.specs.declared.check.Check.TheVariants.{RequiredTemplate, Branch, Approval}
use Rattle.pl_checks.specs.declared.check.Check.TheVariants.{Hours}
use Rattle.pl_checks.specs.declared.view.CheckView.{CheckView}
use Rattle.pl_checks.specs.declared.view.Verdict.{Verdict}
use Rattle.pl_checks.specs.Approvals.{IsApprovalVerdict}
use Rattle.pl_checks.specs.Branches.{IsBranchVerdict}
use Rattle.pl_checks.specs.Hours.{IsHoursVerdict}
use Rattle.pl_checks.specs.Templates.{IsTemplateVerdict}

abbrev pub IsVerdict : Check → CheckView → ℕ → Verdict → Type 0
IsVerdict (RequiredTemplate check) view moment verdict = IsTemplateVerdict check view verdict
IsVerdict (Branch check) view moment verdict = IsBranchVerdict check view verdict
IsVerdict (Approval check) view moment verdict = IsApprovalVerdict check view moment verdict
IsVerdict (Hours check) view moment verdict = IsHoursVerdict check view moment verdict
