-- Branch control (Microsoft Learn, Azure Pipelines, "Define approvals and checks", Branch control).
use Rattle.std.specs.Prelude.{◌≡◌, All, Any}
use Rattle.pl_base.specs.declared.repo_ref.RepoRef.{RepoRef}
use Rattle.pl_rules.specs.declared.rule.Rule.TheVariants as rules
use Rattle.pl_checks.specs.declared.check.BranchControl.{BranchControl}
use Rattle.pl_checks.specs.declared.view.CheckView.{CheckView}
use Rattle.pl_checks.specs.declared.view.Verdict.{Verdict}
use Rattle.pl_checks.specs.declared.view.Verdict.TheVariants.{Pass, Wait, Fail}
use Rattle.pl_base.specs.Firsts.{IsFirst}
use Rattle.pl_checks.specs.Patterns.{Matches}

-- the ref matches one of the patterns
abbrev pub IsAllowed : BranchControl → RepoRef → Type 0
IsAllowed check linked = Any (λ pattern. Matches pattern linked.git_ref) check.patterns

-- Pass: every linked ref matches a pattern. Wait: never. Fail: one doesn't, and the rule tells the
-- first such.
abbrev pub IsBranchVerdict : BranchControl → CheckView → Verdict → Type 0
IsBranchVerdict check view Pass = All (IsAllowed check) view.linked
IsBranchVerdict check view (Wait rule) = ⊥
IsBranchVerdict check view (Fail rule) = (linked : RepoRef)
    × (rule ≡ rules.BranchRefused linked.git_ref)
    × IsFirst (λ l. ¬ IsAllowed check l) view.linked linked
