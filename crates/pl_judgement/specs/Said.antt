-- What several checks say of a stage at a moment, one after the other (Microsoft Learn, Azure
-- Pipelines, "Define approvals and checks": a stage starts where all checks of all resources that
-- it uses pass).
use Rattle.std.specs.Prelude.{◌≡◌, ℕ, Bool, true, false, List, [], ◌∷◌, Option, Some, None}
use Rattle.std.specs.List.{AllZip, list_all}
use Rattle.pl_checks.specs.declared.check.Check.{Check}
use Rattle.pl_checks.specs.declared.view.CheckView.{CheckView}
use Rattle.pl_checks.specs.declared.view.Verdict.{Verdict}
use Rattle.pl_checks.specs.declared.view.Verdict.TheVariants.{Pass, Wait, Fail}
use Rattle.pl_checks.specs.Verdicts.{IsVerdict}
use Rattle.pl_rules.specs.declared.rule.Rule.{Rule}
use Rattle.pl_judgement.specs.declared.judgement.Judgement.{Judgement}

-- each says its verdict
abbrev pub AreVerdicts : List Check → CheckView → ℕ → List Verdict → Type 0
AreVerdicts checks view moment verdicts =
    AllZip (λ check verdict. IsVerdict check view moment verdict) checks verdicts

-- the rule by which the first fails that fails
abbrev pub first_fail : List Verdict → Option Rule
first_fail [] = None
first_fail (Pass ∷ verdicts) = first_fail verdicts
first_fail (Wait rule ∷ verdicts) = first_fail verdicts
first_fail (Fail rule ∷ verdicts) = Some rule

-- the rule by which the first waits that waits
abbrev pub first_wait : List Verdict → Option Rule
first_wait [] = None
first_wait (Pass ∷ verdicts) = first_wait verdicts
first_wait (Wait rule ∷ verdicts) = Some rule
first_wait (Fail rule ∷ verdicts) = first_wait verdicts

abbrev pub passes : Verdict → Bool
passes Pass = true
passes (Wait rule) = false
passes (Fail rule) = false

abbrev pub all_pass : List Verdict → Bool
all_pass verdicts = list_all passes verdicts

-- what is kept of them: the first rule by which one fails, and the first by which one waits
pub record Sums (verdicts : List Verdict) (judgement : Judgement) : Type 0 where
  pub fail : judgement.fail ≡ first_fail verdicts
  pub wait : judgement.wait ≡ first_wait verdicts

-- what is kept of what these checks say
abbrev pub IsJudgement : List Check → CheckView → ℕ → Judgement → Type 0
IsJudgement checks view moment judgement =
    (verdicts : List Verdict) × AreVerdicts checks view moment verdicts × Sums verdicts judgement
