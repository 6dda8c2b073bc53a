-- Until when what checks say of a stage makes the same due.
use Rattle.std.specs.Prelude.{◌≡◌, ◌≤◌, ◌<◌, ℕ, min, List, All, Option, Some, None}
use Rattle.pl_checks.specs.declared.check.Check.{Check}
use Rattle.pl_checks.specs.declared.view.CheckView.{CheckView}
use Rattle.pl_checks.specs.declared.view.Verdict.{Verdict}
use Rattle.pl_checks.specs.declared.view.Verdict.TheVariants.{Pass, Wait, Fail}
use Rattle.pl_checks.specs.Verdicts.{IsVerdict}
use Rattle.pl_judgement.specs.Said.{AreVerdicts, all_pass, first_fail}

-- ---- moments that may be never

abbrev pub IsBefore : ℕ → Option ℕ → Type 0
IsBefore moment None = Unit {0}
IsBefore moment (Some until) = moment < until

abbrev pub sooner : Option ℕ → Option ℕ → Option ℕ
sooner None other = other
sooner (Some one) None = Some one
sooner (Some one) (Some other) = Some (min one other)

-- ---- one check

-- two verdicts that make the same due: both pass, both wait, or both fail by one rule
abbrev pub SameSaid : Verdict → Verdict → Type 0
SameSaid Pass Pass = Unit {0}
SameSaid (Wait rule) (Wait other) = Unit {0}
SameSaid (Fail rule) (Fail other) = rule ≡ other
SameSaid _ _ = ⊥

-- what a check says at one moment it says at another, as far as what is due goes
abbrev pub StillSays : Check → CheckView → ℕ → ℕ → Type 0
StillSays check view from to = (verdict : Verdict) → IsVerdict check view from verdict →
    (other : Verdict) × IsVerdict check view to other × SameSaid verdict other

pub record SaysSame (check : Check) (view : CheckView) (from later : ℕ) : Type 0 where
  pub ahead : StillSays check view from later
  pub back : StillSays check view later from

-- at each moment from one on until another it says the same
abbrev pub IsSteady : Check → CheckView → ℕ → Option ℕ → Type 0
IsSteady check view from until =
    (later : ℕ) → from ≤ later → IsBefore later until → SaysSame check view from later

-- ---- several checks

-- each says the same, whatever of a stage that was ready then it sees
abbrev pub AreSteady : List Check → ℕ → ℕ → Option ℕ → Type 0
AreSteady checks ready from until = (view : CheckView) → view.ready ≡ ready →
    All (λ check. IsSteady check view from until) checks

-- where they say this at one moment, the same rule fails first at the other, and all pass at both
-- or at neither
abbrev pub StillSay : List Check → CheckView → ℕ → ℕ → Type 0
StillSay checks view from to = (left : List Verdict) → AreVerdicts checks view from left →
    (right : List Verdict) × AreVerdicts checks view to right
    × (first_fail left ≡ first_fail right) × (all_pass left ≡ all_pass right)
