-- Business hours (Microsoft Learn, Azure Pipelines, "Define approvals and checks", Business hours).
use Rattle.std.specs.Prelude.{◌≡◌, ℕ, ◌<◌, ◌≤◌, Contains}
use Rattle.pl_rules.specs.declared.rule.Rule.TheVariants as rules
use Rattle.pl_zones.specs.declared.local.Local.{Local}
use Rattle.pl_zones.specs.Locals.{IsLocal}
use Rattle.pl_checks.specs.declared.check.BusinessHours.{BusinessHours}
use Rattle.pl_checks.specs.declared.view.CheckView.{CheckView}
use Rattle.pl_checks.specs.declared.view.Verdict.{Verdict}
use Rattle.pl_checks.specs.declared.view.Verdict.TheVariants.{Pass, Wait, Fail}
use Rattle.pl_checks.specs.Approvals.{deadline}

-- the local day is listed, and its minute lies from the start to before the end
pub record IsOpen (check : BusinessHours) (local : Local) : Type 0 where
  pub day : Contains check.days local.day
  pub from : check.start ≤ local.minute
  pub until : local.minute < check.end

-- what is said where clocks show this. Pass: it is within the hours. Wait: it isn't, and there is
-- time; the rule tells the local day and minute. Fail: it isn't, and the time is over.
abbrev pub IsHoursVerdictAt : BusinessHours → CheckView → ℕ → Local → Verdict → Type 0
IsHoursVerdictAt check view moment local Pass = IsOpen check local
IsHoursVerdictAt check view moment local (Wait rule) = (rule
    ≡ rules.HoursClosed local.day local.minute) × ¬ IsOpen check local
    × (moment < deadline view.ready check.minutes)
IsHoursVerdictAt check view moment local (Fail rule) = (rule ≡ rules.HoursTimeout)
    × ¬ IsOpen check local × (deadline view.ready check.minutes ≤ moment)

-- the same of what the clocks of the check's zone show at the moment
abbrev pub IsHoursVerdict : BusinessHours → CheckView → ℕ → Verdict → Type 0
IsHoursVerdict check view moment verdict = (local : Local) × IsLocal check.zone moment local
    × IsHoursVerdictAt check view moment local verdict
