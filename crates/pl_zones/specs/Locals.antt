-- What clocks show: the day of the week and the minute of that day.
use Rattle.std.specs.Prelude.{◌≡◌, ℕ, ℤ, pos, ◌+ℤ◌, ◌/◌, List, unsigned_abs}
use Rattle.std.specs.Int.{int_div_euclid, int_rem_euclid}
use Rattle.jiff_core.specs.Calendar.{weekday_number}
use Rattle.pl_rules.specs.Days.{day_number}
use Rattle.pl_zones.specs.declared.local.Local.{Local}
use Rattle.pl_zones.specs.Zones.{IsOffsetAt}

-- what clocks show that are so many seconds ahead of UTC: the local second is the moment and these
-- seconds, a day has 86,400 of them, and the day's number since 1970-01-01 gives its weekday
pub record IsShown (moment : ℕ) (ahead : ℤ) (local : Local) : Type 0 where
  pub day : day_number local.day ≡ weekday_number (int_div_euclid (pos moment +ℤ ahead) (pos 86400))
  pub minute : local.minute ≡ unsigned_abs (int_rem_euclid (pos moment +ℤ ahead) (pos 86400)) / 60

-- what a zone's clocks show at a moment
abbrev pub IsLocal : List ℕ → ℕ → Local → Type 0
IsLocal text moment local = (ahead : ℤ) × IsOffsetAt text moment ahead × IsShown moment ahead local
