-- What a zone's text says of its clocks. Texts of the first form are fixed offsets; any other text
-- is a rule of POSIX's TZ variable, as `jiff` reads it and says its offset at an instant.
use Rattle.std.specs.Prelude.{◌≡◌, ℕ, ℤ, pos, List, Some, IsSome, ◌⊎◌, MatchOption}
use Rattle.jiff_core.specs.Timestamp.{nanos_of_seconds}
use Rattle.jiff_tz.specs.PosixReader.{read_whole}
use Rattle.jiff_tz.specs.PosixText.{tz_view}
use Rattle.jiff_tz.specs.PosixRule as rule
use Rattle.jiff_tz.specs.Zone.{offset_at}
use Rattle.jiff_tz.specs.declared.posix.TimeZone.{TimeZone}
use Rattle.jiff_tz.specs.declared.timezone.TimeZone.{TimeZone as Clock}
use Rattle.jiff.specs.Placed.{IsPosixZone}
use Rattle.pl_zones.specs.Fixed.{fixed_offset}

-- the text names a zone: it is of the first form, or `jiff` reads a rule from it
abbrev pub IsZoneText : List ℕ → Type 0
IsZoneText text = IsSome (fixed_offset text) ⊎ IsSome (read_whole text)

-- a moment as `jiff`'s instant
abbrev pub instant : ℕ → ℤ
instant moment = nanos_of_seconds (pos moment)

-- the rule that `jiff` reads from a text puts clocks so many seconds ahead of UTC at a moment
abbrev pub IsOffsetByRule : List ℕ → ℕ → ℤ → Type 0
IsOffsetByRule text moment seconds = (zone : TimeZone)
    × (read_whole text ≡ Some (tz_view zone))
    × (seconds ≡ (rule.offset_at zone (instant moment)).seconds)

-- the clocks of a zone are so many seconds ahead of UTC at a moment
abbrev pub IsOffsetAt : List ℕ → ℕ → ℤ → Type 0
IsOffsetAt text moment seconds = MatchOption (fixed_offset text) (IsOffsetByRule text moment
    seconds) (λ fixed. seconds ≡ fixed)

-- what is kept of a text is its one offset, or the rule that `jiff` reads from it
abbrev pub IsClockOf : List ℕ → Clock → Type 0
IsClockOf text clock = MatchOption (fixed_offset text) (IsPosixZone text clock) (λ fixed.
    (instant : ℤ) → offset_at clock instant ≡ fixed)
