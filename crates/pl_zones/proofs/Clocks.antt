-- What clocks of fixed offsets and of POSIX rules show.
use Rattle.std.proofs.Common.{◌≡◌, ℕ, ℤ, List, Option, Some, None, ◌∙◌}
use Rattle.std.specs.Option.{MatchOption}
use Rattle.jiff_tz.specs.declared.timezone.TimeZone.{TimeZone}
use Rattle.jiff_tz.specs.declared.timezone.TimeZone.TheVariants.{UTC, Unknown, Fixed, Posix, Tzif}
use Rattle.jiff_tz.specs.Zone.{offset_at}
use Rattle.jiff.specs.Placed.{IsPosixZone}
use Rattle.pl_zones.specs.Fixed.{fixed_offset}
use Rattle.pl_zones.specs.Zones.{instant, IsClockOf, IsOffsetAt, IsOffsetByRule}

-- a clock of a rule has the rule's offset
by_rule : (text : List ℕ) (moment : ℕ) (clock : TimeZone) (seconds : ℤ) → IsPosixZone text clock →
    seconds ≡ offset_at clock (instant moment) → IsOffsetByRule text moment seconds
unfolding offset_at
by_rule text moment UTC seconds is same = absurd is
by_rule text moment Unknown seconds is same = absurd is
by_rule text moment (Fixed offset) seconds is same = absurd is
by_rule text moment (Posix zone) seconds is same = (zone, is, same)
by_rule text moment (Tzif table) seconds is same = absurd is

by_either : (text : List ℕ) (moment : ℕ) (clock : TimeZone) (seconds : ℤ) (fixed : Option ℤ) →
    MatchOption fixed (IsPosixZone text clock) (λ ahead. (at : ℤ) → offset_at clock at ≡ ahead) →
    seconds ≡ offset_at clock (instant moment) →
    MatchOption fixed (IsOffsetByRule text moment seconds) (λ ahead. seconds ≡ ahead)
by_either text moment clock seconds None is same = by_rule text moment clock seconds is same
by_either text moment clock seconds (Some ahead) is same = same ∙ is (instant moment)

-- the clock that is kept of a text has the text's offset
pub clock_offset : (text : List ℕ) (moment : ℕ) (clock : TimeZone) (seconds : ℤ) →
    IsClockOf text clock →
    seconds ≡ offset_at clock (instant moment) → IsOffsetAt text moment seconds
clock_offset text moment clock seconds is same = by_either text moment clock seconds
    (fixed_offset text) is same
