-- A zone's text and a moment leave no choice in what its clocks show.
use Rattle.std.proofs.Common.{◌≡◌, ℕ, ℤ, List, Option, Some, None, refl, sym, ap, ◌∙◌, subst}
use Rattle.std.proofs.Common.{nat_eq, Bool, true, false, option_map}
use Rattle.std.specs.Option.{MatchOption}
use Rattle.std.specs.Prelude.{if◌then◌else◌}
use Rattle.jiff_core.specs.declared.Offset.{Offset}
use Rattle.jiff_tz.specs.declared.posix.DayTime.{DayTime}
use Rattle.jiff_tz.specs.declared.posix.Dst.{Dst}
use Rattle.jiff_tz.specs.declared.posix.TimeZone.{TimeZone}
use Rattle.jiff_tz.specs.PosixRule.{match_some, rule_nanos, utc_window, in_window, dst_at_by}
use Rattle.jiff_tz.specs.PosixRule.{offset_at}
use Rattle.jiff_tz.specs.PosixText.{dst_view, tz_view}
use Rattle.jiff_tz.specs.Year.{year_of_nanos}
use Rattle.pl_rules.specs.declared.day.Day.{Day}
use Rattle.pl_rules.specs.declared.day.Day.TheVariants.{Mon, Tue, Wed, Thu, Fri, Sat, Sun}
use Rattle.pl_zones.specs.declared.local.Local.{Local}
use Rattle.pl_zones.specs.Fixed.{fixed_offset}
use Rattle.pl_zones.specs.Zones.{instant, IsOffsetAt, IsOffsetByRule}
use Rattle.pl_rules.specs.Days.{day_number}
use Rattle.pl_zones.specs.Locals.{IsLocal, IsShown}

-- a rule's moment depends on the day and the time that it shows
same_moment : (year : ℤ) (a b : DayTime) (s t : ℤ) → a.date ≡ b.date → a.time ≡ b.time → s ≡ t →
    rule_nanos year a s ≡ rule_nanos year b t
unfolding rule_nanos
same_moment year a b s t date time seconds = rw (date, time, seconds) refl

same_window : (year : ℤ) (a b : Dst) (s t : Offset) → dst_view a ≡ dst_view b →
    s.seconds ≡ t.seconds →
    utc_window a year s ≡ utc_window b year t
unfolding utc_window
same_window year a b s t same seconds =
    let starts = same_moment year a.rule.start b.rule.start s.seconds t.seconds (ap (λ d.
    d.start.0) same) (ap (λ d. d.start.1) same) seconds in
    let ends = same_moment year a.rule.end b.rule.end a.offset.seconds b.offset.seconds (ap (λ d.
    d.finish.0) same) (ap (λ d. d.finish.1) same) (ap (λ d. d.seconds) same) in
    rw (starts, ends, seconds) refl

-- the offset at an instant, by the two parts of a rule that it depends on
abbrev seconds_by : Offset → Option Dst → ℤ → ℤ
seconds_by std dst n = (match_some (dst_at_by std dst n) std (λ d. d.offset)).seconds

-- in one window the same of two offsets is in force
same_choice : (s t : Offset) (a b : Dst) (n : ℤ) (w v : ℤ × ℤ) → w ≡ v →
    a.offset.seconds ≡ b.offset.seconds → s.seconds ≡ t.seconds →
    (match_some (if in_window w n then Some a else None) s (λ d. d.offset)).seconds
    ≡ (match_some (if in_window v n then Some b else None) t (λ d. d.offset)).seconds
same_choice s t a b n w v windows offsets seconds =
    let chosen : (x : Bool) →
    (match_some (if x then Some a else None) s (λ d. d.offset)).seconds
    ≡ (match_some (if x then Some b else None) t (λ d. d.offset)).seconds =
    λ x. elim x as (λ v. (match_some (if v then Some a else None) s (λ d. d.offset)).seconds
    ≡ (match_some (if v then Some b else None) t (λ d. d.offset)).seconds)
    [ true ↦ offsets | false ↦ seconds ] in
    let P : ℤ × ℤ → Type 0 = λ u. (match_some (if in_window w n then Some a else None) s (λ d.
    d.offset)).seconds ≡ (match_some (if in_window u n then Some b else None) t (λ d.
    d.offset)).seconds in
    subst P windows (chosen (in_window w n))

same_seconds : (s t : Offset) (a b : Option Dst) (n : ℤ) →
    option_map dst_view a ≡ option_map dst_view b →
    s.seconds ≡ t.seconds → seconds_by s a n ≡ seconds_by t b n
same_seconds s t None None n same seconds = seconds
same_seconds s t None (Some b) n same seconds = cc
same_seconds s t (Some a) None n same seconds = cc
same_seconds s t (Some a) (Some b) n same seconds =
    let views : dst_view a ≡ dst_view b = cc in
    let windows = same_window (year_of_nanos n) a b s t views seconds in
    let offsets : a.offset.seconds ≡ b.offset.seconds = ap (λ d. d.seconds) views in
    same_choice s t a b n _ _ windows offsets seconds

same_rule : (a b : TimeZone) (n : ℤ) → tz_view a ≡ tz_view b →
    (offset_at a n).seconds ≡ (offset_at b n).seconds
same_rule a b n same =
    same_seconds a.std_offset b.std_offset a.dst b.dst n (ap (λ t. t.dst) same) (ap (λ t.
    t.std_seconds) same)

one_by : (text : List ℕ) (moment : ℕ) (a b : ℤ) (fixed : Option ℤ) →
    MatchOption fixed (IsOffsetByRule text moment a) (λ ahead. a ≡ ahead) →
    MatchOption fixed (IsOffsetByRule text moment b) (λ ahead. b ≡ ahead) → a ≡ b
one_by text moment a b None (x, reads, is) (y, also, same) =
    let views : tz_view x ≡ tz_view y = cc in
    is ∙ same_rule x y (instant moment) views ∙ sym same
one_by text moment a b (Some ahead) is same = is ∙ sym same

pub one_offset : (text : List ℕ) (moment : ℕ) (a b : ℤ) → IsOffsetAt text moment a →
    IsOffsetAt text moment b → a ≡ b
one_offset text moment a b is same = one_by text moment a b (fixed_offset text) is same

-- the day of a number
abbrev day_of : ℕ → Day
day_of n = if nat_eq n 0 then Mon else (if nat_eq n 1 then Tue else (if nat_eq n 2 then Wed else
    (if nat_eq n 3 then Thu else (if nat_eq n 4 then Fri else (if nat_eq n 5 then Sat else
    Sun)))))

again : (day : Day) → day_of (day_number day) ≡ day
again Mon = refl
again Tue = refl
again Wed = refl
again Thu = refl
again Fri = refl
again Sat = refl
again Sun = refl

one_shown : (moment : ℕ) (ahead : ℤ) (left right : Local) → IsShown moment ahead left →
    IsShown moment ahead right → left ≡ right
one_shown moment ahead left right l r =
    let days : left.day ≡ right.day = sym (again left.day) ∙ ap day_of (l.day ∙ sym r.day)
    ∙ again right.day in
    let minutes : left.minute ≡ right.minute = l.minute ∙ sym r.minute in
    ap (λ (p : Day × ℕ). record { day = p.0; minute = p.1 }) (cc)

pub one_local : (text : List ℕ) (moment : ℕ) (left right : Local) → IsLocal text moment left →
    IsLocal text moment right → left ≡ right
one_local text moment left right (a, at, shown) (b, also, seen) =
    let same = one_offset text moment a b at also in
    let P : ℤ → Type 0 = λ ahead. IsShown moment ahead left in
    one_shown moment b left right (subst P same shown) seen
