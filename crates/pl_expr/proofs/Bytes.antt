-- Where a text may be cut, and numbers that were cut at 2^64 - 1.
use Rattle.std.proofs.Common.{◌≡◌, ℕ, zero, suc, ◌+◌, ◌-◌, ◌^◌, ◌<◌, ◌≤◌, ◌≢◌, min, Bool, true}
use Rattle.std.proofs.Common.{false, ◌&&◌, cond, Some, None, List, [], ◌∷◌, ◌++◌, length, drop}
use Rattle.std.proofs.Common.{get_or, map, IsUtf8, IsCharBoundary, refl, ap, sym, ◌∙◌, append_assoc}
use Rattle.std.proofs.Common.{arith}
use Rattle.std.specs.Char.{is_ascii_digit}
use Rattle.std.specs.List.{prefix_len, list_all}
use Rattle.std.proofs.lemmas.Str.{IsCharBoundary-start, IsCharBoundary-after_ascii}
use Rattle.std.proofs.lemmas.List.Sums.{prefix_len_passes}
use Rattle.std.proofs.lemmas.Bool.{false≢true, ne_eqb}
use Rattle.std.proofs.lemmas.List.{length-map, append-nil}
use Rattle.std.proofs.lemmas.Bool.Decides.{nat_tests}
use Rattle.pl_expr.specs.Grammar.{is_name_byte}
use Rattle.pl_reading.specs.Bytes.{begins_with, number_of, digits_of}
use Rattle.pl_expr.specs.Numerals.{is_blank, skip, signed, is_segment, segments_of, goes_on}
use Rattle.pl_expr.specs.Numerals.{more_runs, behind_more, runs_of, behind_runs, version_in}

pub boundary_behind_ascii :
    (bytes : List ℕ) (count : ℕ) → IsUtf8 bytes → count ≤ length bytes →
    (0 < count → get_or bytes (count - 1) 0 < 128) → IsCharBoundary bytes count
boundary_behind_ascii bytes zero text within ascii = IsCharBoundary-start bytes text
boundary_behind_ascii bytes (suc before) text within ascii =
    let e : before + 1 ≡ suc before = omega arith in
    let f : suc before - 1 ≡ before = omega arith in
    let last : get_or bytes before 0 < 128 = rw f at (ascii (omega arith)) in
    rw (← e) (IsCharBoundary-after_ascii bytes before text (omega arith) last)

pub digits_are_ascii :
    (bytes : List ℕ) (count : ℕ) → count ≡ prefix_len is_ascii_digit bytes → 0 < count →
    get_or bytes (count - 1) 0 < 128
digits_are_ascii bytes count e some =
    let passes = prefix_len_passes is_ascii_digit bytes (count - 1) 0 (omega arith) in
    grind (arith, nat_tests)

pub name_bytes_are_ascii :
    (bytes : List ℕ) (count : ℕ) → count ≡ prefix_len is_name_byte bytes → 0 < count →
    get_or bytes (count - 1) 0 < 128
name_bytes_are_ascii bytes count e some =
    let passes = prefix_len_passes is_name_byte bytes (count - 1) 0 (omega arith) in
    grind (arith, nat_tests)

pub blanks_are_ascii :
    (bytes : List ℕ) (count : ℕ) → count ≡ prefix_len is_blank bytes → 0 < count →
    get_or bytes (count - 1) 0 < 128
blanks_are_ascii bytes count e some =
    let passes = prefix_len_passes is_blank bytes (count - 1) 0 (omega arith) in
    grind (arith, nat_tests)

pub signed_capped :
    (negative : Bool) (number : ℕ) →
    signed negative (min number (2 ^ 64 - 1)) ≡ signed negative number
signed_capped true number = grind (arith, nat_tests)
signed_capped false number = grind (arith, nat_tests)

all_segments_capped :
    (runs : List (List ℕ)) →
    list_all is_segment (map (λ digits. min (number_of digits) (2 ^ 64 - 1)) runs) ≡
    list_all is_segment (map number_of runs)
all_segments_capped [] = refl
all_segments_capped (digits ∷ others) =
    let e : is_segment (min (number_of digits) (2 ^ 64 - 1)) ≡ is_segment (number_of digits) =
    grind (arith, nat_tests) in
    let f = all_segments_capped others in
    cc

both_true : (a b : Bool) → a && b ≡ true → (a ≡ true) × (b ≡ true)
both_true true b e = (refl, e)
both_true false b e = absurd (false≢true e)

same_segments :
    (runs : List (List ℕ)) → list_all is_segment (map number_of runs) ≡ true →
    map (λ digits. min (number_of digits) (2 ^ 64 - 1)) runs ≡ map number_of runs
same_segments [] all = refl
same_segments (digits ∷ others) all =
    let parts = both_true (is_segment (number_of digits))
    (list_all is_segment (map number_of others)) all in
    let first : is_segment (number_of digits) ≡ true = parts.0 in
    let e : min (number_of digits) (2 ^ 64 - 1) ≡ number_of digits = grind (arith, nat_tests) in
    let f = same_segments others parts.1 in
    cc

segments_by_test :
    (b : Bool) (xs ys : List ℕ) → (b ≡ true → xs ≡ ys) →
    cond b (Some xs) None ≡ cond b (Some ys) None
segments_by_test true xs ys same = ap Some (same refl)
segments_by_test false xs ys same = refl

pub segments_of_capped :
    (runs : List (List ℕ)) →
    segments_of (map (λ digits. min (number_of digits) (2 ^ 64 - 1)) runs) ≡
    segments_of (map number_of runs)
segments_of_capped runs = rw (all_segments_capped runs)
    (segments_by_test (list_all is_segment (map number_of runs)) _ _ (same_segments runs))

pub more_runs_stops :
    (more : ℕ) (bytes : List ℕ) → goes_on bytes ≡ false → more_runs more bytes ≡ []
unfolding more_runs
more_runs_stops zero bytes stops = refl
more_runs_stops (suc more) bytes stops = rw stops refl

pub behind_more_stops :
    (more : ℕ) (bytes : List ℕ) → goes_on bytes ≡ false → behind_more more bytes ≡ bytes
unfolding behind_more
behind_more_stops zero bytes stops = refl
behind_more_stops (suc more) bytes stops = rw stops refl

more_runs_goes :
    (more : ℕ) (bytes : List ℕ) → goes_on bytes ≡ true →
    more_runs (suc more) bytes ≡ digits_of (drop 1 bytes) ∷
    more_runs more (skip is_ascii_digit (drop 1 bytes))
unfolding more_runs
more_runs_goes more bytes goes = rw goes refl

behind_more_goes :
    (more : ℕ) (bytes : List ℕ) → goes_on bytes ≡ true →
    behind_more (suc more) bytes ≡ behind_more more (skip is_ascii_digit (drop 1 bytes))
unfolding behind_more
behind_more_goes more bytes goes = rw goes refl

pub more_runs_turn :
    (turn : ℕ) (bytes : List ℕ) → turn < 3 → goes_on bytes ≡ true →
    more_runs (3 - turn) bytes ≡ digits_of (drop 1 bytes) ∷
    more_runs (3 - (turn + 1)) (skip is_ascii_digit (drop 1 bytes))
more_runs_turn turn bytes room goes =
    let e : 3 - turn ≡ suc (3 - (turn + 1)) = omega arith in
    rw e (more_runs_goes (3 - (turn + 1)) bytes goes)

pub behind_more_turn :
    (turn : ℕ) (bytes : List ℕ) → turn < 3 → goes_on bytes ≡ true →
    behind_more (3 - turn) bytes ≡ behind_more (3 - (turn + 1)) (skip is_ascii_digit (drop 1 bytes))
behind_more_turn turn bytes room goes =
    let e : 3 - turn ≡ suc (3 - (turn + 1)) = omega arith in
    rw e (behind_more_goes (3 - (turn + 1)) bytes goes)

pub version_in_is :
    (bytes numbers : List ℕ) → prefix_len is_ascii_digit bytes ≢ 0 →
    numbers ≡ map (λ digits. min (number_of digits) (2 ^ 64 - 1)) (runs_of bytes) →
    length numbers ≢ 1 → length (behind_runs bytes) ≡ 0 → segments_of numbers ≡ version_in bytes
unfolding version_in
version_in_is bytes numbers some e several whole =
    let several_runs : length (runs_of bytes) ≢ 1 =
    λ one. several (ap length e ∙ length-map (runs_of bytes) _ ∙ one) in
    rw (ne_eqb _ _ some, ne_eqb _ _ several_runs, whole) (ap segments_of e ∙
    segments_of_capped (runs_of bytes))

pub runs_end :
    (turn : ℕ) (behind numbers all : List ℕ) → goes_on behind ≡ false →
    numbers ++ map (λ digits. min (number_of digits) (2 ^ 64 - 1)) (more_runs (3 - turn) behind) ≡
    all →
    numbers ≡ all
runs_end turn behind numbers all stops h =
    let e = more_runs_stops (3 - turn) behind stops in
    sym (append-nil numbers) ∙
    (ap (λ runs. numbers ++ map (λ digits. min (number_of digits) (2 ^ 64 - 1)) runs) (sym e) ∙
    h)

pub runs_step :
    (turn : ℕ) (behind run after numbers longer all : List ℕ) (number : ℕ) → turn < 3 →
    goes_on behind ≡ true → run ≡ drop 1 behind → after ≡ skip is_ascii_digit run →
    number ≡ min (number_of (digits_of run)) (2 ^ 64 - 1) → longer ≡ numbers ++ number ∷ [] →
    numbers ++ map (λ digits. min (number_of digits) (2 ^ 64 - 1)) (more_runs (3 - turn) behind) ≡
    all →
    longer ++ map (λ digits. min (number_of digits) (2 ^ 64 - 1))
    (more_runs (3 - (turn + 1)) after) ≡ all
runs_step turn behind run after numbers longer all number room goes run_is after_is number_is
    longer_is h =
    let e = more_runs_turn turn behind room goes in
    rw (longer_is, number_is, after_is, run_is) (append_assoc numbers _ _ ∙
    (ap (λ runs. numbers ++ map (λ digits. min (number_of digits) (2 ^ 64 - 1)) runs) (sym e) ∙
    h))

pub behind_step :
    (turn : ℕ) (behind run after all : List ℕ) → turn < 3 → goes_on behind ≡ true →
    run ≡ drop 1 behind → after ≡ skip is_ascii_digit run → behind_more (3 - turn) behind ≡ all →
    behind_more (3 - (turn + 1)) after ≡ all
behind_step turn behind run after all room goes run_is after_is h =
    let e = behind_more_turn turn behind room goes in
    rw (after_is, run_is) (sym e ∙ h)

pub begins_with_first :
    (byte : ℕ) (bytes : List ℕ) → begins_with byte bytes ≡ true →
    (0 < length bytes) × (get_or bytes 0 0 ≡ byte)
begins_with_first byte [] begins = absurd (false≢true begins)
begins_with_first byte (first ∷ bytes) begins = (omega arith, grind (arith, nat_tests))
