-- What is read of a leaf, as it is spelled or printed, whatever stands behind it that a leaf
-- doesn't go on with.
use Rattle.std.proofs.Common.{◌≡◌, ◌≢◌, ℕ, zero, suc, ◌+◌, ◌-◌, ◌*◌, ◌^◌, ◌<◌, ◌≤◌, Bool, true}
use Rattle.std.proofs.Common.{false, ◌&&◌, ◌==◌, Some, Ok, List, [], ◌∷◌, ◌++◌, length, drop, take}
use Rattle.std.proofs.Common.{map, fold, codes, decimal, ℤ, pos, negsuc, refl, ap, sym, ◌∙◌}
use Rattle.std.proofs.Common.{append_assoc, rules, arith}
use Rattle.std.specs.List.{prefix_len, list_all, take_while, join_with_byte}
use Rattle.std.specs.Char.{is_ascii_digit}
use Rattle.std.specs.Fmt.{signed_decimal}
use Rattle.std.proofs.lemmas.List.{take_at, drop_at, append-nil, length-map}
use Rattle.std.proofs.lemmas.Bool.{and_parts, false≢true, ne_eqb}
use Rattle.std.proofs.lemmas.Bool.Decides.{nat_tests}
use Rattle.std.proofs.lemmas.Str.Parse.{IsNumeralModel, numerals_by_fold}
use Rattle.std.proofs.lemmas.Fmt.{digits_decimal, digits_value-decimal, decimal_nonempty}
use Rattle.pl_base.specs.declared.value.Value.{Value, Bool as Truth, Number, Version, Str}
use Rattle.pl_expr.specs.declared.expr.Expr.{Expr}
use Rattle.pl_expr.specs.declared.expr.Expr.TheVariants.{Lit}
use Rattle.pl_expr.specs.declared.expr.Mode.{Mode}
use Rattle.pl_expr.specs.declared.scan.Front.TheVariants as front
use Rattle.pl_expr.specs.Numerals.{is_blank, skip, signed, goes_on, more_runs, behind_more, runs_of}
use Rattle.pl_expr.specs.Numerals.{behind_runs, is_segment, segments_of}
use Rattle.pl_reading.specs.Bytes.{digits_of, number_of, begins_with}
use Rattle.pl_expr.specs.Trees.{quoted, literal, dotted}
use Rattle.pl_expr.specs.Grammar.{Read, begins_name, is_name_byte, is_word, unquoted, with_byte}
use Rattle.pl_expr.specs.Grammar.{string_read, unsigned_at, signed_at, word_tree, word_at, front_of}
use Rattle.pl_expr.specs.Grammar.{primary_by, primary_at}
use Rattle.pl_expr.specs.Given.{IsName, IsNumber, IsVersion, IsLiteral}
use Rattle.pl_expr.specs.Spelling.{AreDigits, AreRuns, IsLiteralText}
use Rattle.pl_expr.specs.Spelling as rule
use Rattle.pl_expr.proofs.Bytes.{more_runs_stops, behind_more_stops}
use Rattle.pl_expr.proofs.Quotes.{unquoted_plain, unquoted_end, unquoted_double}

-- what may stand behind a printed tree
pub data Closed : List ℕ → Type 0 where
  at_end : Closed []
  at_index : (bytes : List ℕ) → Closed (91 ∷ bytes)
  at_bracket : (bytes : List ℕ) → Closed (93 ∷ bytes)
  at_paren : (bytes : List ℕ) → Closed (41 ∷ bytes)
  at_comma : (bytes : List ℕ) → Closed (44 ∷ bytes)
  at_star : (bytes : List ℕ) → Closed (46 ∷ 42 ∷ bytes)

-- what may stand behind a leaf: nothing that its last name, digits or quote goes on with, and no
-- `(` of a call
abbrev pub Behind : List ℕ → Type 0
Behind rest = (prefix_len is_name_byte rest ≡ 0) ×
    ((goes_on rest ≡ false) ×
    ((begins_with 39 rest ≡ false) × (begins_with 40 (skip is_blank rest) ≡ false)))

pub closed_behind : (rest : List ℕ) → Closed rest → Behind rest
closed_behind _ at_end = (refl, (refl, (refl, refl)))
closed_behind _ (at_index []) = (refl, (refl, (refl, refl)))
closed_behind _ (at_index (byte ∷ bytes)) = (refl, (refl, (refl, refl)))
closed_behind _ (at_bracket []) = (refl, (refl, (refl, refl)))
closed_behind _ (at_bracket (byte ∷ bytes)) = (refl, (refl, (refl, refl)))
closed_behind _ (at_paren []) = (refl, (refl, (refl, refl)))
closed_behind _ (at_paren (byte ∷ bytes)) = (refl, (refl, (refl, refl)))
closed_behind _ (at_comma []) = (refl, (refl, (refl, refl)))
closed_behind _ (at_comma (byte ∷ bytes)) = (refl, (refl, (refl, refl)))
closed_behind _ (at_star bytes) = (refl, (refl, (refl, refl)))

pub closed_name :
    (rest : List ℕ) → Closed rest → (begins_with 46 rest && is_word (drop 1 rest)) ≡ false
closed_name _ at_end = refl
closed_name _ (at_index bytes) = refl
closed_name _ (at_bracket bytes) = refl
closed_name _ (at_paren bytes) = refl
closed_name _ (at_comma bytes) = refl
closed_name _ (at_star bytes) = refl

-- ---- runs of bytes that pass a test

pub prefix_front :
    (test : ℕ → Bool) (xs rest : List ℕ) → list_all test xs ≡ true → prefix_len test rest ≡ 0 →
    prefix_len test (xs ++ rest) ≡ length xs
prefix_front test [] rest all stops = stops
prefix_front test (x ∷ xs) rest all stops =
    let parts = and_parts (test x) (list_all test xs) all in
    rw parts.0 (let e = prefix_front test xs rest parts.1 stops in omega (arith, e))

pub take_front :
    (test : ℕ → Bool) (xs rest : List ℕ) → list_all test xs ≡ true → prefix_len test rest ≡ 0 →
    take_while test (xs ++ rest) ≡ xs
take_front test xs rest all stops = ap (λ n. take n (xs ++ rest))
    (prefix_front test xs rest all stops) ∙ take_at xs rest (length xs) refl

pub skip_front :
    (test : ℕ → Bool) (xs rest : List ℕ) → list_all test xs ≡ true → prefix_len test rest ≡ 0 →
    skip test (xs ++ rest) ≡ rest
skip_front test xs rest all stops = ap (λ n. drop n (xs ++ rest))
    (prefix_front test xs rest all stops) ∙ drop_at xs rest (length xs) refl

-- ---- names

name_test : (byte : ℕ) → begins_name byte ≡ true → (byte == 39) ≡ false
name_test byte named = grind (arith, nat_tests)

pub front_word : (name rest : List ℕ) → is_word name ≡ true → front_of (name ++ rest) ≡ front.Word
unfolding front_of
front_word [] rest named = absurd (false≢true named)
front_word (byte ∷ name) rest named = rw (name_test byte named, named) refl

pub root_read :
    (mode : Mode) (inner : List ℕ → Read Expr) (name rest : List ℕ) → IsName name → Behind rest →
    primary_at mode true inner (name ++ rest) ≡ Ok (word_tree name, rest)
unfolding primary_at word_at
root_read mode inner name rest named behind =
    rw (
      front_word name rest named.0,
      skip_front is_name_byte name rest named.1 behind.0,
      behind.1.1.1,
      take_front is_name_byte name rest named.1 behind.0,
    ) refl

-- ---- texts

pub unquoted_quoted :
    (text rest : List ℕ) → begins_with 39 rest ≡ false →
    unquoted (quoted text ++ 39 ∷ rest) ≡ Some (text, rest)
unquoted_quoted [] rest ends = unquoted_end rest ends
unquoted_quoted (byte ∷ text) rest ends = by (unquoted_quoted text rest ends) (byte == 39) refl
  where
    by :
        unquoted (quoted text ++ 39 ∷ rest) ≡ Some (text, rest) → (b : Bool) → (byte == 39) ≡ b →
        unquoted (quoted (byte ∷ text) ++ 39 ∷ rest) ≡ Some (byte ∷ text, rest)
    by others false plain = rw plain (unquoted_plain byte (quoted text ++ 39 ∷ rest) plain ∙
        ap (with_byte byte) others)
    by others true quote =
        let e : byte ≡ 39 = grind (arith, nat_tests) in
        rw quote (unquoted_double (39 ∷ quoted text ++ 39 ∷ rest) refl ∙
        (ap (with_byte 39) others ∙ ap (λ b. Some (b ∷ text, rest)) (sym e)))

-- ---- numbers

own : IsNumeralModel (λ digits. list_all is_ascii_digit digits ≡ true) number_of
own = numerals_by_fold _ (search rules)
    (λ number digits. fold (λ number digit. number * 10 + (digit - 48)) number digits)
    (search rules)

pub decimal_digits :
    (number : ℕ) → number < 2 ^ 64 → list_all is_ascii_digit (decimal number) ≡ true
decimal_digits number small = digits_decimal own number small

pub decimal_number : (number : ℕ) → number < 2 ^ 64 → number_of (decimal number) ≡ number
decimal_number number small = digits_value-decimal own number small

digit_test :
    (byte : ℕ) → is_ascii_digit byte ≡ true →
    ((byte == 39) ≡ false) × (begins_name byte ≡ false) × ((byte == 45) ≡ false)
digit_test byte digit = (
  grind (arith, nat_tests),
  grind (arith, nat_tests),
  grind (arith, nat_tests),
)

pub front_digits :
    (digits rest : List ℕ) → 0 < length digits → list_all is_ascii_digit digits ≡ true →
    (front_of (digits ++ rest) ≡ front.Digits) × (begins_with 45 (digits ++ rest) ≡ false)
unfolding front_of
front_digits [] rest some all = absurd (omega arith)
front_digits (byte ∷ digits) rest some all =
    let parts = and_parts (is_ascii_digit byte) (list_all is_ascii_digit digits) all in
    let tests = digit_test byte parts.0 in
    (rw (tests.0, tests.1, parts.0) refl, tests.2)

-- a byte that no name goes on with is no digit
digits_end : (rest : List ℕ) → prefix_len is_name_byte rest ≡ 0 → prefix_len is_ascii_digit rest ≡ 0
digits_end [] ends = refl
digits_end (byte ∷ rest) ends = by (is_ascii_digit byte) refl
  where
    named : (byte : ℕ) → is_ascii_digit byte ≡ true → is_name_byte byte ≡ true
    named byte digit = grind (arith, nat_tests)

    by : (b : Bool) → is_ascii_digit byte ≡ b → prefix_len is_ascii_digit (byte ∷ rest) ≡ 0
    by true digit = absurd (let long : prefix_len is_name_byte (byte ∷ rest) ≡
        1 + prefix_len is_name_byte rest = rw (named byte digit) refl in omega (arith, ends, long))
    by false other = rw other refl

pub runs_one :
    (digits rest : List ℕ) → list_all is_ascii_digit digits ≡ true → Behind rest →
    (runs_of (digits ++ rest) ≡ digits ∷ []) × (behind_runs (digits ++ rest) ≡ rest)
runs_one digits rest all behind =
    let taken = take_front is_ascii_digit digits rest all (digits_end rest behind.0) in
    let skipped = skip_front is_ascii_digit digits rest all (digits_end rest behind.0) in (
      ap (λ run. run ∷ more_runs 3 (skip is_ascii_digit (digits ++ rest))) taken ∙
          (ap (λ xs. digits ∷ more_runs 3 xs) skipped ∙
          ap (λ runs. digits ∷ runs) (more_runs_stops 3 rest behind.1.0)),
      ap (behind_more 3) skipped ∙ behind_more_stops 3 rest behind.1.0,
    )

unsigned_read :
    (digits rest : List ℕ) (value : ℤ) → AreDigits digits →
    signed false (number_of digits) ≡ Some value → Behind rest →
    unsigned_at (digits ++ rest) ≡ Ok (Lit (Number value), rest)
unfolding unsigned_at
unsigned_read digits rest value are fits behind =
    let count : length (runs_of (digits ++ rest)) ≡ 1 =
    ap length (runs_one digits rest are.1 behind).0 in
    let read : signed false (number_of (digits_of (digits ++ rest))) ≡ Some value =
    ap (λ xs. signed false (number_of xs)) (take_front is_ascii_digit digits rest are.1
    (digits_end rest behind.0)) ∙ fits in
    rw (count, read, skip_front is_ascii_digit digits rest are.1 (digits_end rest behind.0)) refl

signed_read :
    (digits bytes rest : List ℕ) (value : ℤ) → AreDigits digits →
    signed true (number_of digits) ≡ Some value → Behind rest →
    signed_at bytes (digits ++ rest) ≡ Ok (Lit (Number value), rest)
unfolding signed_at
signed_read digits bytes rest value are fits behind =
    let count : length (runs_of (digits ++ rest)) ≡ 1 =
    ap length (runs_one digits rest are.1 behind).0 in
    let some : prefix_len is_ascii_digit (digits ++ rest) ≢ 0 =
    λ e. omega (
      arith,
      e,
      are.0,
      prefix_front is_ascii_digit digits rest are.1
          (digits_end rest behind.0),
    ) in
    let read : signed true (number_of (digits_of (digits ++ rest))) ≡ Some value =
    ap (λ xs. signed true (number_of xs)) (take_front is_ascii_digit digits rest are.1
    (digits_end rest behind.0)) ∙ fits in
    rw (
      ne_eqb _ _ some,
      count,
      read,
      skip_front is_ascii_digit digits rest are.1
          (digits_end rest behind.0),
    ) refl

-- ---- versions

joined_is :
    (digits : List ℕ) (runs : List (List ℕ)) →
    join_with_byte 46 (digits ∷ runs) ≡ digits ++ dotted runs
joined_is digits [] = sym (append-nil digits)
joined_is digits (following ∷ runs) = ap (λ xs. digits ++ 46 ∷ xs) (joined_is following runs)

dotted_digits :
    (runs : List (List ℕ)) (rest : List ℕ) → Behind rest →
    prefix_len is_ascii_digit (dotted runs ++ rest) ≡ 0
dotted_digits [] rest behind = digits_end rest behind.0
dotted_digits (digits ∷ runs) rest behind = refl

goes_on_digits : (digits rest : List ℕ) → AreDigits digits → goes_on (46 ∷ digits ++ rest) ≡ true
goes_on_digits [] rest are = absurd (omega (arith, are.0))
goes_on_digits (byte ∷ digits) rest are =
    (and_parts (is_ascii_digit byte) (list_all is_ascii_digit digits) are.1).0

dotted_runs :
    (more : ℕ) (runs : List (List ℕ)) (rest : List ℕ) → length runs ≤ more → AreRuns runs →
    Behind rest →
    (more_runs more (dotted runs ++ rest) ≡ runs) × (behind_more more (dotted runs ++ rest) ≡ rest)
unfolding more_runs behind_more
dotted_runs more [] rest room are behind =
    (more_runs_stops more rest behind.1.0, behind_more_stops more rest behind.1.0)
dotted_runs zero (digits ∷ runs) rest room are behind = absurd (omega (arith, room))
dotted_runs (suc more) (digits ∷ runs) rest room are behind =
    let stops = dotted_digits runs rest behind in
    let goes = goes_on_digits digits (dotted runs ++ rest) are.0 in
    let taken = take_front is_ascii_digit digits (dotted runs ++ rest) are.0.1 stops in
    let skipped = skip_front is_ascii_digit digits (dotted runs ++ rest) are.0.1 stops in
    let others = dotted_runs more runs rest (omega (arith, room)) are.1 behind in
    let regroup : (digits ++ dotted runs) ++ rest ≡ digits ++ (dotted runs ++ rest) =
    append_assoc digits (dotted runs) rest in
    (rw (regroup, goes, taken, skipped, others.0) refl, rw (regroup, goes, skipped) others.1)

version_read :
    (mode : Mode) (inner : List ℕ → Read Expr) (runs : List (List ℕ)) (segments rest : List ℕ) →
    AreRuns runs → 2 < length runs → length runs ≤ 4 →
    segments_of (map number_of runs) ≡ Some segments → Behind rest →
    primary_at mode true inner (join_with_byte 46 runs ++ rest) ≡ Ok (Lit (Version segments), rest)
unfolding primary_at unsigned_at
version_read mode inner [] segments rest are some few fits behind = absurd (omega (arith, some))
version_read mode inner (digits ∷ runs) segments rest are some few fits behind =
    let text : join_with_byte 46 (digits ∷ runs) ++ rest ≡ digits ++ (dotted runs ++ rest) =
    ap (λ xs. xs ++ rest) (joined_is digits runs) ∙ append_assoc digits (dotted runs) rest in
    let stops = dotted_digits runs rest behind in
    let begins = front_digits digits (dotted runs ++ rest) are.0.0 are.0.1 in
    let taken = take_front is_ascii_digit digits (dotted runs ++ rest) are.0.1 stops in
    let skipped = skip_front is_ascii_digit digits (dotted runs ++ rest) are.0.1 stops in
    let others = dotted_runs 3 runs rest (omega (arith, few)) are.1 behind in
    let all : runs_of (digits ++ (dotted runs ++ rest)) ≡ digits ∷ runs =
    rw (taken, skipped, others.0) refl in
    let left : behind_runs (digits ++ (dotted runs ++ rest)) ≡ rest = rw skipped others.1 in
    let count : length (runs_of (digits ++ (dotted runs ++ rest))) ≡ length (digits ∷ runs) =
    ap length all in
    let not_one : length (runs_of (digits ++ (dotted runs ++ rest))) ≢ 1 =
    λ e. omega (arith, e, count, some) in
    let not_two : length (runs_of (digits ++ (dotted runs ++ rest))) ≢ 2 =
    λ e. omega (arith, e, count, some) in
    let found : segments_of (map number_of (runs_of (digits ++ (dotted runs ++ rest)))) ≡
    Some segments = ap (λ xs. segments_of (map number_of xs)) all ∙ fits in
    ap (primary_at mode true inner) text ∙
    (ap (primary_by mode true inner (digits ++ (dotted runs ++ rest))) begins.0 ∙
    rw (begins.1, ne_eqb _ _ not_one, ne_eqb _ _ not_two, found, left) refl)

-- ---- literals as they are spelled

pub spelled_read :
    (mode : Mode) (inner : List ℕ → Read Expr) (spelling : List ℕ) (value : Value) (rest : List ℕ) →
    IsLiteralText spelling value → Behind rest →
    primary_at mode true inner (spelling ++ rest) ≡ Ok (Lit value, rest)
unfolding primary_at front_of
spelled_read mode inner _ _ rest (rule.number digits value are fits) behind =
    let begins = front_digits digits rest are.0 are.1 in
    ap (primary_by mode true inner (digits ++ rest)) begins.0 ∙
    rw begins.1 (unsigned_read digits rest value are fits behind)
spelled_read mode inner _ _ rest (rule.negative digits value are fits) behind =
    signed_read digits (45 ∷ digits ++ rest) rest value are fits behind
spelled_read mode inner _ _ rest (rule.version runs segments are some few fits) behind =
    version_read mode inner runs segments rest are some few fits behind
spelled_read mode inner _ _ rest (rule.string text) behind =
    ap (λ read. string_read ((39 ∷ quoted text ++ 39 ∷ []) ++ rest) true read)
    (ap unquoted (append_assoc (quoted text) (39 ∷ []) rest) ∙
    unquoted_quoted text rest behind.1.1.0)

-- ---- literals as they are printed

segments_small : (segment : ℕ) → is_segment segment ≡ true → segment < 2 ^ 64
segments_small segment within = let e : segment ≤ 2147483647 = grind (arith, nat_tests) in
    omega (arith, e)

decimals_are :
    (segments : List ℕ) → list_all is_segment segments ≡ true → AreRuns (map decimal segments)
decimals_are [] all = tt
decimals_are (segment ∷ segments) all =
    let parts = and_parts (is_segment segment) (list_all is_segment segments) all in
    let small = segments_small segment parts.0 in
    ((decimal_nonempty segment small, decimal_digits segment small), decimals_are segments parts.1)

numbers_again :
    (segments : List ℕ) → list_all is_segment segments ≡ true →
    map number_of (map decimal segments) ≡ segments
numbers_again [] all = refl
numbers_again (segment ∷ segments) all =
    let parts = and_parts (is_segment segment) (list_all is_segment segments) all in
    let first = decimal_number segment (segments_small segment parts.0) in
    let others = numbers_again segments parts.1 in
    cc (first, others)

number_is : (number : ℤ) → IsNumber number → IsLiteralText (signed_decimal number) (Number number)
number_is (pos number) small =
    let fits : signed false number ≡ Some (pos number) = grind (arith, nat_tests) in
    rule.number (decimal number) (pos number) (
      decimal_nonempty number (omega arith),
      decimal_digits number (omega arith),
    )
    (ap (signed false) (decimal_number number (omega arith)) ∙ fits)
number_is (negsuc number) small =
    let fits : signed true (suc number) ≡ Some (negsuc number) = grind (arith, nat_tests) in
    rule.negative (decimal (suc number)) (negsuc number)
    (decimal_nonempty (suc number) (omega arith), decimal_digits (suc number) (omega arith))
    (ap (signed true) (decimal_number (suc number) (omega arith)) ∙ fits)

version_is :
    (segments : List ℕ) → IsVersion segments →
    IsLiteralText (join_with_byte 46 (map decimal segments)) (Version segments)
version_is segments version =
    let count = length-map segments decimal in
    rule.version (map decimal segments) segments (decimals_are segments version.2)
    (omega (arith, count, version.0)) (omega (arith, count, version.1))
    (ap segments_of (numbers_again segments version.2) ∙ rw version.2 refl)

true_read :
    (mode : Mode) (inner : List ℕ → Read Expr) (rest : List ℕ) → Behind rest →
    primary_at mode true inner (codes "True" ++ rest) ≡ Ok (Lit (Truth true), rest)
unfolding word_tree
true_read mode inner rest behind = root_read mode inner (codes "True") rest (refl, refl) behind

false_read :
    (mode : Mode) (inner : List ℕ → Read Expr) (rest : List ℕ) → Behind rest →
    primary_at mode true inner (codes "False" ++ rest) ≡ Ok (Lit (Truth false), rest)
unfolding word_tree
false_read mode inner rest behind = root_read mode inner (codes "False") rest (refl, refl) behind

pub literal_read :
    (mode : Mode) (inner : List ℕ → Read Expr) (value : Value) (rest : List ℕ) → IsLiteral value →
    Behind rest → primary_at mode true inner (literal value ++ rest) ≡ Ok (Lit value, rest)
literal_read mode inner (Truth true) rest is behind = true_read mode inner rest behind
literal_read mode inner (Truth false) rest is behind = false_read mode inner rest behind
literal_read mode inner (Number number) rest is behind =
    spelled_read mode inner (signed_decimal number) (Number number) rest (number_is number is)
    behind
literal_read mode inner (Version segments) rest is behind =
    spelled_read mode inner (join_with_byte 46 (map decimal segments)) (Version segments) rest
    (version_is segments is) behind
literal_read mode inner (Str text) rest is behind = spelled_read mode inner (39 ∷ quoted text ++
    39 ∷ []) (Str text) rest (rule.string text) behind
literal_read mode inner value rest is behind = absurd is
