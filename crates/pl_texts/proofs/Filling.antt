-- Patterns filled piece by piece.
use Rattle.std.proofs.Common.{◌≡◌, ℕ, zero, suc, ◌+◌, ◌≤◌, Bool, true, false, if◌then◌else◌, Option}
use Rattle.std.proofs.Common.{Some, None, Ok, List, [], ◌∷◌, ◌++◌, length, take, drop, refl, ap}
use Rattle.std.proofs.Common.{sym, ◌∙◌, append_assoc, append-nil, arith}
use Rattle.std.specs.List.{prefix_len}
use Rattle.std.specs.Option.{option_map}
use Rattle.std.specs.Char.{is_ascii_digit}
use Rattle.std.proofs.lemmas.List.{drop-drop}
use Rattle.std.proofs.lemmas.List.Folds.{length-prefix_len}
use Rattle.pl_texts.specs.Bound.{bounded}
use Rattle.pl_texts.specs.Formatting.{is_brace, is_plain, braced, hole, prefixed, followed}
use Rattle.pl_texts.specs.Formatting.{filled_behind, filled, cut_off, continued, answered}
use Rattle.pl_texts.specs.Formatting.{argument_of}
use Rattle.pl_reading.specs.Bytes.{begins_with, digits_of}
use Rattle.pl_texts.proofs.Bytes.{begins_with_is}
use Rattle.pl_texts.proofs.Bounds.{within_bound}

pub prefixed_twice :
    (first second : List ℕ) (rest : Option (List ℕ)) →
    prefixed first (prefixed second rest) ≡ prefixed (first ++ second) rest
prefixed_twice first second None = refl
prefixed_twice first second (Some rest) = ap Some (sym (append_assoc first second rest))

prefixed_nothing : (rest : Option (List ℕ)) → prefixed [] rest ≡ rest
prefixed_nothing None = refl
prefixed_nothing (Some rest) = refl

passes :
    (passed : ℕ) (arguments : List (List ℕ)) (pattern : List ℕ) →
    filled_behind passed arguments pattern ≡ filled arguments (drop passed pattern)
unfolding filled_behind
passes zero arguments pattern = refl
passes (suc passed) arguments [] = refl
passes (suc passed) arguments (byte ∷ pattern) = passes passed arguments pattern

followed_is :
    (arguments : List (List ℕ)) (behind : List ℕ) (piece : Option (List ℕ × ℕ)) →
    followed piece (λ passed. filled_behind passed arguments behind) ≡
    continued arguments (cut_off behind piece)
followed_is arguments behind None = refl
followed_is arguments behind (Some piece) = ap (prefixed piece.0) (passes piece.1 arguments behind)

filled_at_brace :
    (arguments : List (List ℕ)) (byte : ℕ) (behind : List ℕ) → is_brace byte ≡ true →
    filled arguments (byte ∷ behind) ≡
    continued arguments (cut_off behind (braced arguments byte behind))
unfolding filled_behind
filled_at_brace arguments byte behind brace =
    rw brace (followed_is arguments behind (braced arguments byte behind))

filled_at_plain :
    (arguments : List (List ℕ)) (byte : ℕ) (behind : List ℕ) → is_brace byte ≡ false →
    filled arguments (byte ∷ behind) ≡ prefixed (byte ∷ []) (filled arguments behind)
unfolding filled_behind
filled_at_plain arguments byte behind plain = rw plain refl

filled_end : (arguments : List (List ℕ)) → filled arguments [] ≡ Some []
unfolding filled_behind
filled_end arguments = refl

pub filled_empty :
    (arguments : List (List ℕ)) (pattern : List ℕ) → length pattern ≡ 0 →
    filled arguments pattern ≡ Some []
filled_empty arguments [] e = filled_end arguments
filled_empty arguments (byte ∷ pattern) e = absurd (omega (arith, e))

-- at `{` and at `}`
pub filled_opened :
    (arguments : List (List ℕ)) (pattern behind : List ℕ) (parts : Option (List ℕ × List ℕ)) →
    begins_with 123 pattern ≡ true → behind ≡ drop 1 pattern →
    parts ≡ cut_off behind (braced arguments 123 behind) →
    filled arguments pattern ≡ continued arguments parts
filled_opened arguments pattern behind parts begins behind_is parts_is =
    let e : pattern ≡ 123 ∷ behind = begins_with_is 123 pattern begins ∙
    ap (λ rest. 123 ∷ rest) (sym behind_is) in
    ap (filled arguments) e ∙ (filled_at_brace arguments 123 behind refl ∙
    ap (continued arguments) (sym parts_is))

closing_braced :
    (arguments : List (List ℕ)) (behind : List ℕ) →
    braced [] 125 behind ≡ braced arguments 125 behind
closing_braced arguments behind = refl

pub filled_closed :
    (arguments : List (List ℕ)) (pattern behind : List ℕ) (parts : Option (List ℕ × List ℕ)) →
    begins_with 125 pattern ≡ true → behind ≡ drop 1 pattern →
    parts ≡ cut_off behind (braced [] 125 behind) →
    filled arguments pattern ≡ continued arguments parts
filled_closed arguments pattern behind parts begins behind_is parts_is =
    let e : pattern ≡ 125 ∷ behind = begins_with_is 125 pattern begins ∙
    ap (λ rest. 125 ∷ rest) (sym behind_is) in
    ap (filled arguments) e ∙ (filled_at_brace arguments 125 behind refl ∙
    (ap (λ piece. continued arguments (cut_off behind piece))
    (sym (closing_braced arguments behind)) ∙ ap (continued arguments) (sym parts_is)))

-- before the first brace
one_more :
    (byte : ℕ) (pattern : List ℕ) → is_brace byte ≡ false →
    prefix_len is_plain (byte ∷ pattern) ≡ suc (prefix_len is_plain pattern)
one_more byte pattern plain = rw plain (omega arith)

no_more :
    (byte : ℕ) (pattern : List ℕ) → is_brace byte ≡ true → prefix_len is_plain (byte ∷ pattern) ≡ 0
no_more byte pattern brace = rw brace refl

plain_step :
    (arguments : List (List ℕ)) (byte : ℕ) (pattern : List ℕ) (brace : Bool) →
    is_brace byte ≡ brace →
    filled arguments pattern ≡ prefixed (take (prefix_len is_plain pattern) pattern)
    (filled arguments (drop (prefix_len is_plain pattern) pattern)) →
    filled arguments (byte ∷ pattern) ≡
    prefixed (take (prefix_len is_plain (byte ∷ pattern)) (byte ∷ pattern))
    (filled arguments (drop (prefix_len is_plain (byte ∷ pattern)) (byte ∷ pattern)))
plain_step arguments byte pattern true e rest =
    sym (ap (λ count. prefixed (take count (byte ∷ pattern))
    (filled arguments (drop count (byte ∷ pattern)))) (no_more byte pattern e) ∙
    prefixed_nothing (filled arguments (byte ∷ pattern)))
plain_step arguments byte pattern false e rest =
    let count = prefix_len is_plain pattern in
    filled_at_plain arguments byte pattern e ∙
    (ap (prefixed (byte ∷ [])) rest ∙
    (prefixed_twice (byte ∷ []) (take count pattern) (filled arguments (drop count pattern)) ∙
    ap (λ count. prefixed (take count (byte ∷ pattern))
    (filled arguments (drop count (byte ∷ pattern)))) (sym (one_more byte pattern e))))

pub plain_front :
    (arguments : List (List ℕ)) (pattern : List ℕ) →
    filled arguments pattern ≡ prefixed (take (prefix_len is_plain pattern) pattern)
    (filled arguments (drop (prefix_len is_plain pattern) pattern))
plain_front arguments [] = sym (prefixed_nothing (filled arguments []))
plain_front arguments (byte ∷ pattern) = plain_step arguments byte pattern (is_brace byte) refl
    (plain_front arguments pattern)

-- a hole with its argument
pub hole_filled :
    (arguments : List (List ℕ)) (behind rest text last : List ℕ) (count : ℕ) →
    count ≡ prefix_len is_ascii_digit behind → rest ≡ drop count behind →
    begins_with 125 rest ≡ true → Some text ≡ argument_of arguments (digits_of behind) →
    last ≡ drop 1 rest → Some (text, last) ≡ cut_off behind (hole arguments behind)
hole_filled arguments behind rest text last count count_is rest_is closes found last_is =
    let digits_length : length (digits_of behind) ≡ count = length-prefix_len is_ascii_digit
    behind ∙ sym count_is in
    let test : begins_with 125 (drop (length (digits_of behind)) behind) ≡ true =
    ap (λ n. begins_with 125 (drop n behind)) digits_length ∙
    (ap (begins_with 125) (sym rest_is) ∙ closes) in
    let last_at : last ≡ drop (length (digits_of behind) + 1) behind = last_is ∙
    (ap (drop 1) rest_is ∙
    (drop-drop 1 count behind ∙ ap (λ n. drop (n + 1) behind) (sym digits_length))) in
    ap (λ last. Some (text, last)) last_at ∙
    sym (ap
    (λ b. cut_off behind (if b then option_map (λ text. (text, length (digits_of behind) + 1))
    (argument_of arguments (digits_of behind)) else None)) test ∙
    ap (λ found. cut_off behind (option_map (λ text. (text, length (digits_of behind) + 1))
    found)) (sym found))

-- ---- the end of the loops

pub all_filled :
    (whole rest : Option (List ℕ)) (made : List ℕ) → whole ≡ prefixed made rest → rest ≡ Some [] →
    length made ≤ 65536 → answered whole ≡ Ok made
all_filled whole rest made whole_is rest_is within =
    ap answered (whole_is ∙ ap (prefixed made) rest_is) ∙
    (ap bounded (append-nil made) ∙ within_bound made within)
