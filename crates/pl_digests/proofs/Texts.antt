-- Digests as texts and back.
use Rattle.std.proofs.Common.{◌≡◌, ℕ, zero, suc, ◌+◌, ◌*◌, ◌/◌, ◌%◌, ◌<◌, ◌==◌, Bool, true, false}
use Rattle.std.proofs.Common.{if◌then◌else◌, ◌&&◌, ◌||◌, not, List, [], ◌∷◌, length, slice_index}
use Rattle.std.proofs.Common.{Option, Some}
use Rattle.std.proofs.Common.{None, unwrap_or, Result, Ok, Err, refl, sym, ap, ◌∙◌, arith, inl, inr}
use Rattle.std.specs.List.{list_all}
use Rattle.std.specs.Result.{result_unwrap_or}
use Rattle.std.proofs.lemmas.Bool.{and_parts, cases_lt, eqb-true}
use Rattle.hex.specs.Hex.{IsBytes, decode_pairs, decode_sized, digit_or_error, hex_digit_value}
use Rattle.hex.specs.Hex.{encode_lower, encode_with, lower_digits, pair_value, value_at, ◌>>=◌}
use Rattle.hex.specs.declared.error.FromHexError.{FromHexError}
use Rattle.hex.proofs.HexLemmas.{decode_of-even, decode_of-ok, decode_sized-encode_lower}
use Rattle.hex.proofs.HexLemmas.{decode_sized-ok, decode_sized-twice, length-encode_with}
use Rattle.pl_base.specs.declared.digest.Digest.{Digest}
use Rattle.pl_digests.specs.Digests.{IsDigest, digest_in, hex_of, is_lower_hex, made_of}

-- ---- what holds of the first numbers, by trying each

abbrev each_holds : (ℕ → Bool) → ℕ → Bool
each_holds test zero = true
each_holds test (suc n) = test n && each_holds test n

holds_at : (test : ℕ → Bool) (n k : ℕ) → each_holds test n ≡ true → k < n → test k ≡ true
holds_at test zero k h below = absurd (omega arith)
holds_at test (suc n) k h below =
    let parts = and_parts (test n) (each_holds test n) h in
    elim (cases_lt k n) [
      | inl sooner ↦ holds_at test n k parts.1 sooner
      | inr last ↦
          let e : k ≡ n = omega arith in
          rw e parts.0
    ]

-- ---- the digits in lower case

are_lower : (d : ℕ) → d < 16 → is_lower_hex (slice_index lower_digits d) ≡ true
are_lower d below =
    holds_at (λ k. is_lower_hex (slice_index lower_digits k)) 16 d refl below

abbrev reads_itself : ℕ → Bool
reads_itself c = not (is_lower_hex c) ||
    (slice_index lower_digits (unwrap_or (hex_digit_value c) 0) == c)

small_digit : (c : ℕ) → is_lower_hex c ≡ true → c < 128
small_digit c h = grind arith

without_not : (a b : Bool) → (not a || b) ≡ true → a ≡ true → b ≡ true
without_not true b h is = h
without_not false b h is = cc is

digit_is : (c v : ℕ) → is_lower_hex c ≡ true → hex_digit_value c ≡ Some v →
    slice_index lower_digits v ≡ c
digit_is c v lower is =
    let tried = holds_at reads_itself 128 c refl (small_digit c lower) in
    let same = eqb-true (slice_index lower_digits (unwrap_or (hex_digit_value c) 0)) c
    (without_not (is_lower_hex c) _ tried lower) in
    ap (λ (o : Option ℕ). slice_index lower_digits (unwrap_or o 0)) (sym is) ∙ same

-- ---- a text of digits in lower case is the text of what it is read as

bound_ok : {A B : Type 0} (r : Result A FromHexError) (f : A → Result B FromHexError) (y : B)
    → (r >>= f) ≡ Ok y → (x : A) × (r ≡ Ok x) × (f x ≡ Ok y)
bound_ok (Ok x) f y h = (x, refl, h)
bound_ok (Err e) f y h = cc h

digit_read : (c i : ℕ) (o : Option ℕ) (v : ℕ) → digit_or_error c i o ≡ Ok v → o ≡ Some v
digit_read c i (Some w) v h = ap Some (ap (λ (r : Result ℕ FromHexError). result_unwrap_or r 0) h)
digit_read c i None v h = cc h

small_value : (c v : ℕ) → hex_digit_value c ≡ Some v → v < 16
small_value c v h = grind arith

written_again : (i : ℕ) (s bytes : List ℕ) → list_all is_lower_hex s ≡ true →
    decode_pairs i s ≡ Ok bytes → s ≡ encode_with lower_digits bytes
unfolding decode_pairs encode_with
written_again i [] bytes lower h =
    let e : [] ≡ bytes = ap (λ (r : Result (List ℕ) FromHexError). result_unwrap_or r []) h in
    rw (← e) refl
written_again i (a ∷ []) bytes lower h = cc h
written_again i (a ∷ b ∷ rest) bytes lower h =
    let first = and_parts (is_lower_hex a) (list_all is_lower_hex (b ∷ rest)) lower in
    let second = and_parts (is_lower_hex b) (list_all is_lower_hex rest) first.1 in
    let p0 = bound_ok (pair_value a b i) _ bytes h in
    let p1 = bound_ok (value_at a i) _ p0.0 p0.1 in
    let p2 = bound_ok (value_at b (i + 1)) _ p0.0 p1.2 in
    let p3 = bound_ok (decode_pairs (i + 2) rest) _ bytes p0.2 in
    let later = written_again (i + 2) rest p3.0 second.1 p3.1 in
    let e : p0.0 ∷ p3.0 ≡ bytes = ap
    (λ (r : Result (List ℕ) FromHexError). result_unwrap_or r []) p3.2 in
    let da = digit_read a i (hex_digit_value a) p1.0 p1.1 in
    let db = digit_read b (i + 1) (hex_digit_value b) p2.0 p2.1 in
    let va = small_value a p1.0 da in
    let vb = small_value b p2.0 db in
    let byte : p1.0 * 16 + p2.0 ≡ p0.0 = ap
    (λ (r : Result ℕ FromHexError). result_unwrap_or r 0) p2.2 in
    let high : p0.0 / 16 ≡ p1.0 = omega (arith, byte, va, vb) in
    let low : p0.0 % 16 ≡ p2.0 = omega (arith, byte, va, vb) in
    let is_a = digit_is a p1.0 first.0 da in
    let is_b = digit_is b p2.0 second.0 db in
    rw (← e) (rw (high, low, is_a, is_b, ← later) refl)

all_lower : (bytes : List ℕ) → IsBytes bytes →
    list_all is_lower_hex (encode_with lower_digits bytes) ≡ true
unfolding encode_with
all_lower [] is = refl
all_lower (b ∷ rest) is =
    let fits : b < 256 = is 0 in
    let high = are_lower (b / 16) (omega arith) in
    let low = are_lower (b % 16) (omega arith) in
    let later = all_lower rest (λ k. is (suc k)) in
    rw (high, low, later) refl

-- ---- digests

pub hex_len : (told : Digest) → IsDigest told → length (hex_of told) ≡ 64
hex_len told is = omega (arith, length-encode_with lower_digits told.bytes, is.len)

pub text_is_read : (told : Digest) → IsDigest told → digest_in (hex_of told) ≡ Some told
text_is_read told is =
    let lower = all_lower told.bytes is.bytes in
    let back = decode_sized-encode_lower told.bytes 32 is.len is.bytes in
    rw (lower, back) refl

made_is : (lower : Bool) (r : Result (List ℕ) FromHexError) (told : Digest) →
    (if lower then made_of r else None) ≡ Some told → (lower ≡ true) × (r ≡ Ok told.bytes)
made_is true (Ok bytes) told h =
    let same : bytes ≡ told.bytes = ap (λ (o : Option Digest). (unwrap_or o told).bytes) h in
    (refl, ap (λ (bs : List ℕ). let r : Result (List ℕ) FromHexError = Ok bs in r) same)
made_is true (Err e) told h = cc h
made_is false r told h = cc h

pub read_is_text : (text : List ℕ) (told : Digest) → digest_in text ≡ Some told →
    text ≡ hex_of told
read_is_text text told h =
    let parts = made_is (list_all is_lower_hex text) (decode_sized text 32) told h in
    let len = decode_sized-ok text 32 told.bytes parts.1 in
    let twice = decode_sized-twice text 32 len in
    let even = decode_of-even text (omega (arith, len)) in
    written_again 0 text told.bytes parts.0 (sym even ∙ (sym twice ∙ parts.1))

pub read_is_digest : (text : List ℕ) (told : Digest) → digest_in text ≡ Some told → IsDigest told
read_is_digest text told h =
    let parts = made_is (list_all is_lower_hex text) (decode_sized text 32) told h in
    let len = decode_sized-ok text 32 told.bytes parts.1 in
    let twice = decode_sized-twice text 32 len in
    let good = decode_of-ok text told.bytes (sym twice ∙ parts.1) in
    record { len = omega (arith, len, good.2); bytes = good.3 }
