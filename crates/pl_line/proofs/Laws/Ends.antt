-- The blanks at a text's end.
use Rattle.std.proofs.Common.{◌≡◌, ℕ, suc, ◌+◌, ◌-◌, ◌<◌, ◌≤◌, Bool, true, false, ◌&&◌, cond, List}
use Rattle.std.proofs.Common.{[], ◌∷◌, ◌++◌, Option, Some, None, length, take, refl, sym, ap, ◌∙◌}
use Rattle.std.proofs.Common.{inl, inr, arith}
use Rattle.std.specs.Prelude.{◌==◌, slice_get, encode_utf8_all}
use Rattle.std.specs.Char.{encode_utf8}
use Rattle.std.specs.List.{last_or}
use Rattle.std.proofs.lemmas.Bool.{cases_Bool}
use Rattle.std.proofs.lemmas.Bool.Decides.{nat_tests}
use Rattle.std.proofs.lemmas.Str.{encode_ascii}
use Rattle.std.proofs.lemmas.List.{take_all, take-take, length-take}
use Rattle.pl_reading.specs.Bytes.{is_blank}
use Rattle.pl_line.specs.Scanning.{content_len, ends_with_blank}

-- the last item stands at the last place
last_or-read : (x : ℕ) (xs : List ℕ) → last_or (Some x) xs ≡ slice_get (x ∷ xs) (length xs)
last_or-read x [] = refl
last_or-read x (y ∷ ys) = last_or-read y ys

pub last_or-slice_get : (xs : List ℕ) → last_or None xs ≡ slice_get xs (length xs - 1)
last_or-slice_get [] = refl
last_or-slice_get (x ∷ xs) =
    let at : length xs ≡ length (x ∷ xs) - 1 = omega arith in last_or-read x xs ∙
    ap (slice_get (x ∷ xs)) at

last_or-append : (o : Option ℕ) (xs ys : List ℕ) → last_or o (xs ++ ys) ≡ last_or (last_or o xs) ys
last_or-append o [] ys = refl
last_or-append o (x ∷ xs) ys = last_or-append (Some x) xs ys

blank_byte : (c : ℕ) → is_blank c ≡ true → c < 128
blank_byte c blank = grind (arith, nat_tests, blank)

-- a blank is one byte
blank_ends :
    (o : Option ℕ) (c : ℕ) (cs : List ℕ) → ends_with_blank (last_or (Some c) cs) ≡ true →
    ends_with_blank (last_or o (encode_utf8_all (c ∷ cs))) ≡ true
blank_ends o c [] blank =
    ap (λ e. ends_with_blank (last_or o (e ++ []))) (encode_ascii c (blank_byte c blank)) ∙ blank
blank_ends o c (d ∷ ds) blank =
    ap ends_with_blank (last_or-append o (encode_utf8 c) (encode_utf8_all (d ∷ ds))) ∙
    blank_ends (last_or o (encode_utf8 c)) d ds blank

one_more : (blank : Bool) (n m : ℕ) → n ≡ suc m → cond (blank && n == 0) 0 (1 + n) ≡ suc n
one_more true n m is = grind (arith, nat_tests, is)
one_more false n m is = omega arith

all_content :
    (c : ℕ) (cs : List ℕ) → ends_with_blank (last_or (Some c) cs) ≡ false →
    content_len (c ∷ cs) ≡ length (c ∷ cs)
all_content c [] other = ap (λ b. cond (b && true) 0 1) other
all_content c (d ∷ ds) other =
    let rest : content_len (d ∷ ds) ≡ suc (length ds) = all_content d ds other in
    one_more (is_blank c) (content_len (d ∷ ds)) (length ds) rest ∙ ap suc rest

other_end :
    (c : ℕ) (cs : List ℕ) → ends_with_blank (last_or None (encode_utf8_all (c ∷ cs))) ≡ false →
    ends_with_blank (last_or (Some c) cs) ≡ false
other_end c cs other =
    elim (cases_Bool (ends_with_blank (last_or (Some c) cs))) [
      | inl blank ↦ let both : true ≡ false = sym (blank_ends None c cs blank) ∙ other in
          grind (arith, both)
      | inr none ↦ none
    ]

content_size :
    (cs : List ℕ) → ends_with_blank (last_or None (encode_utf8_all cs)) ≡ false →
    length cs ≡ content_len cs
content_size [] other = refl
content_size (c ∷ cs) other = sym (all_content c cs (other_end c cs other))

content_len_le : (cs : List ℕ) → content_len cs ≤ length cs
content_len_le [] = omega arith
content_len_le (c ∷ cs) =
    let rest : content_len cs ≤ length cs = content_len_le cs in
    elim (is_blank c && content_len cs == 0) as (λ b. cond b 0 (1 + content_len cs) ≤ length
    (c ∷ cs)) [ true ↦ omega arith | false ↦ omega arith ]

-- a front whose last byte is no blank is all content
pub content_all :
    (cs bytes : List ℕ) (n : ℕ) (front : List ℕ) → front ≡ take n cs →
    bytes ≡ encode_utf8_all front → ends_with_blank (last_or None bytes) ≡ false
    → bytes ≡ encode_utf8_all (take (content_len (take n cs)) cs)
content_all cs bytes n front cut is other =
    let size : length (take n cs) ≡ content_len (take n cs) =
    content_size (take n cs) (ap (λ b. ends_with_blank (last_or None b))
    (sym (is ∙ ap encode_utf8_all cut)) ∙ other) in
    let few : content_len (take n cs) ≤ n = omega (
      arith,
      content_len_le (take n cs),
      length-take n cs,
    ) in
    is
    ∙ ap encode_utf8_all cut
    ∙ ap encode_utf8_all (sym (ap (λ k. take k (take n cs)) (sym size) ∙
    take_all (length (take n cs)) (take n cs) (omega arith)))
    ∙ ap encode_utf8_all (take-take (content_len (take n cs)) n cs few)
