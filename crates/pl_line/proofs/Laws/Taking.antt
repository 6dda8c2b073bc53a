-- Characters that are taken off one by one.
use Rattle.std.proofs.Common.{◌≡◌, ℕ, ◌+◌, ◌-◌, ◌≤◌, List, [], ◌∷◌, ◌++◌, Option, Some, None}
use Rattle.std.proofs.Common.{length, take, drop, sym, ap, subst, ◌∙◌, arith, length-append}
use Rattle.std.specs.Prelude.{MatchOption, chars, encode_utf8_all}
use Rattle.std.specs.Str.{IsUtf8, IsCharBoundary}
use Rattle.std.proofs.lemmas.Str.{encodes-chars, encodes-append, IsCharBoundary-at_seam}
use Rattle.std.proofs.lemmas.List.{take-append-drop, take-append-le, take_all, drop-take}
use Rattle.std.proofs.lemmas.List.{length-take}

-- what is left behind the first one
pub took :
    (first : Option ℕ) (old new : List ℕ) →
    MatchOption first ((old ≡ []) × (new ≡ [])) (λ c. old ≡ c ∷ new) → new ≡ drop 1 old
took None old new taken = taken.1 ∙ ap (drop 1) (sym taken.0)
took (Some c) old new taken = ap (drop 1) (sym taken)

-- those behind so many of so many
pub rest_of :
    (n all : ℕ) (cs rest : List ℕ) → n ≤ all → rest ≡ drop n cs →
    take (all - n) rest ≡ drop n (take all cs)
rest_of n all cs rest less is =
    let parts : n + (all - n) ≡ all = omega (arith, less) in
    ap (take (all - n)) is ∙ sym (drop-take n (all - n) cs) ∙ ap (λ k. drop n (take k cs)) parts

pub within_all : (n all : ℕ) (cs : List ℕ) → n ≤ length (take all cs) → n ≤ all
within_all n all cs less = omega (arith, less, length-take all cs)

-- the bytes of those before the ones that are left
module _ (text rest : List ℕ) (n : ℕ) (whole : IsUtf8 text) (part : IsUtf8 rest)
    (left : chars rest ≡ drop n (chars text)) where
  parts : text ≡ encode_utf8_all (take n (chars text)) ++ rest
  parts =
      sym (encodes-chars text whole)
      ∙ ap encode_utf8_all (sym (take-append-drop n (chars text)))
      ∙ encodes-append (take n (chars text)) (drop n (chars text))
      ∙ ap (λ r. encode_utf8_all (take n (chars text)) ++ r) (ap encode_utf8_all (sym left) ∙
      encodes-chars rest part)

  sizes : length text ≡ length (encode_utf8_all (take n (chars text))) + length rest
  sizes = ap length parts ∙ length-append (encode_utf8_all (take n (chars text))) rest

  pub bytes_fit : length rest ≤ length text
  bytes_fit = omega (arith, sizes)

  front_size : length (encode_utf8_all (take n (chars text))) ≡ length text - length rest
  front_size = omega (arith, sizes)

  pub bytes_end : IsCharBoundary text (length text - length rest)
  bytes_end = subst (IsCharBoundary text) front_size
      (IsCharBoundary-at_seam text (encode_utf8_all (take n (chars text))) rest parts part)

  pub bytes_are : take (length text - length rest) text ≡ encode_utf8_all (take n (chars text))
  bytes_are =
      ap (λ m. take m text) (sym front_size)
      ∙ ap (take (length (encode_utf8_all (take n (chars text))))) parts
      ∙ take-append-le (length (encode_utf8_all (take n (chars text))))
      (encode_utf8_all (take n (chars text))) rest (omega arith)
      ∙ take_all (length (encode_utf8_all (take n (chars text))))
      (encode_utf8_all (take n (chars text))) (omega arith)
