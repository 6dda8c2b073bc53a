-- Segments of a path, by its bytes.
use Rattle.std.proofs.Common.{◌≡◌, ℕ, Bool, true, false, not, List, [], ◌∷◌, refl, ap, sym}
use Rattle.std.proofs.Common.{◌∙◌, arith, ap₂, subst}
use Rattle.std.specs.Prelude.{◌==◌, ◌&&◌, ◌||◌, cond}
use Rattle.std.specs.List.{list_all, onto_first, slice_split}
use Rattle.std.proofs.lemmas.Bool.Decides.{nat_tests}
use Rattle.pl_names.specs.Bytes.{dot, ends_badly, goes_wrong, slash}
use Rattle.pl_names.specs.Names.{are_segments, is_segment}

abbrev parts : List ℕ → List (List ℕ)
parts bytes = slice_split (λ byte. byte == slash) bytes

-- the first segment passes a test of what is left of it, and the others are segments
abbrev from_here : (List ℕ → Bool) → List (List ℕ) → Bool
from_here test [] = test []
from_here test (part ∷ more) = test part && list_all is_segment more

-- ---- one byte more

both : (a b : Bool) → not (a || b) ≡ (not a && not b)
both true b = refl
both false b = refl

and_true : (b : Bool) → b ≡ (b && true)
and_true true = refl
and_true false = refl

longer : (test : List ℕ → Bool) (byte : ℕ) (some : List (List ℕ)) →
    from_here (λ part. test (byte ∷ part)) some ≡ from_here test (onto_first byte some)
longer test byte [] = and_true (test (byte ∷ []))
longer test byte (part ∷ more) = refl

-- there is a first segment
some : (bytes : List ℕ) → from_here is_segment (parts bytes) ≡ are_segments bytes
some [] = refl
some (byte ∷ bytes) = by (byte == slash) (parts bytes)
  where
    by : (b : Bool) (more : List (List ℕ)) →
        from_here is_segment (cond b ([] ∷ more) (onto_first byte more)) ≡
        list_all is_segment (cond b ([] ∷ more) (onto_first byte more))
    by true more = refl
    by false [] = refl
    by false (part ∷ more) = refl

module _ (test : List ℕ → Bool) (byte : ℕ) (bytes : List ℕ) (badly wrong : Bool) where
  at_slash : (byte == slash) ≡ true → not badly ≡ test [] →
      not wrong ≡ from_here is_segment (parts bytes) →
      not ((byte == slash && badly) || wrong) ≡ from_here test (parts (byte ∷ bytes))
  at_slash is here behind =
      ap (λ b. not ((b && badly) || wrong)) is ∙ both badly wrong
      ∙ ap₂ (λ a b. a && b) here (behind ∙ some bytes)
      ∙ sym (ap (λ b. from_here test (cond b ([] ∷ parts bytes) (onto_first byte (parts bytes))))
      is)

  inside : (byte == slash) ≡ false →
      not wrong ≡ from_here (λ part. test (byte ∷ part)) (parts bytes) →
      not ((byte == slash && badly) || wrong) ≡ from_here test (parts (byte ∷ bytes))
  inside is behind =
      ap (λ b. not ((b && badly) || wrong)) is ∙ behind ∙ longer test byte (parts bytes)
      ∙ sym (ap (λ b. from_here test (cond b ([] ∷ parts bytes) (onto_first byte (parts bytes))))
      is)

-- ---- what stands before

-- a segment with a byte that is none of `.` at its front, or with two dots and more
abbrev Apart : ℕ → ℕ → ℕ → Type 0
Apart third second first = ((first == slash) ≡ false) × ((first == dot && second == slash) ≡ false)
    × ((first == dot && (second == dot && third == slash)) ≡ false)

not_bad : (third second first : ℕ) → Apart third second first →
    ends_badly third second first ≡ false
not_bad third second first apart = grind (arith, nat_tests, apart.0, apart.1, apart.2)

further : (third second first byte : ℕ) → Apart third second first → (byte == slash) ≡ false →
    Apart second first byte
further third second first byte apart other = (
  other,
  grind (arith, nat_tests, apart.0, apart.1, apart.2),
  grind (arith, nat_tests, apart.0, apart.1, apart.2),
)

-- the answer of bytes by what stands before them: nothing, a dot, two dots, anything else
pub record Told (bytes : List ℕ) : Type 0 where
  pub nothing : (third second : ℕ) →
      not (goes_wrong third second slash bytes) ≡ from_here is_segment (parts bytes)
  pub one_dot : (third : ℕ) → not (goes_wrong third slash dot bytes) ≡
      from_here (λ part. is_segment (dot ∷ part)) (parts bytes)
  pub two_dots : not (goes_wrong slash dot dot bytes) ≡
      from_here (λ part. is_segment (dot ∷ dot ∷ part)) (parts bytes)
  pub other : (third second first : ℕ) → Apart third second first →
      not (goes_wrong third second first bytes) ≡ from_here (λ part. true) (parts bytes)

same : (byte other : ℕ) → (byte == other) ≡ true → byte ≡ other
same byte other is = grind (arith, nat_tests)

fresh : (third second first : ℕ) → (first == slash) ≡ false → (first == dot) ≡ false →
    Apart third second first
fresh third second first other at = (
  other,
  ap (λ b. b && second == slash) at,
  ap (λ b. b && (second == dot && third == slash)) at,
)

-- a test that all pass
all_pass : (test : List ℕ → Bool) → ((part : List ℕ) → test part ≡ true) →
    (more : List (List ℕ)) → from_here (λ part. true) more ≡ from_here test more
all_pass test passes [] = sym (passes [])
all_pass test passes (part ∷ more) = ap (λ b. b && list_all is_segment more) (sym (passes part))

strange : (byte : ℕ) (part : List ℕ) → (byte == dot) ≡ false → is_segment (byte ∷ part) ≡ true
strange byte part at = rw at refl

behind_dot : (byte : ℕ) (part : List ℕ) → (byte == dot) ≡ false →
    is_segment (dot ∷ byte ∷ part) ≡ true
behind_dot byte part at = rw at refl

module _ (byte : ℕ) (bytes : List ℕ) (behind : Told bytes) where
  at_end : (test : List ℕ → Bool) (third second first : ℕ) → (byte == slash) ≡ true →
      not (ends_badly third second first) ≡ test [] →
      not (goes_wrong third second first (byte ∷ bytes)) ≡ from_here test (parts (byte ∷ bytes))
  at_end test third second first is here =
      at_slash test byte bytes (ends_badly third second first)
      (goes_wrong second first byte bytes) is here
      (subst (λ (x : ℕ). not (goes_wrong second first x bytes) ≡
      from_here is_segment (parts bytes)) (sym (same byte slash is)) (behind.nothing second first))

  within : (test : List ℕ → Bool) (third second first : ℕ) → (byte == slash) ≡ false →
      not (goes_wrong second first byte bytes) ≡
      from_here (λ part. test (byte ∷ part)) (parts bytes) →
      not (goes_wrong third second first (byte ∷ bytes)) ≡ from_here test (parts (byte ∷ bytes))
  within test third second first is more =
      inside test byte bytes (ends_badly third second first)
      (goes_wrong second first byte bytes) is more

  nothing_by : (third second : ℕ) (a b : Bool) → (byte == slash) ≡ a → (byte == dot) ≡ b →
      not (goes_wrong third second slash (byte ∷ bytes)) ≡
      from_here is_segment (parts (byte ∷ bytes))
  nothing_by third second true b is at = at_end is_segment third second slash is refl
  nothing_by third second false true is at =
      within is_segment third second slash is
      (subst (λ (x : ℕ). not (goes_wrong second slash x bytes) ≡
      from_here (λ part. is_segment (x ∷ part)) (parts bytes)) (sym (same byte dot at))
      (behind.one_dot second))
  nothing_by third second false false is at =
      within is_segment third second slash is
      (behind.other second slash byte (fresh second slash byte is at)
      ∙ all_pass (λ part. is_segment (byte ∷ part)) (λ part. strange byte part at) (parts bytes))

  one_dot_by : (third : ℕ) (a b : Bool) → (byte == slash) ≡ a → (byte == dot) ≡ b →
      not (goes_wrong third slash dot (byte ∷ bytes)) ≡
      from_here (λ part. is_segment (dot ∷ part)) (parts (byte ∷ bytes))
  one_dot_by third true b is at =
      at_end (λ part. is_segment (dot ∷ part)) third slash dot is refl
  one_dot_by third false true is at =
      within (λ part. is_segment (dot ∷ part)) third slash dot is
      (subst (λ (x : ℕ). not (goes_wrong slash dot x bytes) ≡
      from_here (λ part. is_segment (dot ∷ x ∷ part)) (parts bytes)) (sym (same byte dot at))
      behind.two_dots)
  one_dot_by third false false is at =
      within (λ part. is_segment (dot ∷ part)) third slash dot is
      (behind.other slash dot byte (fresh slash dot byte is at)
      ∙ all_pass (λ part. is_segment (dot ∷ byte ∷ part)) (λ part. behind_dot byte part at)
      (parts bytes))

  two_dots_by : (a : Bool) → (byte == slash) ≡ a →
      not (goes_wrong slash dot dot (byte ∷ bytes)) ≡
      from_here (λ part. is_segment (dot ∷ dot ∷ part)) (parts (byte ∷ bytes))
  two_dots_by true is = at_end (λ part. is_segment (dot ∷ dot ∷ part)) slash dot dot is refl
  two_dots_by false is =
      within (λ part. is_segment (dot ∷ dot ∷ part)) slash dot dot is
      (behind.other dot dot byte (is, grind (arith, nat_tests), grind (arith, nat_tests))
      ∙ all_pass (λ part. is_segment (dot ∷ dot ∷ byte ∷ part)) (λ part. refl) (parts bytes))

  other_by : (third second first : ℕ) (a : Bool) → (byte == slash) ≡ a →
      Apart third second first →
      not (goes_wrong third second first (byte ∷ bytes)) ≡
      from_here (λ part. true) (parts (byte ∷ bytes))
  other_by third second first true is apart =
      at_end (λ part. true) third second first is
      (ap (λ b. not b) (not_bad third second first apart))
  other_by third second first false is apart =
      within (λ part. true) third second first is
      (behind.other second first byte (further third second first byte apart is))

  all_told : Told (byte ∷ bytes)
  all_told = record {
    nothing = λ third second. nothing_by third second (byte == slash) (byte == dot) refl refl;
    one_dot = λ third. one_dot_by third (byte == slash) (byte == dot) refl refl;
    two_dots = two_dots_by (byte == slash) refl;
    other = λ third second first apart. other_by third second first (byte == slash) refl apart;
  }

told : (bytes : List ℕ) → Told bytes
told [] = record {
  nothing = λ third second. refl;
  one_dot = λ third. refl;
  two_dots = refl;
  other = λ third second first apart. ap (λ b. not b) (not_bad third second first apart);
}
told (byte ∷ bytes) = all_told byte bytes (told bytes)

pub segments : (bytes : List ℕ) →
    not (goes_wrong slash slash slash bytes) ≡ are_segments bytes
segments bytes = (told bytes).nothing slash slash ∙ some bytes
