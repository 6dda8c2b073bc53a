-- Lines, their content and the parts between spaces, where bytes are cut.
use Rattle.std.proofs.Common.{◌≡◌, ℕ, zero, suc, ◌+◌, ◌<◌, false, List, [], ◌∷◌, ◌++◌}
use Rattle.std.proofs.Common.{length, take, drop, refl, ap, ◌∙◌, arith}
use Rattle.std.specs.Prelude.{◌==◌}
use Rattle.std.specs.List.{slice_split}
use Rattle.std.proofs.lemmas.List.{length-append}
use Rattle.std.proofs.lemmas.List.Splits.{slice_split_at, slice_split_none}
use Rattle.pl_bundle.specs.Bundles.{content, lines_of, is_space}
use Rattle.pl_bundle.specs.Cuts.{Lacks, IsFirst}

-- ---- no such byte

here : (mark byte : ℕ) (bytes : List ℕ) → Lacks mark (byte ∷ bytes) → (byte == mark) ≡ false
here mark byte bytes lacks = lacks 0 byte (omega arith)

later : (mark byte : ℕ) (bytes : List ℕ) → Lacks mark (byte ∷ bytes) → Lacks mark bytes
later mark byte bytes lacks k d within = lacks (suc k) d (omega (arith, within))

-- ---- lines

pub line_cut :
    (front back : List ℕ) → Lacks 10 front →
    lines_of (front ++ 10 ∷ back) ≡ (front ++ 10 ∷ []) ∷ lines_of back
line_cut [] back lacks = refl
line_cut (byte ∷ front) back lacks =
    rw (here 10 byte front lacks) (rw (line_cut front back (later 10 byte front lacks)) refl)

pub line_whole :
    (byte : ℕ) (bytes : List ℕ) → Lacks 10 (byte ∷ bytes) →
    lines_of (byte ∷ bytes) ≡ (byte ∷ bytes) ∷ []
line_whole byte [] lacks = rw (here 10 byte [] lacks) refl
line_whole byte (next ∷ bytes) lacks =
    rw (here 10 byte (next ∷ bytes) lacks)
    (rw (line_whole next bytes (later 10 byte (next ∷ bytes) lacks)) refl)

pub content_cut :
    (front back : List ℕ) → Lacks 10 front → content (front ++ 10 ∷ back) ≡ front
content_cut [] back lacks = refl
content_cut (byte ∷ front) back lacks =
    rw (here 10 byte front lacks) (rw (content_cut front back (later 10 byte front lacks)) refl)

pub content_whole : (bytes : List ℕ) → Lacks 10 bytes → content bytes ≡ bytes
content_whole [] lacks = refl
content_whole (byte ∷ bytes) lacks =
    rw (here 10 byte bytes lacks) (rw (content_whole bytes (later 10 byte bytes lacks)) refl)

-- ---- parts

pub parts_cut :
    (bytes front back : List ℕ) → IsFirst 32 bytes front back →
    slice_split is_space bytes ≡ front ∷ slice_split is_space back
parts_cut bytes front back cut =
    ap (slice_split is_space) cut.0 ∙ slice_split_at is_space front 32 back cut.1 refl

pub parts_whole : (bytes : List ℕ) → Lacks 32 bytes → slice_split is_space bytes ≡ bytes ∷ []
parts_whole bytes lacks = slice_split_none is_space bytes lacks

-- ---- where a line ends

pub taken : (front back : List ℕ) (n : ℕ) → n ≡ length front → take n (front ++ back) ≡ front
taken [] back n end = rw end refl
taken (byte ∷ front) back zero end = absurd (omega (arith, end))
taken (byte ∷ front) back (suc n) end =
    ap (λ front. byte ∷ front) (taken front back n (omega (arith, end)))

pub left : (front back : List ℕ) (n : ℕ) → n ≡ length front → drop n (front ++ back) ≡ back
left [] back n end = rw end refl
left (byte ∷ front) back zero end = absurd (omega (arith, end))
left (byte ∷ front) back (suc n) end = left front back n (omega (arith, end))

on : (front back : List ℕ) → front ++ 10 ∷ back ≡ (front ++ 10 ∷ []) ++ back
on [] back = refl
on (byte ∷ front) back = ap (λ bytes. byte ∷ bytes) (on front back)

one_more : (front : List ℕ) → length front + 1 ≡ length (front ++ 10 ∷ [])
one_more front = omega (arith, length-append front (10 ∷ []))

pub line_at :
    (bytes front back line rest : List ℕ) → IsFirst 10 bytes front back →
    line ≡ take (length front + 1) bytes → rest ≡ drop (length front + 1) bytes →
    lines_of bytes ≡ line ∷ lines_of rest
line_at bytes front back line rest cut line_is rest_is =
    let whole : bytes ≡ (front ++ 10 ∷ []) ++ back = cut.0 ∙ on front back in
    let first : line ≡ front ++ 10 ∷ [] =
    line_is ∙ (ap (take (length front + 1)) whole
    ∙ taken (front ++ 10 ∷ []) back (length front + 1) (one_more front)) in
    let behind : rest ≡ back =
    rest_is ∙ (ap (drop (length front + 1)) whole
    ∙ left (front ++ 10 ∷ []) back (length front + 1) (one_more front)) in
    rw first (rw behind (ap lines_of cut.0 ∙ line_cut front back cut.1))

pub none_behind : (bytes : List ℕ) → bytes ≡ bytes ++ []
none_behind [] = refl
none_behind (byte ∷ bytes) = ap (λ bytes. byte ∷ bytes) (none_behind bytes)

pub line_all :
    (bytes line rest : List ℕ) → 0 < length bytes → Lacks 10 bytes →
    line ≡ take (length bytes) bytes → rest ≡ drop (length bytes) bytes →
    lines_of bytes ≡ line ∷ lines_of rest
line_all [] line rest some lacks line_is rest_is = absurd (omega (arith, some))
line_all (byte ∷ bytes) line rest some lacks line_is rest_is =
    let all = byte ∷ bytes in
    let whole : line ≡ all =
    line_is ∙ (ap (take (length all)) (none_behind all) ∙ taken all [] (length all) refl) in
    let none : rest ≡ [] =
    rest_is ∙ (ap (drop (length all)) (none_behind all) ∙ left all [] (length all) refl) in
    rw whole (rw none (line_whole byte bytes lacks))
