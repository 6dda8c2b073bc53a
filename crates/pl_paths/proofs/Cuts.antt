-- The last such byte of a text.
use Rattle.std.proofs.Common.{inl, inr, ◌≡◌, ◌≢◌, ℕ, suc, ◌<◌, true, false, Some, None, List, []}
use Rattle.std.proofs.Common.{◌∷◌}
use Rattle.std.proofs.Common.{◌++◌, length, get_or, take, drop, refl, ap, sym, ◌∙◌, arith}
use Rattle.std.specs.Prelude.{◌==◌}
use Rattle.std.specs.Str.Pattern.{RFindsChar, SplitsAroundMatch}
use Rattle.std.proofs.lemmas.Bool.Decides.{nat_tests}
use Rattle.std.proofs.lemmas.Str.Pattern.{NoCharPasses-char, drop_at_char}
use Rattle.std.proofs.lemmas.List.{take-append-drop}
use Rattle.std.proofs.lemmas.Bool.{cases_Bool}
use Rattle.pl_paths.specs.Paths.{last_cut, is_absolute, parent}

other : (byte mark : ℕ) → byte ≢ mark → (byte == mark) ≡ false
other byte mark differs = grind (arith, nat_tests)

same : (mark : ℕ) → (mark == mark) ≡ true
same mark = grind (arith, nat_tests)

cut_nowhere :
    (mark : ℕ) (text : List ℕ) →
    ((at : ℕ) → at < length text → get_or text at 0 ≢ mark) →
    last_cut mark text ≡ None
cut_nowhere mark [] none = refl
cut_nowhere mark (byte ∷ text) none =
    rw (cut_nowhere mark text (λ at within. none (suc at) (omega (arith, within))))
    (rw (other byte mark (none 0 (omega arith))) refl)

cut_behind :
    (mark : ℕ) (front back : List ℕ) →
    ((at : ℕ) → at < length back → get_or back at 0 ≢ mark) →
    last_cut mark (front ++ mark ∷ back) ≡ Some (front, back)
cut_behind mark [] back none = rw (cut_nowhere mark back none) (rw (same mark) refl)
cut_behind mark (byte ∷ front) back none = rw (cut_behind mark front back none) refl

-- what `rsplit_once` says, for a mark of ASCII
pub cut_none :
    (mark : ℕ) (text : List ℕ) → mark < 128 → RFindsChar mark text None → last_cut mark text ≡ None
cut_none mark text small none =
    cut_nowhere mark text (λ at within. NoCharPasses-char mark text at none small within)

pub cut_some :
    (mark : ℕ) (text front back : List ℕ) → mark < 128 →
    SplitsAroundMatch (RFindsChar mark) text front back →
    last_cut mark text ≡ Some (front, back)
cut_some mark text front back small
    (at, until, finds, front_is, back_is, ordered, front_length, back_length) =
    let whole : text ≡ take at text ++ (mark ∷ drop until text) =
    sym (take-append-drop at text)
    ∙ ap (λ rest. take at text ++ rest) (drop_at_char mark text at until finds.1 small) in
    ap (last_cut mark) whole
    ∙ (cut_behind mark (take at text) (drop until text)
    (λ i within. NoCharPasses-char mark (drop until text) i finds.0 small within)
    ∙ (ap (λ front. Some (front, drop until text)) (sym front_is)
    ∙ ap (λ back. Some (front, back)) (sym back_is)))

-- ---- a `/` in front

equal : (byte : ℕ) → (byte == 47) ≡ true → byte ≡ 47
equal byte here = grind (arith, nat_tests)

pub relative : (path : List ℕ) → ((rest : List ℕ) → path ≢ 47 ∷ rest) → is_absolute path ≡ false
relative [] none = refl
relative (byte ∷ path) none =
    elim (cases_Bool (byte == 47)) [
      | inl here ↦ absurd (none path (ap (λ byte. byte ∷ path) (equal byte here)))
      | inr other ↦ other
    ]

pub absolute : (path rest : List ℕ) → path ≡ 47 ∷ rest → is_absolute path ≡ true
absolute path rest whole = ap is_absolute whole

-- ---- all segments but the last

without_last : (front : List (List ℕ)) (last : List ℕ) → parent (front ++ last ∷ []) ≡ Some front
without_last [] last = refl
without_last (first ∷ []) last = refl
without_last (first ∷ second ∷ front) last = rw (without_last (second ∷ front) last) refl

pub parent_is :
    (segments front : List (List ℕ)) (last : List ℕ) → segments ≡ front ++ last ∷ [] →
    Some front ≡ parent segments
parent_is segments front last whole = sym (ap parent whole ∙ without_last front last)
