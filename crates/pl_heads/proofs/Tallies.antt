-- A tally counts the lines of what was read.
use Rattle.std.proofs.Common.{suc, ◌≡◌, ℕ, ◌+◌, ◌<◌, ◌≤◌, ◌⊎◌, inl, inr, Bool, true, false, List}
use Rattle.std.proofs.Common.{[], ◌∷◌, ◌++◌, length, take, drop, refl, sym, ap, ◌∙◌, subst, arith}
use Rattle.std.proofs.Common.{append_assoc, append-nil, ◌==◌, if◌then◌else◌, get_or}
use Rattle.std.proofs.Math.Seq.{take-suc, take-take}
use Rattle.std.proofs.lemmas.List.{take-append-drop}
use Rattle.std.proofs.lemmas.Bool.{cases_lt}
use Rattle.std.proofs.lemmas.Grind.{common_steps}
use Rattle.httparse.specs.Pieces.{is_newline}
use Rattle.pl_heads.specs.declared.lines.Tally.{Tally}
use Rattle.pl_heads.specs.Lines.{feeds, skip_newlines, lines_behind, line_limit, IsCut}
use Rattle.pl_heads.specs.Tally.{is_begun, tally_of, after_byte}
use Rattle.pl_heads.proofs.LineLemmas.{feeds-append, lines_behind-append}

abbrev pub tally : Bool → ℕ → Tally
tally begun lines = record { begun = begun; lines = lines }

after_begun : (b n m : ℕ) → m ≡ n + feeds (b ∷ [])
    → tally true m ≡ after_byte (tally true n) b
after_begun b n m more = go (b == 10) (b == 13) more
  where
    go : (t u : Bool) → m ≡ n + (if t then 0 + 1 else 0)
        → tally true m ≡ (if t then tally true (n + 1) else if u then tally true n
        else tally true n)
    go true u more = ap (tally true) (omega arith)
    go false true more = ap (tally true) (omega arith)
    go false false more = ap (tally true) (omega arith)

tally_cons : (x : ℕ) (t : Bool) (xs : List ℕ) (b : ℕ) → is_newline x ≡ t
    → tally_of (xs ++ b ∷ []) ≡ after_byte (tally_of xs) b
    → tally_of ((x ∷ xs) ++ b ∷ []) ≡ after_byte (tally_of (x ∷ xs)) b
tally_cons x true xs b newline same = rw newline same
tally_cons x false xs b newline same =
    rw newline (after_begun b (feeds (x ∷ xs)) (feeds (x ∷ (xs ++ b ∷ [])))
    (feeds-append (x ∷ xs) (b ∷ [])))

tally_one :
    (b : ℕ) (t u : Bool) → (b == 10) ≡ t → (b == 13) ≡ u →
    tally_of (b ∷ []) ≡ after_byte (tally_of []) b
tally_one b true true feed return = rw (feed, return) refl
tally_one b true false feed return = rw (feed, return) refl
tally_one b false true feed return = rw (feed, return) refl
tally_one b false false feed return = rw (feed, return) (ap (tally true) (rw feed refl))

pub tally_step : (xs : List ℕ) (b : ℕ) → tally_of (xs ++ b ∷ []) ≡ after_byte (tally_of xs) b
tally_step [] b = tally_one b (b == 10) (b == 13) refl refl
tally_step (x ∷ xs) b = tally_cons x (is_newline x) xs b refl (tally_step xs b)

-- one byte more of the bytes
pub tally_more : (bytes : List ℕ) (at : ℕ) → at < length bytes
    → after_byte (tally_of (take at bytes)) (get_or bytes at 0) ≡ tally_of (take (at + 1) bytes)
tally_more bytes at within =
    let next : suc at ≡ at + 1 = omega arith in
    sym (tally_step (take at bytes) (get_or bytes at 0))
    ∙ ap tally_of (sym (take-suc bytes at 0 within) ∙ ap (λ (k : ℕ). take k bytes) next)

-- a shorter front has no more lines
lines_behind-take : (bytes : List ℕ) (k at : ℕ) → k ≤ at →
    lines_behind (take k bytes) ≤ lines_behind (take at bytes)
lines_behind-take bytes k at less =
    subst (λ (b : List ℕ). lines_behind (take k bytes) ≤ lines_behind b)
    (ap (λ (b : List ℕ). b ++ drop k (take at bytes)) (sym (take-take k at bytes less)) ∙
    take-append-drop k (take at bytes))
    (lines_behind-append (take k bytes) (drop k (take at bytes)))

pub is_cut :
    (bytes : List ℕ) (at : ℕ) → at < length bytes → lines_behind (take at bytes) < line_limit
    → lines_behind (take (at + 1) bytes) ≡ line_limit → IsCut bytes (at + 1)
is_cut bytes at within few enough = record {
  within = omega arith;
  enough = omega arith;
  first = λ k many. not_before k many;
}
  where
    not_before : (k : ℕ) → line_limit ≤ lines_behind (take k bytes) → at + 1 ≤ k
    not_before k many = by_order (cases_lt at k)
      where
        by_order : (at < k) ⊎ (k ≤ at) → at + 1 ≤ k
        by_order (inl more) = omega arith
        by_order (inr less) = absurd (omega (arith, lines_behind-take bytes k at less))

-- ---- a step of the count

pub counted_more :
    (bytes : List ℕ) (at : ℕ) (old new : Tally) → at < length bytes → old ≡ tally_of (take at bytes)
    → new ≡ after_byte old (get_or bytes at 0) → new ≡ tally_of (take (at + 1) bytes)
counted_more bytes at old new within counted step =
    step ∙ ap (λ (t : Tally). after_byte t (get_or bytes at 0)) counted ∙ tally_more bytes at within

pub cut_here :
    (bytes : List ℕ) (at : ℕ) (old new : Tally) → at < length bytes → old ≡ tally_of (take at bytes)
    → old.lines < line_limit → new ≡ after_byte old (get_or bytes at 0) → new.lines ≡ line_limit →
    IsCut bytes (at + 1)
cut_here bytes at old new within counted few step full =
    let before : old.lines ≡ lines_behind (take at bytes) = ap (λ (t : Tally). t.lines) counted in
    let behind : new.lines ≡ lines_behind (take (at + 1) bytes) =
    ap (λ (t : Tally). t.lines) (counted_more bytes at old new within counted step) in
    is_cut bytes at within (omega arith) (omega arith)

after_lines : (t : Tally) (b : ℕ) → (after_byte t b).lines ≤ t.lines + 1
after_lines t b = go (b == 10) (b == 13) t.begun
  where
    go :
        (f r s : Bool) → (if f then record { begun = s; lines = if s then t.lines + 1 else t.lines }
        else if r then t else tally true t.lines).lines ≤ t.lines + 1
    go true r true = omega arith
    go true r false = omega arith
    go false true s = omega arith
    go false false s = omega arith

pub few_more : (bytes : List ℕ) (at : ℕ) (old new : Tally) → old.lines < line_limit
    → new ≡ after_byte old (get_or bytes at 0) → ¬ (new.lines ≡ line_limit)
    → new.lines < line_limit
few_more bytes at old new few step other =
    let lines : new.lines ≡ (after_byte old (get_or bytes at 0)).lines =
    ap (λ (t : Tally). t.lines) step in
    omega (arith, after_lines old (get_or bytes at 0))
