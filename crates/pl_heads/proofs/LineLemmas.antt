-- Line feeds in bytes, and the lines behind the line ends at the front.
use Rattle.std.proofs.Common.{◌≡◌, ℕ, ◌+◌, ◌<◌, ◌≤◌, Bool, true, false, ◌⊎◌, inl, inr, List, []}
use Rattle.std.proofs.Common.{◌∷◌, ◌++◌, length, take, drop, refl, sym, ap, ◌∙◌, subst, arith}
use Rattle.std.proofs.Common.{append_assoc, if◌then◌else◌, ◌==◌, suc}
use Rattle.std.proofs.lemmas.List.Elements.{All-head, All-tail}
use Rattle.std.proofs.lemmas.Bool.{false≢true}
use Rattle.std.proofs.lemmas.Grind.{common_steps}
use Rattle.httparse.specs.Grammar.{AllPass}
use Rattle.httparse.specs.Pieces.{is_newline, Stops}
use Rattle.pl_heads.specs.Lines.{feeds, skip_newlines, lines_behind}

-- ---- line feeds

feeds_step :
    (t : Bool) (n m : ℕ) → (if t then (n + m) + 1 else (n + m)) ≡ (if t then n + 1 else n) + m
feeds_step true n m = omega arith
feeds_step false n m = refl

pub feeds-append : (a b : List ℕ) → feeds (a ++ b) ≡ feeds a + feeds b
feeds-append [] b = omega arith
feeds-append (x ∷ a) b =
    ap (λ (n : ℕ). if x == 10 then n + 1 else n) (feeds-append a b) ∙ feeds_step (x == 10) (feeds a)
    (feeds b)

-- bytes of a class without the line feed have none
none_in :
    (test : ℕ → Bool) (x n : ℕ) → test 10 ≡ false → test x ≡ true → n ≡ 0 →
    (if x == 10 then n + 1 else n) ≡ 0
none_in test x n none some e = grind (arith, common_steps)

pub feeds-AllPass : (test : ℕ → Bool) → test 10 ≡ false → (bytes : List ℕ) → AllPass test bytes →
    feeds bytes ≡ 0
feeds-AllPass test none [] all = refl
feeds-AllPass test none (x ∷ bytes) all =
    none_in test x (feeds bytes) none (All-head (λ v. test v ≡ true) x bytes all)
    (feeds-AllPass test none bytes (All-tail (λ v. test v ≡ true) x bytes all))

-- a line, which ends in its one line feed
pub record IsLine (line : List ℕ) : Type 0 where
  pub word : List ℕ
  pub line_is : line ≡ word ++ 10 ∷ []
  pub no_feed : feeds word ≡ 0

some_feed : (x n : ℕ) → (if x == 10 then n + 1 else n) ≡ 0 → (x ≡ 10 → ⊥) × (n ≡ 0)
some_feed x n e = grind (arith, common_steps)

pub feed_behind : (x n : ℕ) → (x ≡ 10 → ⊥) → (if x == 10 then n + 1 else n) ≡ n
feed_behind x n other = grind (arith, common_steps)

-- A text with a line feed that begins as a line does holds all of it.
pub line_first :
    (word rest text more : List ℕ) → feeds word ≡ 0 → word ++ 10 ∷ rest ≡ text ++ more →
    0 < feeds text
    → (t : List ℕ) × (text ≡ word ++ 10 ∷ t) × (rest ≡ t ++ more)
line_first word rest [] more none same some = absurd (omega arith)
line_first [] rest (y ∷ text) more none same some = (text, cc, cc)
line_first (x ∷ word) rest (y ∷ text) more none same some =
    let parts = some_feed x (feeds word) none in
    let head : x ≡ y = cc in
    let tail : word ++ 10 ∷ rest ≡ text ++ more = cc in
    let other : y ≡ 10 → ⊥ = λ e. parts.0 (head ∙ e) in
    let more_feeds : 0 < feeds text = subst (λ (n : ℕ). 0 < n) (feed_behind y (feeds text) other)
    some in
    let found = line_first word rest text more parts.1 tail more_feeds in
    (found.0, cc, found.2)

-- ---- line ends at the front

pub newline_step :
    (b : ℕ) (bytes : List ℕ) → is_newline b ≡ true → skip_newlines (b ∷ bytes) ≡ skip_newlines bytes
newline_step b bytes newline = rw newline

pub skip_newlines-Stops : (bytes : List ℕ) → Stops is_newline bytes → skip_newlines bytes ≡ bytes
skip_newlines-Stops [] stops = refl
skip_newlines-Stops (b ∷ bytes) stops = rw stops

-- bytes behind a front
pub skip_newlines-append : (a b : List ℕ) →
    ((skip_newlines a ≡ []) × (skip_newlines (a ++ b) ≡ skip_newlines b))
    ⊎ (skip_newlines (a ++ b) ≡ skip_newlines a ++ b)
skip_newlines-append [] b = inl (refl, refl)
skip_newlines-append (x ∷ a) b = go (is_newline x) (skip_newlines-append a b)
  where
    go :
        (t : Bool) →
        ((skip_newlines a ≡ []) × (skip_newlines (a ++ b) ≡ skip_newlines b)) ⊎
        (skip_newlines (a ++ b) ≡ skip_newlines a ++ b)
        → (((if t then skip_newlines a else x ∷ a) ≡ []) ×
        ((if t then skip_newlines (a ++ b) else x ∷ (a ++ b)) ≡ skip_newlines b))
        ⊎ ((if t then skip_newlines (a ++ b) else x ∷ (a ++ b)) ≡ (if t then skip_newlines a
        else x ∷ a) ++ b)
    go true both = both
    go false both = inr refl

-- more bytes have no fewer lines
pub lines_behind-append : (a b : List ℕ) → lines_behind a ≤ lines_behind (a ++ b)
lines_behind-append a b = go (skip_newlines-append a b)
  where
    go : ((skip_newlines a ≡ []) × (skip_newlines (a ++ b) ≡ skip_newlines b)) ⊎
        (skip_newlines (a ++ b) ≡ skip_newlines a ++ b)
        → lines_behind a ≤ lines_behind (a ++ b)
    go (inl none) = rw none.0 (omega arith)
    go (inr some) = rw some (omega (arith, feeds-append (skip_newlines a) b))

-- at most as many lines as line feeds
pub lines_behind-feeds : (xs : List ℕ) → lines_behind xs ≤ feeds xs
lines_behind-feeds [] = omega arith
lines_behind-feeds (x ∷ xs) = at (is_newline x) (lines_behind-feeds xs)
  where
    at : (t : Bool) → feeds (skip_newlines xs) ≤ feeds xs
        → feeds (if t then skip_newlines xs else x ∷ xs) ≤ (if x == 10 then feeds xs + 1
        else feeds xs)
    at true less = grind (arith, common_steps)
    at false less = omega arith

-- and at most as many more as they have line feeds
pub lines_behind-le : (a b : List ℕ) → lines_behind (a ++ b) ≤ lines_behind a + feeds b
lines_behind-le a b = go (skip_newlines-append a b)
  where
    go : ((skip_newlines a ≡ []) × (skip_newlines (a ++ b) ≡ skip_newlines b)) ⊎
        (skip_newlines (a ++ b) ≡ skip_newlines a ++ b)
        → lines_behind (a ++ b) ≤ lines_behind a + feeds b
    go (inl none) = rw (none.0, none.1) (omega (arith, lines_behind-feeds b))
    go (inr some) = rw some (omega (arith, feeds-append (skip_newlines a) b))
