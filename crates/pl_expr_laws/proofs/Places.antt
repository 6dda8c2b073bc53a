-- Bytes that are the same up to a place and the byte there, and go on in one way here and in
-- another one there.
use Rattle.std.proofs.Common.{◌≡◌, ℕ, zero, suc, ◌+◌, ◌≤◌, ◌⊎◌, inl, inr, Bool, true, false, ◌&&◌}
use Rattle.std.proofs.Common.{◌==◌, Option, Some, None, List, [], ◌∷◌, ◌++◌, length, drop, take}
use Rattle.std.proofs.Common.{refl, ap, sym, ◌∙◌, arith}
use Rattle.std.specs.List.{prefix_len, take_while}
use Rattle.std.specs.Char.{is_ascii_digit}
use Rattle.std.proofs.lemmas.List.{length-append}
use Rattle.std.proofs.lemmas.Bool.Decides.{nat_tests}
use Rattle.pl_reading.specs.Bytes.{begins_with, digits_of}
use Rattle.pl_expr.specs.Numerals.{skip, goes_on, more_runs, behind_more}
use Rattle.pl_expr.specs.Grammar.{is_name_byte, is_word, word_of, behind_word, unquoted, with_byte}
use Rattle.pl_expr.specs.Grammar.{names_at}
use Rattle.pl_expr.proofs.Bytes.{more_runs_stops, behind_more_stops}
use Rattle.pl_expr.proofs.Quotes.{unquoted_plain, unquoted_end, unquoted_double}
use Rattle.pl_expr.proofs.Reading.{names_stop}
use Rattle.pl_expr_laws.proofs.Within.{skip_short, behind_more_short, names_short, unquoted_short}

-- ---- one more byte

skip_one :
    (test : ℕ → Bool) (x : ℕ) (bytes : List ℕ) → test x ≡ true →
    (skip test (x ∷ bytes) ≡ skip test bytes) × (take_while test (x ∷ bytes) ≡ x ∷ take_while test
    bytes)
skip_one test x bytes goes =
    let long : prefix_len test (x ∷ bytes) ≡ suc (prefix_len test bytes) = rw goes (omega arith) in
    (ap (λ n. drop n (x ∷ bytes)) long, ap (λ n. take n (x ∷ bytes)) long)

runs_turn :
    (count : ℕ) (bytes : List ℕ) → goes_on bytes ≡ true →
    (more_runs (suc count) bytes ≡ digits_of (drop 1 bytes) ∷ more_runs count (skip is_ascii_digit
    (drop 1 bytes))) × (behind_more (suc count) bytes ≡ behind_more count (skip is_ascii_digit
    (drop 1 bytes)))
unfolding more_runs behind_more
runs_turn count bytes goes = (rw goes refl, rw goes refl)

names_turn :
    (turns : ℕ) (read : List (List ℕ)) (bytes : List ℕ) →
    (begins_with 46 bytes && is_word (drop 1 bytes)) ≡ true →
    names_at (suc turns) read bytes ≡ names_at turns (read ++ word_of (drop 1 bytes) ∷ [])
    (behind_word (drop 1 bytes))
unfolding names_at
names_turn turns read bytes goes = rw goes refl

is_quote : (x : ℕ) → (x == 39) ≡ true → x ≡ 39
is_quote x e = grind (arith, nat_tests)

-- a byte, and what stands behind it here and there
pub record Place : Type 0 where
  pub byte : ℕ
  pub here : List ℕ
  pub there : List ℕ

module _ (at : Place) where
  abbrev pub one : List ℕ → List ℕ
  one front = front ++ at.byte ∷ at.here

  abbrev pub two : List ℕ → List ℕ
  two front = front ++ at.byte ∷ at.there

  -- ---- first bytes

  pub begins_same :
      (first : ℕ) (front : List ℕ) → begins_with first (one front) ≡ begins_with first (two front)
  begins_same first [] = refl
  begins_same first (x ∷ front) = refl

  pub word_same : (front : List ℕ) → is_word (one front) ≡ is_word (two front)
  word_same [] = refl
  word_same (x ∷ front) = refl

  goes_same :
      (front : List ℕ) →
      (goes_on (one front) ≡ goes_on (two front)) ⊎ ((length front ≡ 0) × (at.byte ≡ 46))
  goes_same [] = by (at.byte == 46) refl
    where
      stops : (bytes : List ℕ) → (at.byte == 46) ≡ false → goes_on (at.byte ∷ bytes) ≡ false
      stops [] none = refl
      stops (x ∷ bytes) none = rw none refl

      by :
          (b : Bool) → (at.byte == 46) ≡ b →
          (goes_on (at.byte ∷ at.here) ≡ goes_on (at.byte ∷ at.there)) ⊎ ((◌≡◌ {A = ℕ} 0 0) ×
          (at.byte ≡ 46))
      by true dot = inr (refl, grind (arith, nat_tests))
      by false none = inl (stops at.here none ∙ sym (stops at.there none))
  goes_same (x ∷ []) = inl refl
  goes_same (x ∷ z ∷ front) = inl refl

  -- ---- runs of bytes that pass a test

  -- a run that ends at the place or before it
  pub record Skips (test : ℕ → Bool) (front left : List ℕ) : Type 0 where
    pub first : skip test (one front) ≡ one left
    pub second : skip test (two front) ≡ two left
    pub count : prefix_len test (one front) ≡ prefix_len test (two front)
    pub taken : take_while test (one front) ≡ take_while test (two front)
    pub short : length left ≤ length front

  -- it does, or goes past the place
  abbrev pub SkipsTo : (ℕ → Bool) → List ℕ → Type 0
  SkipsTo test front = ((left : List ℕ) × Skips test front left) ⊎
      (length (skip test (one front)) ≤ length at.here)

  pub skip_place : (test : ℕ → Bool) (front : List ℕ) → SkipsTo test front
  skip_place test [] = by (test at.byte) refl
    where
      by : (b : Bool) → test at.byte ≡ b → SkipsTo test []
      by false ends = inl (
        [],
        record {
          first = rw ends refl;
          second = rw ends refl;
          count =
              rw ends refl;
          taken = rw ends refl;
          short = omega arith;
        },
      )
      by true goes = inr (omega (
        arith,
        ap length (skip_one test at.byte at.here goes).0,
        skip_short
            test at.here,
      ))
  skip_place test (x ∷ front) = by (test x) refl (skip_place test front)
    where
      by : (b : Bool) → test x ≡ b → SkipsTo test front → SkipsTo test (x ∷ front)
      by false ends others = inl (
        x ∷ front,
        record {
          first = rw ends refl;
          second = rw ends refl;
          count = rw ends refl;
          taken = rw ends refl;
          short = omega arith;
        },
      )
      by true goes (inl skips) =
          let ours = skip_one test x (one front) goes in
          let theirs = skip_one test x (two front) goes in
          inl (
            skips.0,
            record {
              first = ours.0 ∙ skips.1.first;
              second = theirs.0 ∙ skips.1.second;
              count = rw goes (ap (λ n. 1 + n) skips.1.count);
              taken = ours.1 ∙
                  (ap (λ xs. x ∷ xs) skips.1.taken ∙ sym theirs.1);
              short =
                  omega (arith, skips.1.short);
            },
          )
      by true goes (inr past) = inr (omega (
        arith,
        ap length (skip_one test x (one front) goes).0,
        past,
      ))

  -- ---- strings

  -- a string without its end here; one that ends before the place; one that ends at it or behind it
  pub data Unquotes (front : List ℕ) : Type 0 where
    unclosed : unquoted (one front) ≡ None → Unquotes front
    same_quote :
        (text left : List ℕ) → unquoted (one front) ≡ Some (text, one left) →
        unquoted (two front) ≡ Some (text, two left) → Unquotes front
    past_quote :
        (text left : List ℕ) → unquoted (one front) ≡ Some (text, left) →
        length left ≤ length at.here → Unquotes front

  longer :
      (x : ℕ) (front shorter : List ℕ) →
      unquoted (one front) ≡ with_byte x (unquoted (one shorter)) →
      unquoted (two front) ≡ with_byte x (unquoted (two shorter)) → Unquotes shorter →
      Unquotes front
  longer x front shorter ours theirs (unclosed e) = unclosed (ours ∙ ap (with_byte x) e)
  longer x front shorter ours theirs (same_quote text left e f) = same_quote (x ∷ text) left (ours ∙
      ap (with_byte x) e) (theirs ∙ ap (with_byte x) f)
  longer x front shorter ours theirs (past_quote text left e short) = past_quote (x ∷ text) left
      (ours ∙ ap (with_byte x) e) short

  plain_place : (x : ℕ) (front : List ℕ) → (x == 39) ≡ false → Unquotes front → Unquotes (x ∷ front)
  plain_place x front plain others = longer x (x ∷ front) front (unquoted_plain x (one front) plain)
      (unquoted_plain x (two front) plain) others

  ended_place :
      (x : ℕ) (front : List ℕ) → (x == 39) ≡ true → begins_with 39 (one front) ≡ false →
      Unquotes (x ∷ front)
  ended_place x front quote ends =
      same_quote [] front (ap (λ b. unquoted (b ∷ one front)) (is_quote x quote) ∙ unquoted_end
      (one front) ends) (ap (λ b. unquoted (b ∷ two front)) (is_quote x quote) ∙ unquoted_end
      (two front) (sym (begins_same 39 front) ∙ ends))

  pub unquoted_place : (front : List ℕ) → Unquotes front
  unquoted_place [] = by (unquoted (at.byte ∷ at.here)) refl
    where
      by : (found : Option (List ℕ × List ℕ)) → unquoted (at.byte ∷ at.here) ≡ found → Unquotes []
      by None e = unclosed e
      by (Some read) e = past_quote read.0 read.1 e
          (omega (arith, unquoted_short (at.byte ∷ at.here) read.0 read.1 e))
  unquoted_place (x ∷ []) = by (unquoted_place []) (x == 39) (at.byte == 39) (unquoted at.here) refl
      refl refl
    where
      by :
          Unquotes [] → (quote again : Bool) (found : Option (List ℕ × List ℕ)) →
          (x == 39) ≡ quote → (at.byte == 39) ≡ again → unquoted at.here ≡ found → Unquotes (x ∷ [])
      by others false again found plain e f = plain_place x [] plain others
      by others true false found quote ends f = ended_place x [] quote ends
      by others true true None quote again f = unclosed (ap (λ b. unquoted (b ∷ at.byte ∷ at.here))
          (is_quote x quote) ∙ (unquoted_double (at.byte ∷ at.here) again ∙ ap (with_byte 39) f))
      by others true true (Some read) quote again f = past_quote (39 ∷ read.0) read.1
          (ap (λ b. unquoted (b ∷ at.byte ∷ at.here)) (is_quote x quote) ∙
          (unquoted_double (at.byte ∷ at.here) again ∙ ap (with_byte 39) f))
          (omega (arith, unquoted_short at.here read.0 read.1 f))
  unquoted_place (x ∷ z ∷ front) = by (unquoted_place (z ∷ front)) (unquoted_place front) (x == 39)
      (z == 39) refl refl
    where
      by :
          Unquotes (z ∷ front) → Unquotes front → (quote again : Bool) → (x == 39) ≡ quote →
          (z == 39) ≡ again → Unquotes (x ∷ z ∷ front)
      by next others false again plain e = plain_place x (z ∷ front) plain next
      by next others true false quote ends = ended_place x (z ∷ front) quote ends
      by next others true true quote again =
          longer 39 (x ∷ z ∷ front) front (ap (λ b. unquoted (b ∷ z ∷ one front))
          (is_quote x quote) ∙ unquoted_double (z ∷ one front) again)
          (ap (λ b. unquoted (b ∷ z ∷ two front)) (is_quote x quote) ∙ unquoted_double
          (z ∷ two front) again) others

  -- ---- runs of digits

  -- The runs end before the place, or at a dot there that may begin one more; or go past it.
  pub data Runs (count : ℕ) (front : List ℕ) : Type 0 where
    same_runs :
        (left : List ℕ) → more_runs count (one front) ≡ more_runs count (two front) →
        behind_more count (one front) ≡ one left → behind_more count (two front) ≡ two left →
        Runs count front
    past_runs : length (behind_more count (one front)) ≤ length at.here → Runs count front
    dot_runs : behind_more count (one front) ≡ at.byte ∷ at.here → at.byte ≡ 46 → Runs count front

  one_run :
      (count : ℕ) (x : ℕ) (front : List ℕ) → goes_on (one (x ∷ front)) ≡ true →
      goes_on (two (x ∷ front)) ≡ true → ((left : List ℕ) → Runs count left) →
      SkipsTo is_ascii_digit front → Runs (suc count) (x ∷ front)
  one_run count x front goes too others (inr past) =
      past_runs (omega (
        arith,
        ap length (runs_turn count (one (x ∷ front)) goes).1,
        behind_more_short count (skip is_ascii_digit (one front)),
        past,
      ))
  one_run count x front goes too others (inl skips) = by (others skips.0)
    where
      ours :
          (more_runs (suc count) (one (x ∷ front)) ≡ digits_of (one front) ∷ more_runs count
          (one skips.0)) × (behind_more (suc count) (one (x ∷ front)) ≡ behind_more count
          (one skips.0))
      ours =
          let turn = runs_turn count (one (x ∷ front)) goes in (
            turn.0 ∙ ap (λ xs. digits_of (one front) ∷ more_runs count xs) skips.1.first,
            turn.1 ∙
                ap (behind_more count) skips.1.first,
          )

      theirs :
          (more_runs (suc count) (two (x ∷ front)) ≡ digits_of (two front) ∷ more_runs count
          (two skips.0)) × (behind_more (suc count) (two (x ∷ front)) ≡ behind_more count
          (two skips.0))
      theirs =
          let turn = runs_turn count (two (x ∷ front)) too in (
            turn.0 ∙ ap (λ xs. digits_of (two front) ∷ more_runs count xs) skips.1.second,
            turn.1 ∙
                ap (behind_more count) skips.1.second,
          )

      by : Runs count skips.0 → Runs (suc count) (x ∷ front)
      by (same_runs left e f g) = same_runs left (ours.0 ∙ (ap (λ xs. digits_of (one front) ∷ xs)
          e ∙ (ap (λ xs. xs ∷ more_runs count (two skips.0)) skips.1.taken ∙ sym theirs.0)))
          (ours.1 ∙ f) (theirs.1 ∙ g)
      by (past_runs short) = past_runs (omega (arith, ap length ours.1, short))
      by (dot_runs e dot) = dot_runs (ours.1 ∙ e) dot

  past_dot : (count : ℕ) → goes_on (at.byte ∷ at.here) ≡ true → Runs (suc count) []
  past_dot count goes = past_runs (omega (
    arith,
    ap length (runs_turn count (at.byte ∷ at.here)
        goes).1,
    behind_more_short count (skip is_ascii_digit at.here),
    skip_short is_ascii_digit
        at.here,
  ))

  pub runs_place : (count : ℕ) (front : List ℕ) → Runs count front
  unfolding more_runs behind_more
  runs_place zero front = same_runs front refl refl refl
  runs_place (suc count) [] = by (goes_on (at.byte ∷ at.here)) refl (goes_same [])
    where
      by :
          (b : Bool) → goes_on (at.byte ∷ at.here) ≡ b →
          (goes_on (at.byte ∷ at.here) ≡ goes_on (at.byte ∷ at.there)) ⊎ ((◌≡◌ {A = ℕ} 0 0) ×
          (at.byte ≡ 46)) →
          Runs (suc count) []
      by true goes same = past_dot count goes
      by false stops (inl same) =
          let too = sym same ∙ stops in
          same_runs [] (more_runs_stops (suc count) (at.byte ∷ at.here) stops ∙
          sym (more_runs_stops (suc count) (at.byte ∷ at.there) too)) (behind_more_stops
          (suc count) (at.byte ∷ at.here) stops) (behind_more_stops (suc count)
          (at.byte ∷ at.there) too)
      by false stops (inr dot) = dot_runs (behind_more_stops (suc count) (at.byte ∷ at.here) stops)
          dot.1
  runs_place (suc count) (x ∷ front) = by (runs_place count) (goes_on (one (x ∷ front))) refl
      (goes_same (x ∷ front))
    where
      by :
          ((left : List ℕ) → Runs count left) → (b : Bool) → goes_on (one (x ∷ front)) ≡ b →
          (goes_on (one (x ∷ front)) ≡ goes_on (two (x ∷ front))) ⊎ ((length (x ∷ front) ≡ 0) ×
          (at.byte ≡ 46)) →
          Runs (suc count) (x ∷ front)
      by others b e (inr empty) = absurd (omega (arith, empty.0))
      by others true goes (inl same) = one_run count x front goes (sym same ∙ goes) others
          (skip_place is_ascii_digit front)
      by others false stops (inl same) =
          let too = sym same ∙ stops in
          same_runs (x ∷ front) (more_runs_stops (suc count) (one (x ∷ front)) stops ∙
          sym (more_runs_stops (suc count) (two (x ∷ front)) too)) (behind_more_stops
          (suc count) (one (x ∷ front)) stops) (behind_more_stops (suc count) (two (x ∷ front))
          too)

  -- ---- the names of a projection

  -- They end before the place, or at a dot there that may begin one more; or go past it.
  pub data Names (ours theirs : List (List ℕ) × List ℕ) : Type 0 where
    same_names :
        (names : List (List ℕ)) (left : List ℕ) → ours ≡ (names, one left) →
        theirs ≡ (names, two left) → Names ours theirs
    past_names : length ours.1 ≤ length at.here → Names ours theirs
    dot_names : ours.1 ≡ at.byte ∷ at.here → at.byte ≡ 46 → Names ours theirs

  pub names_place :
      (turns others : ℕ) (read : List (List ℕ)) (front : List ℕ) → length (one front) ≤ turns →
      length (two front) ≤ others →
      Names (names_at turns read (one front)) (names_at others read (two front))
  names_place zero others read front room too = absurd (omega (
    arith,
    room,
    length-append front
        (at.byte ∷ at.here),
  ))
  names_place (suc turns) zero read front room too = absurd (omega (
    arith,
    too,
    length-append front
        (at.byte ∷ at.there),
  ))
  names_place (suc turns) (suc others) read [] room too = by (at.byte == 46) (is_word at.here) refl
      refl
    where
      by :
          (dot word : Bool) → (at.byte == 46) ≡ dot → is_word at.here ≡ word →
          Names (names_at (suc turns) read (at.byte ∷ at.here)) (names_at (suc others) read
          (at.byte ∷ at.there))
      by false word none e = same_names read [] (names_stop (suc turns) read (at.byte ∷ at.here)
          (rw none refl)) (names_stop (suc others) read (at.byte ∷ at.there) (rw none refl))
      by true false dot stray = dot_names (ap (λ (found : List (List ℕ) × List ℕ). found.1)
          (names_stop (suc turns) read (at.byte ∷ at.here) (rw (dot, stray) refl)))
          (grind (arith, nat_tests))
      by true true dot word =
          past_names (omega (
            arith,
            ap (λ (found : List (List ℕ) × List ℕ). length found.1)
                (names_turn turns read (at.byte ∷ at.here) (rw (dot, word) refl)),
            names_short turns
                (read ++ word_of at.here ∷ []) (behind_word at.here),
            skip_short is_name_byte
                at.here,
          ))
  names_place (suc turns) (suc others) read (x ∷ front) room too = by (names_place turns others)
      (x == 46) (is_word (one front)) refl refl (skip_place is_name_byte front)
    where
      by :
          ((read : List (List ℕ)) (front : List ℕ) → length (one front) ≤ turns →
          length (two front) ≤ others → Names (names_at turns read (one front)) (names_at others
          read (two front))) →
          (dot word : Bool) → (x == 46) ≡ dot → is_word (one front) ≡ word →
          SkipsTo is_name_byte front →
          Names (names_at (suc turns) read (x ∷ one front)) (names_at (suc others) read
          (x ∷ two front))
      by next false word none e skips = same_names read (x ∷ front) (names_stop (suc turns) read
          (x ∷ one front) (rw none refl)) (names_stop (suc others) read (x ∷ two front)
          (rw none refl))
      by next true false dot stray skips = same_names read (x ∷ front) (names_stop (suc turns) read
          (x ∷ one front) (rw (dot, stray) refl)) (names_stop (suc others) read (x ∷ two front)
          (rw (dot, sym (word_same front) ∙ stray) refl))
      by next true true dot word (inr past) =
          past_names (omega (
            arith,
            ap (λ (found : List (List ℕ) × List ℕ). length found.1)
                (names_turn turns read (x ∷ one front) (rw (dot, word) refl)),
            names_short turns
                (read ++ word_of (one front) ∷ []) (behind_word (one front)),
            past,
          ))
      by next true true dot word (inl skips) = step (next (read ++ word_of (one front) ∷ []) skips.0
          (omega (
            arith,
            room,
            skips.1.short,
            length-append front (at.byte ∷ at.here),
            length-append
                skips.0 (at.byte ∷ at.here),
          )) (omega (
            arith,
            too,
            skips.1.short,
            length-append front
                (at.byte ∷ at.there),
            length-append skips.0 (at.byte ∷ at.there),
          )))
        where
          ours :
              names_at (suc turns) read (x ∷ one front) ≡ names_at turns (read ++ word_of
              (one front) ∷ []) (one skips.0)
          ours = names_turn turns read (x ∷ one front) (rw (dot, word) refl) ∙
              ap (names_at turns (read ++ word_of (one front) ∷ [])) skips.1.first

          theirs :
              names_at (suc others) read (x ∷ two front) ≡ names_at others (read ++ word_of
              (one front) ∷ []) (two skips.0)
          theirs = names_turn others read (x ∷ two front) (rw (dot, sym (word_same front) ∙ word)
              refl) ∙ (ap (names_at others (read ++ word_of (two front) ∷ [])) skips.1.second ∙
              ap (λ word. names_at others (read ++ word ∷ []) (two skips.0)) (sym skips.1.taken))

          step :
              Names (names_at turns (read ++ word_of (one front) ∷ []) (one skips.0))
              (names_at others (read ++ word_of (one front) ∷ []) (two skips.0)) →
              Names (names_at (suc turns) read (x ∷ one front)) (names_at (suc others) read
              (x ∷ two front))
          step (same_names names left e f) = same_names names left (ours ∙ e) (theirs ∙ f)
          step (past_names short) =
              past_names (omega (
                arith,
                ap (λ (found : List (List ℕ) × List ℕ). length found.1)
                    ours,
                short,
              ))
          step (dot_names e dot) = dot_names (ap (λ (found : List (List ℕ) × List ℕ). found.1)
              ours ∙ e) dot
