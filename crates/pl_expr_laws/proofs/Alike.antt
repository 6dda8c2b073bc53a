-- Two texts that are the same up to a place and the byte there are read alike up to there, in the
-- second one however
-- deep a tree may get. So what fits no text at the place in the first one fits none there in the
-- second.
use Rattle.std.proofs.Common.{◌≡◌, ◌≢◌, ℕ, zero, suc, ◌<◌, ◌≤◌, ◌⊎◌, inl, inr, Bool, true, false}
use Rattle.std.proofs.Common.{cond, ◌==◌, Option, Some, None, ℤ, Ok, Err, List, [], ◌∷◌, ◌++◌}
use Rattle.std.proofs.Common.{length, drop, map, refl, ap, sym, subst, ◌∙◌, arith}
use Rattle.std.specs.List.{prefix_len}
use Rattle.std.specs.Char.{is_ascii_digit}
use Rattle.std.proofs.lemmas.List.{length-append, length-drop}
use Rattle.std.proofs.lemmas.Bool.{false≢true, ne_eqb}
use Rattle.std.proofs.lemmas.Bool.Decides.{nat_tests}
use Rattle.pl_reading.specs.Bytes.{begins_with, digits_of, number_of}
use Rattle.pl_reading.specs.Steps.{◌>>=◌}
use Rattle.pl_base.specs.declared.value.Value.{Str, Number, Version}
use Rattle.pl_expr.specs.declared.expr.Expr.{Expr}
use Rattle.pl_expr.specs.declared.expr.Expr.TheVariants.{Lit, Call}
use Rattle.pl_expr.specs.declared.expr.Function.{Function}
use Rattle.pl_expr.specs.declared.expr.Mode.{Mode}
use Rattle.pl_expr.specs.declared.fault.ExprCode.{ExprCode}
use Rattle.pl_expr.specs.declared.fault.ExprCode.TheVariants.{BadChar, UnclosedString}
use Rattle.pl_expr.specs.declared.fault.ExprCode.TheVariants.{UnknownFunction, BadCount, Fraction}
use Rattle.pl_expr.specs.declared.fault.ExprCode.TheVariants.{NumberRange}
use Rattle.pl_expr.specs.Numerals.{is_blank, skip, signed, goes_on, more_runs, behind_more, runs_of}
use Rattle.pl_expr.specs.Numerals.{segments_of}
use Rattle.pl_expr.specs.Functions.{most_of, may_follow, takes, named}
use Rattle.pl_expr.specs.Grammar.{Fault, Read, stop, is_name_byte, word_of, behind_word, unquoted}
use Rattle.pl_expr.specs.Grammar.{string_read, number_read, version_read, unsigned_at, signed_at}
use Rattle.pl_expr.specs.Grammar.{word_tree, behind_argument, arguments_at, call_at, called}
use Rattle.pl_expr.specs.Grammar.{word_at}
use Rattle.pl_expr.proofs.Spelled.{behind_cut}
use Rattle.pl_expr_laws.specs.Laws.{fits_no_text}
use Rattle.pl_expr_laws.proofs.Within.{Within, AllWithin, within_ok, within_bind, within_if}
use Rattle.pl_expr_laws.proofs.Within.{tells_nothing, number_within, version_within}
use Rattle.pl_expr_laws.proofs.Within.{unsigned_within, behind_within, arguments_within}
use Rattle.pl_expr_laws.proofs.Within.{call_within, called_within, word_within, Opens, opens_short}
use Rattle.pl_expr_laws.proofs.Numbers.{unsigned_by, unsigned_is, signed_by, signed_is}
use Rattle.pl_expr_laws.proofs.Places.{Place, one, two, begins_same, Skips, SkipsTo, skip_place}
use Rattle.pl_expr_laws.proofs.Places.{Unquotes, unclosed, same_quote, past_quote, unquoted_place}
use Rattle.pl_expr_laws.proofs.Places.{Runs, same_runs, past_runs, dot_runs, runs_place}

module _ (at : Place) where
  abbrev ours : List ℕ → List ℕ
  ours = one at

  abbrev theirs : List ℕ → List ℕ
  theirs = two at

  -- Both are read to one place before the byte; or the first one is read past it or has a fault
  -- that doesn't matter;
  -- or the second one has a fault.
  pub data Alike {A : Type 0} : Read A → Read A → Type 0 where
    same : (value : A) (front : List ℕ) → Alike (Ok (value, ours front)) (Ok (value, theirs front))
    past : (first second : Read A) → Within (length at.here) first → Alike first second
    failed : (first : Read A) (fault : Fault) → Alike first (Err fault)

  -- the same of a leaf or tail; it may also end where the next tail is read past the place
  pub data Nearly {A : Type 0} : Read A → Read A → Type 0 where
    alike : (first second : Read A) → Alike first second → Nearly first second
    opens :
        (value : A) (left : List ℕ) (second : Read A) → Opens (length at.here) left →
        Nearly (Ok (value, left)) second

  pub place : (test : ℕ → Bool) (front : List ℕ) → SkipsTo at test front
  place = skip_place at

  pub starts :
      (first : ℕ) (front : List ℕ) →
      begins_with first (ours front) ≡ begins_with first (theirs front)
  starts = begins_same at

  -- ---- steps

  pub alike_bind :
      {A B : Type 0} (first second : Read A) (next later : A × List ℕ → Read B) →
      Alike first second →
      ((value : A) (front : List ℕ) → first ≡ Ok (value, ours front) →
      Alike (next (value, ours front)) (later (value, theirs front))) →
      ((value : A) (left : List ℕ) → length left ≤ length at.here →
      Within (length at.here) (next (value, left))) →
      Alike (first >>= next) (second >>= later)
  alike_bind _ _ next later (same value front) goes ends = goes value front refl
  alike_bind _ _ next later (past first second within) goes ends = past (first >>= next) (second >>=
      later) (within_bind (length at.here) first next within ends)
  alike_bind _ _ next later (failed first fault) goes ends = failed (first >>= next) fault

  pub nearly_bind :
      {A B : Type 0} (first second : Read A) (next later : A × List ℕ → Read B) →
      Nearly first second →
      ((value : A) (front : List ℕ) → first ≡ Ok (value, ours front) →
      Alike (next (value, ours front)) (later (value, theirs front))) →
      ((value : A) (left : List ℕ) → Opens (length at.here) left →
      Within (length at.here) (next (value, left))) →
      Alike (first >>= next) (second >>= later)
  nearly_bind _ _ next later (alike first second is) goes ends = alike_bind first second next later
      is goes (λ value left short. ends value left (opens_short (length at.here) left short))
  nearly_bind _ _ next later (opens value left second open_left) goes ends =
      past (next (value, left)) (second >>= later) (ends value left open_left)

  pub alike_if :
      {A : Type 0} {first second third fourth : Read A} (test too : Bool) → test ≡ too →
      Alike first second → Alike third fourth →
      Alike (cond test first third) (cond too second fourth)
  alike_if true true e passes fails = passes
  alike_if false false e passes fails = fails
  alike_if true false e passes fails = absurd (false≢true (sym e))
  alike_if false true e passes fails = absurd (false≢true e)

  pub nearly_if :
      {A : Type 0} {first second third fourth : Read A} (test too : Bool) → test ≡ too →
      Nearly first second → Nearly third fourth →
      Nearly (cond test first third) (cond too second fourth)
  nearly_if true true e passes fails = passes
  nearly_if false false e passes fails = fails
  nearly_if true false e passes fails = absurd (false≢true (sym e))
  nearly_if false true e passes fails = absurd (false≢true e)

  -- a fault that doesn't matter
  pub refused :
      {A : Type 0} (code : ExprCode) (bytes : List ℕ) (second : Read A) →
      fits_no_text code ≡ false → Alike (stop code bytes) second
  refused code bytes second nothing = past (stop code bytes) second (tells_nothing (length bytes)
      (length at.here) code nothing)

  -- the byte that stands first is read
  pub dropped :
      {A : Type 0} (value : A) (front : List ℕ) →
      Alike (Ok (value, drop 1 (ours front))) (Ok (value, drop 1 (theirs front)))
  dropped value [] = past (Ok (value, at.here)) (Ok (value, at.there)) (omega arith)
  dropped value (x ∷ front) = same value front

  -- ---- literals

  pub string_alike :
      (first second : List ℕ) (front : List ℕ) →
      Alike (string_read first true (unquoted (ours front))) (string_read second true
      (unquoted (theirs front)))
  string_alike first second front = by (unquoted_place at front)
    where
      by :
          Unquotes at front →
          Alike (string_read first true (unquoted (ours front))) (string_read second true
          (unquoted (theirs front)))
      by (unclosed e) = rw e (refused UnclosedString first (string_read second true
          (unquoted (theirs front))) refl)
      by (same_quote text left e f) = rw (e, f) (same (Lit (Str text)) left)
      by (past_quote text left e short) = rw e (past (Ok (Lit (Str text), left)) (string_read second
          true (unquoted (theirs front))) short)

  number_alike :
      (first second left : List ℕ) (found : Option ℤ) →
      Alike (number_read first (ours left) found) (number_read second (theirs left) found)
  number_alike first second left None = refused NumberRange first (stop NumberRange second) refl
  number_alike first second left (Some number) = same (Lit (Number number)) left

  version_alike :
      (first second left : List ℕ) (found : Option (List ℕ)) →
      Alike (version_read first (ours left) found) (version_read second (theirs left) found)
  version_alike first second left None = refused NumberRange first (stop NumberRange second) refl
  version_alike first second left (Some segments) = same (Lit (Version segments)) left

  -- a dot at the place is read past by the next tail
  pub dot_opens : at.byte ≡ 46 → Opens (length at.here) (at.byte ∷ at.here)
  unfolding Opens
  dot_opens dot = rw dot (
    omega arith,
    (
      λ none. absurd (false≢true (sym none)),
      λ begins. omega
          arith,
    ),
  )

  number_opens :
      (first left : List ℕ) (second : Read Expr) (found : Option ℤ) → left ≡ at.byte ∷ at.here →
      at.byte ≡ 46 → Nearly (number_read first left found) second
  number_opens first left second None e dot = alike _ _ (refused NumberRange first second refl)
  number_opens first left second (Some number) e dot = opens (Lit (Number number)) left second
      (subst (Opens (length at.here)) (sym e) (dot_opens dot))

  version_opens :
      (first left : List ℕ) (second : Read Expr) (found : Option (List ℕ)) →
      left ≡ at.byte ∷ at.here → at.byte ≡ 46 → Nearly (version_read first left found) second
  version_opens first left second None e dot = alike _ _ (refused NumberRange first second refl)
  version_opens first left second (Some segments) e dot = opens (Lit (Version segments)) left second
      (subst (Opens (length at.here)) (sym e) (dot_opens dot))

  -- a run alone leaves what stands behind it
  run_alone :
      (count : ℕ) (bytes : List ℕ) → length (more_runs count bytes) ≡ 0 →
      behind_more count bytes ≡ bytes
  unfolding more_runs behind_more
  run_alone zero bytes none = refl
  run_alone (suc count) bytes none = by (goes_on bytes) refl none
    where
      by :
          (b : Bool) → goes_on bytes ≡ b →
          length (cond b (digits_of (drop 1 bytes) ∷ more_runs count (skip is_ascii_digit
          (drop 1 bytes))) []) ≡ 0 →
          cond b (behind_more count (skip is_ascii_digit (drop 1 bytes))) bytes ≡ bytes
      by true goes none = absurd (omega (arith, none))
      by false stops none = refl

  unsigned_alike :
      (first second : List ℕ) (runs : List (List ℕ)) (digits left more : List ℕ) →
      Alike (unsigned_by first runs digits (ours left) (ours more)) (unsigned_by second runs digits
      (theirs left) (theirs more))
  unfolding unsigned_by
  unsigned_alike first second runs digits left more =
      alike_if (length runs == 1) (length runs == 1) refl (number_alike first second left _)
      (alike_if (length runs == 2) (length runs == 2) refl (refused Fraction first
      (stop Fraction second) refl) (version_alike first second more _))

  -- more runs than one, read past the place
  unsigned_past :
      (first : List ℕ) (runs : List (List ℕ)) (digits rest behind : List ℕ) → length runs ≢ 1 →
      length behind ≤ length at.here →
      Within (length at.here) (unsigned_by first runs digits rest behind)
  unfolding unsigned_by
  unsigned_past first runs digits rest behind many short =
      rw (ne_eqb _ _ many) (within_if (length at.here) (length runs == 2) _ _ (λ two. tells_nothing
      _ (length at.here) Fraction refl) (λ other. version_within (length at.here) first behind _
      short))

  -- runs up to a dot at the place
  unsigned_opens :
      (first : List ℕ) (second : Read Expr) (runs : List (List ℕ)) (digits rest behind : List ℕ) →
      (length runs ≡ 1 → rest ≡ at.byte ∷ at.here) → behind ≡ at.byte ∷ at.here → at.byte ≡ 46 →
      Nearly (unsigned_by first runs digits rest behind) second
  unfolding unsigned_by
  unsigned_opens first second runs digits rest behind alone left dot = by (length runs == 1)
      (length runs == 2) refl
    where
      by :
          (single double : Bool) → (length runs == 1) ≡ single →
          Nearly (cond single (number_read first rest (signed false (number_of digits)))
          (cond double (stop Fraction first) (version_read first behind
          (segments_of (map number_of runs))))) second
      by true double e = number_opens first rest second _ (alone (grind (arith, nat_tests))) dot
      by false true e = alike _ _ (refused Fraction first second refl)
      by false false e = version_opens first behind second _ left dot

  pub unsigned_nearly :
      (front : List ℕ) → Nearly (unsigned_at (ours front)) (unsigned_at (theirs front))
  unsigned_nearly front = by (place is_ascii_digit front)
    where
      runs :
          (left : List ℕ) → Skips at is_ascii_digit front left → Runs at 3 left →
          Nearly (unsigned_at (ours front)) (unsigned_at (theirs front))
      runs left skips (same_runs more e f g) =
          let all : runs_of (ours front) ≡ runs_of (theirs front) =
          ap (λ xs. digits_of (ours front) ∷ more_runs 3 xs) skips.first ∙
          (ap (λ xs. digits_of (ours front) ∷ xs) e ∙ (ap (λ xs. xs ∷ more_runs 3 (theirs left))
          skips.taken ∙ ap (λ xs. digits_of (theirs front) ∷ more_runs 3 xs)
          (sym skips.second))) in
          alike _ _ (rw (
            unsigned_is (ours front) (runs_of (theirs front))
                (digits_of (theirs front)) (ours left) (ours more) all skips.taken skips.first
                (ap (behind_more 3) skips.first ∙ f),
            unsigned_is (theirs front)
                (runs_of (theirs front)) (digits_of (theirs front)) (theirs left) (theirs more) refl
                refl skips.second (ap (behind_more 3) skips.second ∙ g),
          ) (unsigned_alike (ours front)
          (theirs front) (runs_of (theirs front)) (digits_of (theirs front)) left more))
      runs left skips (past_runs short) =
          let many : length (runs_of (ours front)) ≢ 1 = λ e. omega (
            arith,
            short,
            ap length
                (run_alone 3 (ours left) (omega (
                  arith,
                  e,
                  ap (λ xs. length (more_runs 3 xs))
                      skips.first,
                ))),
            length-append left (at.byte ∷ at.here),
          ) in
          alike _ _ (past _ _ (rw (unsigned_is (ours front) (runs_of (ours front))
          (digits_of (ours front)) (ours left) (behind_more 3 (ours left)) refl refl skips.first
          (ap (behind_more 3) skips.first)) (unsigned_past (ours front) (runs_of (ours front))
          (digits_of (ours front)) (ours left) (behind_more 3 (ours left)) many short)))
      runs left skips (dot_runs e dot) =
          let alone : length (runs_of (ours front)) ≡ 1 → ours left ≡ at.byte ∷ at.here =
          λ single. sym (run_alone 3 (ours left)
          (omega (arith, single, ap (λ xs. length (more_runs 3 xs)) skips.first))) ∙ e in
          rw (unsigned_is (ours front) (runs_of (ours front)) (digits_of (ours front)) (ours left)
          (behind_more 3 (ours left)) refl refl skips.first (ap (behind_more 3) skips.first))
          (unsigned_opens (ours front) (unsigned_at (theirs front)) (runs_of (ours front))
          (digits_of (ours front)) (ours left) (behind_more 3 (ours left)) alone e dot)

      by :
          SkipsTo at is_ascii_digit front →
          Nearly (unsigned_at (ours front)) (unsigned_at (theirs front))
      by (inl skips) = runs skips.0 skips.1 (runs_place at 3 skips.0)
      by (inr past_it) = alike _ _ (past _ _ (unsigned_within (length at.here) (ours front)
          past_it))

  pub signed_alike :
      (first second front : List ℕ) →
      Alike (signed_at first (ours front)) (signed_at second (theirs front))
  unfolding signed_by
  signed_alike first second front = by (place is_ascii_digit front)
    where
      fractions :
          (mine yours : Bool) (left : List ℕ) (found : Option ℤ) →
          Alike (cond mine (stop Fraction first) (number_read first (ours left) found))
          (cond yours (stop Fraction second) (number_read second (theirs left) found))
      fractions true yours left found = refused Fraction first _ refl
      fractions false true left found = failed _ (Fraction, length second)
      fractions false false left found = number_alike first second left found

      both :
          (mine yours : Bool) (count : ℕ) (digits left : List ℕ) →
          Alike (signed_by first (ours front) mine count digits (ours left)) (signed_by second
          (theirs front) yours count digits (theirs left))
      both mine yours count digits left = alike_if (count == 0) (count == 0) refl
          (failed _ (BadChar, length (theirs front))) (fractions mine yours left _)

      by :
          SkipsTo at is_ascii_digit front →
          Alike (signed_at first (ours front)) (signed_at second (theirs front))
      by (inl skips) =
          rw (
            signed_is first (ours front) (prefix_len is_ascii_digit (theirs front))
                (digits_of (theirs front)) (ours skips.0) skips.1.count skips.1.taken skips.1.first,
            signed_is second (theirs front) (prefix_len is_ascii_digit (theirs front))
                (digits_of (theirs front)) (theirs skips.0) refl refl skips.1.second,
          )
          (both (length (runs_of (ours front)) == 2) (length (runs_of (theirs front)) == 2)
          (prefix_len is_ascii_digit (theirs front)) (digits_of (theirs front)) skips.0)
      by (inr past_it) =
          let some : prefix_len is_ascii_digit (ours front) ≢ 0 = λ none. omega (
            arith,
            past_it,
            ap
                (λ n. length (drop n (ours front))) none,
            length-append front (at.byte ∷ at.here),
          ) in
          past _ _ (rw (signed_is first (ours front) (prefix_len is_ascii_digit (ours front))
          (digits_of (ours front)) (skip is_ascii_digit (ours front)) refl refl refl)
          (signed_past (length (runs_of (ours front)) == 2) (prefix_len is_ascii_digit
          (ours front)) some (signed true (number_of (digits_of (ours front))))))
        where
          signed_past :
              (two : Bool) (count : ℕ) → count ≢ 0 → (found : Option ℤ) →
              Within (length at.here) (cond (count == 0) (stop {A = Expr × List ℕ} BadChar
              (ours front)) (cond two (stop Fraction first) (number_read first
              (skip is_ascii_digit (ours front)) found)))
          signed_past two count some found = rw (ne_eqb _ _ some) (within_if (length at.here) two _
              _ (λ double. tells_nothing _ (length at.here) Fraction refl) (λ other. number_within
              (length at.here) first (skip is_ascii_digit (ours front)) found past_it))

  -- ---- readers of what stands inside

  -- two readers that read alike, the first of which reads forward
  pub record Inner (inner deeper : List ℕ → Read Expr) : Type 0 where
    pub within : AllWithin inner
    pub reads : (front : List ℕ) → Alike (inner (ours front)) (deeper (theirs front))

  behind_alike :
      (function : Function) (count : ℕ) (front : List ℕ) →
      Alike (behind_argument function count (ours front)) (behind_argument function count
      (theirs front))
  unfolding behind_argument
  behind_alike function count front =
      alike_if (begins_with 44 (ours front)) (begins_with 44 (theirs front)) (starts 44 front)
      (alike_if (may_follow (most_of function) count) (may_follow (most_of function) count) refl
      (dropped true front) (refused BadCount (ours front) _ refl))
      (alike_if (begins_with 41 (ours front)) (begins_with 41 (theirs front)) (starts 41 front)
      (alike_if (takes function count) (takes function count) refl (dropped false front)
      (refused BadCount (ours front) _ refl)) (failed _ (BadChar, length (theirs front))))

  arguments_alike :
      (inner deeper : List ℕ → Read Expr) → Inner inner deeper →
      (function : Function) (turns others : ℕ) (read : List Expr) (front : List ℕ) →
      length (ours front) ≤ turns →
      Alike (arguments_at inner function turns read (ours front)) (arguments_at deeper function
      others read (theirs front))
  unfolding arguments_at AllWithin
  arguments_alike inner deeper both function zero others read front room =
      absurd (omega (arith, room, length-append front (at.byte ∷ at.here)))
  arguments_alike inner deeper both function (suc turns) zero read front room =
      failed _ (BadChar, length (theirs front))
  arguments_alike inner deeper both function (suc turns) (suc others) read front room =
      alike_bind (inner (ours front)) (deeper (theirs front)) _ _ (both.reads front)
      (λ argument left e. alike_bind (behind_argument function (length (read ++ argument ∷ []))
      (ours left)) (behind_argument function (length (read ++ argument ∷ [])) (theirs left)) _ _
      (behind_alike function (length (read ++ argument ∷ [])) left) (λ more next f. further
      argument left more next e f (arguments_alike inner deeper both function turns others))
      (λ more next short. within_if (length at.here) more _ _ (λ another. arguments_within inner
      both.within (length at.here) function turns (read ++ argument ∷ []) next short)
      (λ last. short))) (λ argument left short. within_bind (length at.here) (behind_argument
      function (length (read ++ argument ∷ [])) left) _ (behind_within (length at.here) function
      (length (read ++ argument ∷ [])) left short) (λ more next short. within_if
      (length at.here) more _ _ (λ another. arguments_within inner both.within (length at.here)
      function turns (read ++ argument ∷ []) next short) (λ last. short)))
    where
      further :
          (argument : Expr) (left : List ℕ) (more : Bool) (next : List ℕ) →
          inner (ours front) ≡ Ok (argument, ours left) →
          behind_argument function (length (read ++ argument ∷ [])) (ours left) ≡ Ok
          (more, ours next) →
          ((read : List Expr) (front : List ℕ) → length (ours front) ≤ turns →
          Alike (arguments_at inner function turns read (ours front)) (arguments_at deeper
          function others read (theirs front))) →
          Alike (cond more (arguments_at inner function turns (read ++ argument ∷ []) (ours next))
          (Ok (read ++ argument ∷ [], ours next))) (cond more (arguments_at deeper function
          others (read ++ argument ∷ []) (theirs next)) (Ok (
            read ++ argument ∷ [],
            theirs
                next,
          )))
      further argument left false next e f others = same (read ++ argument ∷ []) next
      further argument left true next e f others = others (read ++ argument ∷ []) next
          (omega (
            arith,
            room,
            within_ok (length (ours front)) (inner (ours front)) argument
                (ours left) (both.within (length (ours front)) (ours front) (omega arith)) e,
            shorter
                (behind_cut function (length (read ++ argument ∷ [])) (ours left) true (ours next)
                f),
          ))
        where
          shorter :
              ((true ≡ true) × (ours left ≡ 44 ∷ ours next)) ⊎ ((true ≡ false) ×
              ((ours left ≡ 41 ∷ ours next) ×
              (takes function (length (read ++ argument ∷ [])) ≡ true))) →
              length (ours next) < length (ours left)
          shorter (inl parts) = omega (arith, ap length parts.1)
          shorter (inr parts) = absurd (false≢true (sym parts.0))

  call_alike :
      (inner deeper : List ℕ → Read Expr) → Inner inner deeper →
      (function : Function) (front : List ℕ) →
      Alike (call_at inner function (ours front)) (call_at deeper function (theirs front))
  unfolding call_at
  call_alike inner deeper both function front =
      alike_if (begins_with 41 (ours front)) (begins_with 41 (theirs front)) (starts 41 front)
      (alike_if (takes function 0) (takes function 0) refl (dropped (Call function []) front)
      (refused BadCount (ours front) _ refl)) (alike_bind (arguments_at inner function
      (length (ours front)) [] (ours front)) (arguments_at deeper function
      (length (theirs front)) [] (theirs front)) _ _ (arguments_alike inner deeper both function
      (length (ours front)) (length (theirs front)) [] front (omega arith)) (λ read left e. same
      (Call function read) left) (λ read left short. short))

  called_alike :
      (inner deeper : List ℕ → Read Expr) → Inner inner deeper →
      (first second front : List ℕ) (found : Option Function) →
      Alike (called inner first true (drop 1 (ours front)) found) (called deeper second true
      (drop 1 (theirs front)) found)
  called_alike inner deeper both first second front None = refused UnknownFunction first
      (stop UnknownFunction second) refl
  called_alike inner deeper both first second [] (Some function) =
      past _ _ (call_within inner both.within (length at.here) function at.here (omega arith))
  called_alike inner deeper both first second (x ∷ front) (Some function) = call_alike inner deeper
      both function front

  -- blanks that go past the place are read past by the next tail
  pub blanks_open :
      (left : List ℕ) → length (skip is_blank (ours left)) ≤ length at.here →
      Opens (length at.here) (ours left)
  unfolding Opens
  blanks_open left short = (
    omega (arith, short, length-drop 1 (skip is_blank (ours left))),
    (λ ends. short, λ dot. dotted left dot short),
  )
    where
      dotted :
          (left : List ℕ) → begins_with 46 (ours left) ≡ true →
          length (skip is_blank (ours left)) ≤ length at.here →
          length (drop 1 (ours left)) ≤ length at.here
      dotted [] dot short = omega arith
      dotted (x ∷ left) dot short =
          let is : x ≡ 46 = grind (arith, nat_tests) in
          let stays : skip is_blank (x ∷ ours left) ≡ x ∷ ours left = rw is refl in
          absurd (omega (arith, short, ap length stays, length-append left (at.byte ∷ at.here)))

  pub word_nearly :
      (mode : Mode) (inner deeper : List ℕ → Read Expr) → Inner inner deeper → (front : List ℕ) →
      Nearly (word_at mode true inner (ours front)) (word_at mode true deeper (theirs front))
  unfolding word_at
  word_nearly mode inner deeper both front = by (place is_name_byte front)
    where
      inside :
          (left : List ℕ) → Skips at is_name_byte front left → SkipsTo at is_blank left →
          Nearly (word_at mode true inner (ours front)) (word_at mode true deeper (theirs front))
      inside left skips (inl blanks) =
          alike _ _ (rw (skips.first, skips.second, blanks.1.first, blanks.1.second, skips.taken)
          (alike_if (begins_with 40 (ours blanks.0)) (begins_with 40 (theirs blanks.0))
          (starts 40 blanks.0) (called_alike inner deeper both (ours front) (theirs front)
          blanks.0 (named mode (word_of (theirs front))))
          (same (word_tree (word_of (theirs front))) left)))
      inside left skips (inr short) =
          called_or (begins_with 40 (skip is_blank (behind_word (ours front))))
        where
          within : length (skip is_blank (behind_word (ours front))) ≤ length at.here
          within = omega (arith, short, ap (λ xs. length (skip is_blank xs)) skips.first)

          called_or :
              (b : Bool) →
              Nearly (cond b (called inner (ours front) true
              (drop 1 (skip is_blank (behind_word (ours front))))
              (named mode (word_of (ours front)))) (Ok (
                word_tree (word_of (ours front)),
                behind_word (ours front),
              ))) (word_at mode true deeper (theirs front))
          called_or true = alike _ _ (past _ _ (called_within inner both.within (length at.here)
              (ours front) true (drop 1 (skip is_blank (behind_word (ours front)))) _
              (omega (arith, within, length-drop 1 (skip is_blank (behind_word (ours front)))))))
          called_or false = opens (word_tree (word_of (ours front))) (behind_word (ours front)) _
              (subst (Opens (length at.here)) (sym skips.first) (blanks_open left short))

      by :
          SkipsTo at is_name_byte front →
          Nearly (word_at mode true inner (ours front)) (word_at mode true deeper (theirs front))
      by (inl skips) = inside skips.0 skips.1 (place is_blank skips.0)
      by (inr past_it) = alike _ _ (past _ _ (word_within mode true inner both.within
          (length at.here) (ours front) past_it))
