-- What is read is spelled so by the rules of the grammar.
use Rattle.std.proofs.Common.{◌≡◌, ◌≢◌, ℕ, zero, suc, ◌+◌, ◌<◌, ◌≤◌, ◌⊎◌, inl, inr, Bool, true}
use Rattle.std.proofs.Common.{false, codes, cond, nat_eq, nat_le, nat_lt, ◌&&◌, ◌||◌, ◌==◌, Option}
use Rattle.std.proofs.Common.{Some, None, Result, Ok, Err, List, [], ◌∷◌, ◌++◌, length, drop, take}
use Rattle.std.proofs.Common.{map, ℤ, refl, ap, sym, subst, ◌∙◌, append_assoc, rules, arith}
use Rattle.std.specs.List.{prefix_len, join_with_byte, concat}
use Rattle.std.specs.Char.{is_ascii_digit}
use Rattle.std.specs.Cmp.Lexicographic.{pointwise}
use Rattle.std.proofs.lemmas.List.{append-nil, take-append-drop, length-drop}
use Rattle.std.proofs.lemmas.List.Folds.{length-prefix_len}
use Rattle.std.proofs.lemmas.Bool.{and_parts, false≢true, eqb-false}
use Rattle.std.proofs.lemmas.Bool.Decides.{nat_tests}
use Rattle.pl_base.specs.Folding.{folded}
use Rattle.pl_base.specs.declared.value.Value.{Value, Bool as Truth, Number, Version, Str}
use Rattle.pl_expr.specs.declared.expr.Expr.{Expr, the_lemmas}
use Rattle.pl_expr.specs.declared.expr.Expr.TheVariants.{Lit, Root, Index, Project, Call}
use Rattle.pl_expr.specs.declared.expr.Function.{Function}
use Rattle.pl_expr.specs.declared.expr.Mode.{Mode}
use Rattle.pl_expr.specs.declared.fault.ExprCode.TheVariants.{Fraction, BadChar, BadCount, Trailing}
use Rattle.pl_expr.specs.declared.scan.Front.{Front}
use Rattle.pl_expr.specs.declared.scan.Front.TheVariants as front
use Rattle.pl_expr.specs.Numerals.{is_blank, skip, signed, goes_on, more_runs, behind_more, runs_of}
use Rattle.pl_expr.specs.Numerals.{behind_runs, segments_of}
use Rattle.pl_reading.specs.Bytes.{digits_of, number_of, begins_with}
use Rattle.pl_expr.specs.Trees.{depth_of, is_projection, quoted, dotted}
use Rattle.pl_expr.specs.Functions.{most_of, takes, may_follow, named}
use Rattle.pl_expr.specs.Grammar.{Fault, Read, stop, begins_name, is_name_byte, is_word, word_of}
use Rattle.pl_expr.specs.Grammar.{behind_word, unquoted, with_byte, string_read, number_read}
use Rattle.pl_expr.specs.Grammar.{version_read, unsigned_at, signed_at, number_at, word_tree}
use Rattle.pl_expr.specs.Grammar.{behind_argument, arguments_at, call_at, called, word_at, front_of}
use Rattle.pl_expr.specs.Grammar.{primary_by, primary_at, names_at, index_at, member_at, tail_at}
use Rattle.pl_expr.specs.Grammar.{begins_tail, deep_fault, tails_at, expression_at, text_at}
use Rattle.pl_expr.specs.Grammar.{text_whole, parses}
use Rattle.pl_reading.specs.Steps.{◌>>=◌}
use Rattle.pl_expr.specs.Given.{IsName, AreNames}
use Rattle.pl_expr.specs.Spelling.{AreBlanks, AreDigits, AreRuns, IsApart, IsLiteralText, IsText}
use Rattle.pl_expr.specs.Spelling.{IsExpression, IsPrimary, AreArguments}
use Rattle.pl_expr.specs.Spelling as rule
use Rattle.pl_expr.proofs.Quotes.{unquoted_plain, unquoted_end, unquoted_double}
use Rattle.pl_expr.proofs.Sound.{bind_ok, chosen, same_first, done, all_front, word_is}
use Rattle.pl_expr.proofs.Sound.{more_runs_few, front_is_word, primary_none, read_whole, placed_ok}
use Rattle.pl_expr.proofs.Reading.{tail_dot}

same_second :
    {A B : Type 0} (read : Result (A × B) Fault) (x y : A) (xs ys : B) → read ≡ Ok (x, xs) →
    read ≡ Ok (y, ys) → xs ≡ ys
same_second {A} {B} read x y xs ys first second =
    let p : A × B = (x, xs) in
    let q : A × B = (y, ys) in
    let e : p ≡ q = cc in
    ap (λ (r : A × B). r.1) e

-- the bytes are a spelling and what was left
pub Took : (List ℕ → Type 0) → List ℕ → List ℕ → Type 0
Took IsSpelling bytes rest = (taken : List ℕ) × ((bytes ≡ taken ++ rest) × IsSpelling taken)

digits_cut :
    (test : ℕ → Bool) (bytes : List ℕ) →
    bytes ≡ take (prefix_len test bytes) bytes ++ skip test bytes
digits_cut test bytes = sym (take-append-drop (prefix_len test bytes) bytes)

-- ---- strings

with_byte_some :
    (byte : ℕ) (read : Option (List ℕ × List ℕ)) (text rest : List ℕ) →
    with_byte byte read ≡ Some (text, rest) →
    (others : List ℕ) × ((read ≡ Some (others, rest)) × (text ≡ byte ∷ others))
with_byte_some byte None text rest e = absurd (cc (e))
with_byte_some byte (Some read) text rest e =
    let p : List ℕ × List ℕ = (byte ∷ read.0, read.1) in
    let q : List ℕ × List ℕ = (text, rest) in
    let same : p ≡ q = cc in (
      read.0,
      (
        ap (λ xs. Some (read.0, xs)) (ap (λ (r : List ℕ × List ℕ). r.1) same),
        sym (ap (λ (r : List ℕ × List ℕ). r.0) same),
      ),
    )

some_pair :
    (xs ys text rest : List ℕ) (read : Option (List ℕ × List ℕ)) → read ≡ Some (xs, ys) →
    read ≡ Some (text, rest) → (xs ≡ text) × (ys ≡ rest)
some_pair xs ys text rest read first second =
    let p : List ℕ × List ℕ = (xs, ys) in
    let q : List ℕ × List ℕ = (text, rest) in
    let same : p ≡ q = cc in
    (ap (λ (r : List ℕ × List ℕ). r.0) same, ap (λ (r : List ℕ × List ℕ). r.1) same)

is_39 : (byte : ℕ) → (byte == 39) ≡ true → byte ≡ 39
is_39 byte e = grind (arith, nat_tests)

ended :
    (byte : ℕ) (bytes text rest : List ℕ) → (byte == 39) ≡ true → begins_with 39 bytes ≡ false →
    unquoted (byte ∷ bytes) ≡ Some (text, rest) → byte ∷ bytes ≡ quoted text ++ 39 ∷ rest
ended byte bytes text rest quote ends e =
    let parts = some_pair [] bytes text rest (unquoted (39 ∷ bytes)) (unquoted_end bytes ends)
    (ap (λ b. unquoted (b ∷ bytes)) (sym (is_39 byte quote)) ∙ e) in
    ap (λ b. b ∷ bytes) (is_39 byte quote) ∙
    (ap (λ xs. 39 ∷ xs) parts.1 ∙ ap (λ xs. quoted xs ++ 39 ∷ rest) parts.0)

plain :
    (byte : ℕ) (bytes text rest : List ℕ) →
    ((others : List ℕ) → unquoted bytes ≡ Some (others, rest) → bytes ≡ quoted others ++ 39 ∷
    rest) →
    (byte == 39) ≡ false → unquoted (byte ∷ bytes) ≡ Some (text, rest) →
    byte ∷ bytes ≡ quoted text ++ 39 ∷ rest
plain byte bytes text rest others other e =
    let parts = with_byte_some byte (unquoted bytes) text rest
    (sym (unquoted_plain byte bytes other) ∙ e) in
    let written : quoted (byte ∷ parts.0) ≡ byte ∷ quoted parts.0 = rw other refl in
    ap (λ xs. byte ∷ xs) (others parts.0 parts.1.0) ∙
    sym (ap (λ xs. quoted xs ++ 39 ∷ rest) parts.1.1 ∙ ap (λ xs. xs ++ 39 ∷ rest) written)

doubled :
    (byte : ℕ) (bytes text rest : List ℕ) →
    ((others : List ℕ) → unquoted bytes ≡ Some (others, rest) → bytes ≡ quoted others ++ 39 ∷
    rest) →
    (byte == 39) ≡ true → unquoted (byte ∷ 39 ∷ bytes) ≡ Some (text, rest) →
    byte ∷ 39 ∷ bytes ≡ quoted text ++ 39 ∷ rest
doubled byte bytes text rest others quote e =
    let parts = with_byte_some 39 (unquoted bytes) text rest
    (sym (unquoted_double (39 ∷ bytes) refl) ∙
    (ap (λ b. unquoted (b ∷ 39 ∷ bytes)) (sym (is_39 byte quote)) ∙ e)) in
    ap (λ b. b ∷ 39 ∷ bytes) (is_39 byte quote) ∙
    (ap (λ xs. 39 ∷ 39 ∷ xs) (others parts.0 parts.1.0) ∙
    sym (ap (λ xs. quoted xs ++ 39 ∷ rest) parts.1.1))

pub quoted_text :
    (bytes text rest : List ℕ) → unquoted bytes ≡ Some (text, rest) →
    bytes ≡ quoted text ++ 39 ∷ rest
unfolding unquoted
quoted_text [] text rest e = absurd (cc (e))
quoted_text (byte ∷ []) text rest e = by (byte == 39) refl e
  where
    by :
        (b : Bool) → (byte == 39) ≡ b → unquoted (byte ∷ []) ≡ Some (text, rest) →
        byte ∷ [] ≡ quoted text ++ 39 ∷ rest
    by true quote e = ended byte [] text rest quote refl e
    by false other e = absurd (let f : None ≡ Some (text, rest) = rw other at e in cc (f))
quoted_text (byte ∷ next ∷ bytes) text rest e =
    by (λ others. quoted_text (next ∷ bytes) others rest) (λ others. quoted_text bytes others rest)
    (byte == 39) (next == 39) refl refl e
  where
    by :
        ((others : List ℕ) → unquoted (next ∷ bytes) ≡ Some (others, rest) → next ∷ bytes ≡
        quoted others ++ 39 ∷ rest) →
        ((others : List ℕ) → unquoted bytes ≡ Some (others, rest) → bytes ≡ quoted others ++ 39 ∷
        rest) →
        (b c : Bool) → (byte == 39) ≡ b → (next == 39) ≡ c →
        unquoted (byte ∷ next ∷ bytes) ≡ Some (text, rest) →
        byte ∷ next ∷ bytes ≡ quoted text ++ 39 ∷ rest
    by one two false c other again e = plain byte (next ∷ bytes) text rest one other e
    by one two true false quote other e = ended byte (next ∷ bytes) text rest quote other e
    by one two true true quote again e =
        ap (λ n. byte ∷ n ∷ bytes) (is_39 next again) ∙ doubled byte bytes text rest two quote
        (ap (λ n. unquoted (byte ∷ n ∷ bytes)) (sym (is_39 next again)) ∙ e)

pub string_took :
    (bytes : List ℕ) (tree : Expr) (rest : List ℕ) (mode : Mode) → begins_with 39 bytes ≡ true →
    string_read bytes true (unquoted (drop 1 bytes)) ≡ Ok (tree, rest) →
    Took (λ taken. IsPrimary mode taken tree) bytes rest
unfolding Took
string_took [] tree rest mode begins e = absurd (false≢true begins)
string_took (byte ∷ bytes) tree rest mode begins e = by (unquoted bytes) refl e
  where
    by :
        (found : Option (List ℕ × List ℕ)) → unquoted bytes ≡ found →
        string_read (byte ∷ bytes) true found ≡ Ok (tree, rest) →
        (taken : List ℕ) × ((byte ∷ bytes ≡ taken ++ rest) × IsPrimary mode taken tree)
    by None is e = absurd (cc (e))
    by (Some found) is e =
        let is_tree : Lit (Str found.0) ≡ tree =
        same_first (string_read (byte ∷ bytes) true (Some found)) (Lit (Str found.0)) tree
        found.1 rest refl e in
        let is_rest : found.1 ≡ rest = same_second (string_read (byte ∷ bytes) true (Some found))
        (Lit (Str found.0)) tree found.1 rest refl e in
        let body = quoted_text bytes found.0 found.1 is in
        let cut : byte ∷ bytes ≡ (39 ∷ quoted found.0 ++ 39 ∷ []) ++ rest =
        ap (λ b. b ∷ bytes) (is_39 byte begins) ∙
        (ap (λ xs. 39 ∷ xs) (body ∙ ap (λ xs. quoted found.0 ++ 39 ∷ xs) is_rest) ∙
        sym (append_assoc (39 ∷ quoted found.0) (39 ∷ []) rest)) in (
          39 ∷ quoted found.0 ++ 39 ∷
              [],
          (
            cut,
            subst (IsPrimary mode (39 ∷ quoted found.0 ++ 39 ∷ [])) is_tree
                (rule.literal (39 ∷ quoted found.0 ++ 39 ∷ []) (Str found.0) (rule.string found.0)),
          ),
        )

-- ---- numbers and versions

AreDigits-of : (bytes : List ℕ) → prefix_len is_ascii_digit bytes ≢ 0 → AreDigits (digits_of bytes)
AreDigits-of bytes some = (
  omega (arith, some, length-prefix_len is_ascii_digit bytes),
  all_front is_ascii_digit bytes,
)

number_took :
    (mode : Mode) (bytes : List ℕ) (negative : Bool) (sign body : List ℕ) (tree : Expr)
    (rest : List ℕ) →
    bytes ≡ sign ++ body →
    ((value : ℤ) → signed negative (number_of (digits_of body)) ≡ Some value →
    IsLiteralText (sign ++ digits_of body) (Number value)) →
    number_read bytes (skip is_ascii_digit body) (signed negative (number_of (digits_of body))) ≡
    Ok (tree, rest) →
    Took (λ taken. IsPrimary mode taken tree) bytes rest
unfolding Took
number_took mode bytes negative sign body tree rest bytes_are spells e =
    by (signed negative (number_of (digits_of body))) refl e
  where
    by :
        (found : Option ℤ) → signed negative (number_of (digits_of body)) ≡ found →
        number_read bytes (skip is_ascii_digit body) found ≡ Ok (tree, rest) →
        (taken : List ℕ) × ((bytes ≡ taken ++ rest) × IsPrimary mode taken tree)
    by None is e = absurd (cc (e))
    by (Some value) is e =
        let is_tree : Lit (Number value) ≡ tree =
        same_first (number_read bytes (skip is_ascii_digit body) (Some value))
        (Lit (Number value)) tree (skip is_ascii_digit body) rest refl e in
        let is_rest : skip is_ascii_digit body ≡ rest =
        same_second (number_read bytes (skip is_ascii_digit body) (Some value))
        (Lit (Number value)) tree (skip is_ascii_digit body) rest refl e in
        let cut : bytes ≡ (sign ++ digits_of body) ++ rest = bytes_are ∙
        (ap (λ xs. sign ++ xs) (digits_cut is_ascii_digit body ∙ ap (λ xs. digits_of body ++ xs)
        is_rest) ∙ sym (append_assoc sign (digits_of body) rest)) in (
          sign ++ digits_of body,
          (
            cut,
            subst (IsPrimary mode (sign ++ digits_of body)) is_tree
                (rule.literal (sign ++ digits_of body) (Number value) (spells value is)),
          ),
        )

-- runs behind a run: each has digits, and they are joined by dots
runs_behind :
    (more : ℕ) (bytes : List ℕ) →
    AreRuns (more_runs more bytes) ×
    (bytes ≡ concat (map (λ digits. 46 ∷ digits) (more_runs more bytes)) ++ behind_more more bytes)
unfolding more_runs behind_more
runs_behind zero bytes = (tt, refl)
runs_behind (suc more) bytes =
    by (goes_on bytes) refl (runs_behind more (skip is_ascii_digit (drop 1 bytes)))
  where
    dot_cut :
        (bytes : List ℕ) → goes_on bytes ≡ true →
        (bytes ≡ 46 ∷ drop 1 bytes) × (prefix_len is_ascii_digit (drop 1 bytes) ≢ 0)
    dot_cut [] goes = absurd (false≢true goes)
    dot_cut (dot ∷ []) goes = absurd (false≢true goes)
    dot_cut (dot ∷ byte ∷ bytes) goes =
        let parts = and_parts (dot == 46) (is_ascii_digit byte) goes in
        let is : dot ≡ 46 = grind (arith, nat_tests) in (
          ap (λ b. b ∷ byte ∷ bytes) is,
          λ none. let long : prefix_len is_ascii_digit
              (byte ∷ bytes) ≡ 1 + prefix_len is_ascii_digit bytes = rw parts.1 refl in
              omega (arith, none, long),
        )

    by :
        (b : Bool) → goes_on bytes ≡ b →
        AreRuns (more_runs more (skip is_ascii_digit (drop 1 bytes))) ×
        (skip is_ascii_digit (drop 1 bytes) ≡
        concat (map (λ digits. 46 ∷ digits) (more_runs more (skip is_ascii_digit (drop 1 bytes))))
        ++ behind_more more (skip is_ascii_digit (drop 1 bytes))) →
        AreRuns
        (cond b (digits_of (drop 1 bytes) ∷ more_runs more (skip is_ascii_digit (drop 1 bytes)))
        []) ×
        (bytes ≡
        concat
        (map (λ digits. 46 ∷ digits)
        (cond b (digits_of (drop 1 bytes) ∷ more_runs more (skip is_ascii_digit (drop 1 bytes)))
        [])) ++ cond b (behind_more more (skip is_ascii_digit (drop 1 bytes))) bytes)
    by true goes others =
        let cut = dot_cut bytes goes in (
          (AreDigits-of (drop 1 bytes) cut.1, others.0),
          cut.0 ∙
              (ap (λ xs. 46 ∷ xs) (digits_cut is_ascii_digit (drop 1 bytes) ∙
              ap (λ xs. digits_of (drop 1 bytes) ++ xs) others.1) ∙
              sym (append_assoc (46 ∷ digits_of (drop 1 bytes))
              (concat
              (map (λ digits. 46 ∷ digits) (more_runs more (skip is_ascii_digit (drop 1 bytes)))))
              (behind_more more (skip is_ascii_digit (drop 1 bytes))))),
        )
    by false ends others = (tt, refl)

joined_runs :
    (digits : List ℕ) (runs : List (List ℕ)) →
    join_with_byte 46 (digits ∷ runs) ≡ digits ++ concat (map (λ digits. 46 ∷ digits) runs)
joined_runs digits [] = sym (append-nil digits)
joined_runs digits (following ∷ runs) = ap (λ xs. digits ++ 46 ∷ xs) (joined_runs following runs)

version_took :
    (mode : Mode) (bytes : List ℕ) (tree : Expr) (rest : List ℕ) →
    prefix_len is_ascii_digit bytes ≢ 0 → length (runs_of bytes) ≢ 1 → length (runs_of bytes) ≢ 2 →
    version_read bytes (behind_runs bytes) (segments_of (map number_of (runs_of bytes))) ≡
    Ok (tree, rest) →
    Took (λ taken. IsPrimary mode taken tree) bytes rest
unfolding Took
version_took mode bytes tree rest some one two e = by (segments_of (map number_of (runs_of bytes)))
    refl e
  where
    by :
        (found : Option (List ℕ)) → segments_of (map number_of (runs_of bytes)) ≡ found →
        version_read bytes (behind_runs bytes) found ≡ Ok (tree, rest) →
        (taken : List ℕ) × ((bytes ≡ taken ++ rest) × IsPrimary mode taken tree)
    by None is e = absurd (cc (e))
    by (Some segments) is e =
        let is_tree : Lit (Version segments) ≡ tree =
        same_first (version_read bytes (behind_runs bytes) (Some segments))
        (Lit (Version segments)) tree (behind_runs bytes) rest refl e in
        let is_rest : behind_runs bytes ≡ rest =
        same_second (version_read bytes (behind_runs bytes) (Some segments))
        (Lit (Version segments)) tree (behind_runs bytes) rest refl e in
        let few = more_runs_few 3 (skip is_ascii_digit bytes) in
        let three : 2 < length (runs_of bytes) = omega (arith, one, two) in
        let four : length (runs_of bytes) ≤ 4 = omega (arith, few) in
        let behind = runs_behind 3 (skip is_ascii_digit bytes) in
        let spelled = rule.version (runs_of bytes) segments (AreDigits-of bytes some, behind.0)
        three four is in
        let cut : bytes ≡ join_with_byte 46 (runs_of bytes) ++ rest =
        digits_cut is_ascii_digit bytes ∙
        (ap (λ xs. digits_of bytes ++ xs) (behind.1 ∙
        ap (λ xs. concat (map (λ digits. 46 ∷ digits) (more_runs 3 (skip is_ascii_digit bytes)))
        ++ xs) is_rest) ∙
        (sym
        (append_assoc (digits_of bytes)
        (concat (map (λ digits. 46 ∷ digits) (more_runs 3 (skip is_ascii_digit bytes)))) rest) ∙
        ap (λ xs. xs ++ rest)
        (sym (joined_runs (digits_of bytes) (more_runs 3 (skip is_ascii_digit bytes)))))) in (
          join_with_byte 46 (runs_of bytes),
          (
            cut,
            subst (IsPrimary mode (join_with_byte 46 (runs_of bytes))) is_tree
                (rule.literal (join_with_byte 46 (runs_of bytes)) (Version segments) spelled),
          ),
        )

pub unsigned_took :
    (mode : Mode) (bytes : List ℕ) (tree : Expr) (rest : List ℕ) →
    prefix_len is_ascii_digit bytes ≢ 0 → unsigned_at bytes ≡ Ok (tree, rest) →
    Took (λ taken. IsPrimary mode taken tree) bytes rest
unfolding unsigned_at
unsigned_took mode bytes tree rest some e = by (chosen (length (runs_of bytes) == 1) _ _ _ e)
  where
    two_runs :
        ((length (runs_of bytes) == 2) ≡ true) ×
        (stop {A = Expr × List ℕ} Fraction bytes ≡ Ok (tree, rest)) ⊎
        ((length (runs_of bytes) == 2) ≡ false) ×
        (version_read bytes (behind_runs bytes) (segments_of (map number_of (runs_of bytes))) ≡
        Ok (tree, rest)) →
        length (runs_of bytes) ≢ 1 → Took (λ taken. IsPrimary mode taken tree) bytes rest
    two_runs (inl parts) one = absurd (cc (parts.1))
    two_runs (inr parts) one = version_took mode bytes tree rest some one (eqb-false _ _ parts.0)
        parts.1

    by :
        ((length (runs_of bytes) == 1) ≡ true) ×
        (number_read bytes (skip is_ascii_digit bytes)
        (signed false (number_of (digits_of bytes))) ≡ Ok (tree, rest)) ⊎
        ((length (runs_of bytes) == 1) ≡ false) ×
        (cond (length (runs_of bytes) == 2) (stop Fraction bytes)
        (version_read bytes (behind_runs bytes) (segments_of (map number_of (runs_of bytes)))) ≡
        Ok (tree, rest)) →
        Took (λ taken. IsPrimary mode taken tree) bytes rest
    by (inl parts) = number_took mode bytes false [] bytes tree rest refl
        (λ value is. rule.number (digits_of bytes) value (AreDigits-of bytes some) is) parts.1
    by (inr parts) = two_runs (chosen (length (runs_of bytes) == 2) _ _ _ parts.1)
        (eqb-false _ _ parts.0)

pub signed_took :
    (mode : Mode) (bytes body : List ℕ) (tree : Expr) (rest : List ℕ) → bytes ≡ 45 ∷ body →
    signed_at bytes body ≡ Ok (tree, rest) → Took (λ taken. IsPrimary mode taken tree) bytes rest
unfolding signed_at
signed_took mode bytes body tree rest bytes_are e =
    by (chosen (prefix_len is_ascii_digit body == 0) _ _ _ e)
  where
    two_runs :
        ((length (runs_of body) == 2) ≡ true) ×
        (stop {A = Expr × List ℕ} Fraction bytes ≡ Ok (tree, rest)) ⊎
        ((length (runs_of body) == 2) ≡ false) ×
        (number_read bytes (skip is_ascii_digit body) (signed true (number_of (digits_of body))) ≡
        Ok (tree, rest)) →
        prefix_len is_ascii_digit body ≢ 0 → Took (λ taken. IsPrimary mode taken tree) bytes rest
    two_runs (inl parts) some = absurd (cc (parts.1))
    two_runs (inr parts) some = number_took mode bytes true (45 ∷ []) body tree rest bytes_are
        (λ value is. rule.negative (digits_of body) value (AreDigits-of body some) is) parts.1

    by :
        ((prefix_len is_ascii_digit body == 0) ≡ true) ×
        (stop {A = Expr × List ℕ} BadChar body ≡ Ok (tree, rest)) ⊎
        ((prefix_len is_ascii_digit body == 0) ≡ false) ×
        (cond (length (runs_of body) == 2) (stop Fraction bytes)
        (number_read bytes (skip is_ascii_digit body) (signed true (number_of (digits_of body)))) ≡
        Ok (tree, rest)) →
        Took (λ taken. IsPrimary mode taken tree) bytes rest
    by (inl parts) = absurd (cc (parts.1))
    by (inr parts) = two_runs (chosen (length (runs_of body) == 2) _ _ _ parts.1)
        (eqb-false _ _ parts.0)

-- ---- names, blanks and single bytes

begins_cut :
    (byte : ℕ) (bytes : List ℕ) → begins_with byte bytes ≡ true → bytes ≡ byte ∷ drop 1 bytes
begins_cut byte [] begins = absurd (false≢true begins)
begins_cut byte (first ∷ bytes) begins = let same : first ≡ byte = grind (arith, nat_tests) in
    ap (λ b. b ∷ bytes) same

blanks_of : List ℕ → List ℕ
blanks_of bytes = take (prefix_len is_blank bytes) bytes

blanks_cut :
    (bytes : List ℕ) →
    (bytes ≡ blanks_of bytes ++ skip is_blank bytes) × AreBlanks (blanks_of bytes)
unfolding blanks_of
blanks_cut bytes = (digits_cut is_blank bytes, all_front is_blank bytes)

-- what the names of a projection are, and what they take
unfoldable pub NamesTook : List (List ℕ) → List ℕ → List (List ℕ) × List ℕ → Type 0
NamesTook read bytes found = (members : List (List ℕ)) ×
    ((found.0 ≡ read ++ members) × (AreNames members × (bytes ≡ dotted members ++ found.1)))

pub names_took :
    (turns : ℕ) (read : List (List ℕ)) (bytes : List ℕ) →
    NamesTook read bytes (names_at turns read bytes)
unfolding names_at NamesTook
names_took zero read bytes = ([], (sym (append-nil read), (tt, refl)))
names_took (suc turns) read bytes =
    by (names_took turns (read ++ word_of (drop 1 bytes) ∷ []) (behind_word (drop 1 bytes)))
    (begins_with 46 bytes && is_word (drop 1 bytes)) refl
  where
    by :
        NamesTook (read ++ word_of (drop 1 bytes) ∷ []) (behind_word (drop 1 bytes))
        (names_at turns (read ++ word_of (drop 1 bytes) ∷ []) (behind_word (drop 1 bytes))) →
        (b : Bool) → (begins_with 46 bytes && is_word (drop 1 bytes)) ≡ b →
        NamesTook read bytes
        (cond b (names_at turns (read ++ word_of (drop 1 bytes) ∷ []) (behind_word (drop 1 bytes)))
        (read, bytes))
    by others false e = ([], (sym (append-nil read), (tt, refl)))
    by others true e =
        let parts = and_parts (begins_with 46 bytes) (is_word (drop 1 bytes)) e in
        let word = word_of (drop 1 bytes) in
        let found = names_at turns (read ++ word ∷ []) (behind_word (drop 1 bytes)) in
        let cut : bytes ≡ dotted (word ∷ others.0) ++ found.1 = begins_cut 46 bytes parts.0 ∙
        (ap (λ xs. 46 ∷ xs) (digits_cut is_name_byte (drop 1 bytes) ∙
        ap (λ xs. word ++ xs) others.1.1.1) ∙
        sym (append_assoc (46 ∷ word) (dotted others.0) found.1)) in (
          word ∷ others.0,
          (
            others.1.0 ∙ append_assoc read (word ∷ []) others.0,
            ((word_is (drop 1 bytes) parts.1, others.1.1.0), cut),
          ),
        )

-- no name stands right behind the names of a projection
goes_name : List ℕ → Bool
goes_name bytes = begins_with 46 bytes && is_word (drop 1 bytes)

names_ended :
    (turns : ℕ) (read : List (List ℕ)) (bytes : List ℕ) → length bytes ≤ turns →
    goes_name (names_at turns read bytes).1 ≡ false
unfolding names_at goes_name
names_ended zero read [] room = refl
names_ended zero read (byte ∷ bytes) room = absurd (omega (arith, room))
names_ended (suc turns) read [] room = refl
names_ended (suc turns) read (byte ∷ bytes) room =
    by (names_ended turns (read ++ word_of bytes ∷ []) (behind_word bytes)
    (omega (arith, room, length-drop (prefix_len is_name_byte bytes) bytes)))
    (goes_name (byte ∷ bytes)) refl
  where
    by :
        goes_name (names_at turns (read ++ word_of bytes ∷ []) (behind_word bytes)).1 ≡ false →
        (b : Bool) → goes_name (byte ∷ bytes) ≡ b →
        goes_name (cond b (names_at turns (read ++ word_of bytes ∷ []) (behind_word bytes))
        (read, byte ∷ bytes)).1 ≡ false
    by others false e = e
    by others true e = others

-- ---- arguments

pub behind_cut :
    (function : Function) (count : ℕ) (bytes : List ℕ) (more : Bool) (rest : List ℕ) →
    behind_argument function count bytes ≡ Ok (more, rest) →
    ((more ≡ true) × (bytes ≡ 44 ∷ rest)) ⊎
    ((more ≡ false) × ((bytes ≡ 41 ∷ rest) × (takes function count ≡ true)))
unfolding behind_argument
behind_cut function count bytes more rest e = by (chosen (begins_with 44 bytes) _ _ _ e)
  where
    comma :
        begins_with 44 bytes ≡ true →
        (may_follow (most_of function) count ≡ true) ×
        (done true (drop 1 bytes) ≡ Ok (more, rest)) ⊎ (may_follow (most_of function) count ≡
        false) × (stop {A = Bool × List ℕ} BadCount bytes ≡ Ok (more, rest)) →
        ((more ≡ true) × (bytes ≡ 44 ∷ rest)) ⊎
        ((more ≡ false) × ((bytes ≡ 41 ∷ rest) × (takes function count ≡ true)))
    comma begins (inl parts) =
        inl (
          sym (same_first (done true (drop 1 bytes)) true more (drop 1 bytes) rest refl parts.1),
          begins_cut 44 bytes begins ∙
              ap (λ xs. 44 ∷ xs) (same_second (done true (drop 1 bytes)) true more (drop 1 bytes) rest
              refl parts.1),
        )
    comma begins (inr parts) = absurd (cc (parts.1))

    paren :
        begins_with 41 bytes ≡ true →
        (takes function count ≡ true) × (done false (drop 1 bytes) ≡ Ok (more, rest)) ⊎
        (takes function count ≡ false) ×
        (stop {A = Bool × List ℕ} BadCount bytes ≡ Ok (more, rest)) →
        ((more ≡ true) × (bytes ≡ 44 ∷ rest)) ⊎
        ((more ≡ false) × ((bytes ≡ 41 ∷ rest) × (takes function count ≡ true)))
    paren begins (inl parts) =
        inr (
          sym (same_first (done false (drop 1 bytes)) false more (drop 1 bytes) rest refl
              parts.1),
          (
            begins_cut 41 bytes begins ∙
                ap (λ xs. 41 ∷ xs) (same_second (done false (drop 1 bytes)) false more (drop 1 bytes) rest
                refl parts.1),
            parts.0,
          ),
        )
    paren begins (inr parts) = absurd (cc (parts.1))

    other :
        (begins_with 41 bytes ≡ true) ×
        (cond (takes function count) (done false (drop 1 bytes))
        (stop {A = Bool × List ℕ} BadCount bytes) ≡ Ok (more, rest)) ⊎
        (begins_with 41 bytes ≡ false) ×
        (stop {A = Bool × List ℕ} BadChar bytes ≡ Ok (more, rest)) →
        ((more ≡ true) × (bytes ≡ 44 ∷ rest)) ⊎
        ((more ≡ false) × ((bytes ≡ 41 ∷ rest) × (takes function count ≡ true)))
    other (inl parts) = paren parts.0 (chosen (takes function count) _ _ _ parts.1)
    other (inr parts) = absurd (cc (parts.1))

    by :
        (begins_with 44 bytes ≡ true) ×
        (cond (may_follow (most_of function) count) (done true (drop 1 bytes))
        (stop {A = Bool × List ℕ} BadCount bytes) ≡ Ok (more, rest)) ⊎
        (begins_with 44 bytes ≡ false) ×
        (cond (begins_with 41 bytes) (cond (takes function count) (done false (drop 1 bytes))
        (stop {A = Bool × List ℕ} BadCount bytes)) (stop {A = Bool × List ℕ} BadChar bytes) ≡
        Ok (more, rest)) →
        ((more ≡ true) × (bytes ≡ 44 ∷ rest)) ⊎
        ((more ≡ false) × ((bytes ≡ 41 ∷ rest) × (takes function count ≡ true)))
    by (inl parts) = comma parts.0 (chosen (may_follow (most_of function) count) _ _ _ parts.1)
    by (inr parts) = other (chosen (begins_with 41 bytes) _ _ _ parts.1)

-- what stands before an argument: nothing, or the arguments that were read and a comma
pub Before : Mode → List ℕ → List Expr → Type 0
Before mode before read = ((before ≡ []) × (read ≡ [])) ⊎
    ((inside : List ℕ) × ((before ≡ inside ++ 44 ∷ []) × AreArguments mode inside read))

one_more :
    (mode : Mode) (before inside : List ℕ) (read : List Expr) (tree : Expr) →
    Before mode before read → IsText mode inside tree →
    AreArguments mode (before ++ inside) (read ++ tree ∷ [])
unfolding Before
one_more mode before inside read tree (inl nothing) is =
    let P : List ℕ → Type 0 = λ xs. AreArguments mode (xs ++ inside) (read ++ tree ∷ []) in
    let Q : List Expr → Type 0 = λ trees. AreArguments mode inside (trees ++ tree ∷ []) in
    subst P (sym nothing.0) (subst Q (sym nothing.1) (rule.first inside tree is))
one_more mode before inside read tree (inr some) is =
    let P : List ℕ → Type 0 = λ xs. AreArguments mode xs (read ++ tree ∷ []) in
    subst P (sym (ap (λ xs. xs ++ inside) some.1.0 ∙ append_assoc some.0 (44 ∷ []) inside))
    (rule.next some.0 inside read tree some.1.1 is)

-- an inner reader gives only what the rules give
pub Spells : Mode → (List ℕ → Read Expr) → Type 0
Spells mode inner = (bytes : List ℕ) (read : Expr × List ℕ) → inner bytes ≡ Ok read →
    Took (λ taken. IsText mode taken read.0) bytes read.1

pub ArgumentsTook : Mode → Function → List ℕ → List ℕ → List Expr → List ℕ → Type 0
ArgumentsTook mode function before bytes all rest = (inside : List ℕ) ×
    ((before ++ bytes ≡ inside ++ 41 ∷ rest) ×
    (AreArguments mode inside all × (takes function (length all) ≡ true)))

pub arguments_took :
    (mode : Mode) (inner : List ℕ → Read Expr) → Spells mode inner →
    (function : Function) (turns : ℕ) (before : List ℕ) (read : List Expr) (bytes : List ℕ)
    (all : List Expr) (rest : List ℕ) →
    Before mode before read → arguments_at inner function turns read bytes ≡ Ok (all, rest) →
    ArgumentsTook mode function before bytes all rest
unfolding arguments_at ArgumentsTook Before Spells Took
arguments_took mode inner spells function zero before read bytes all rest so e = absurd (cc (e))
arguments_took mode inner spells function (suc turns) before read bytes all rest so e =
    let one = bind_ok (inner bytes) _ (all, rest) e in
    let two = bind_ok (behind_argument function (length (read ++ one.0.0 ∷ [])) one.0.1) _
    (all, rest) one.1.1 in
    let took = spells bytes one.0 one.1.0 in
    let are = one_more mode before took.0 read one.0.0 so took.1.1 in
    let cut : before ++ bytes ≡ (before ++ took.0) ++ one.0.1 = ap (λ xs. before ++ xs) took.1.0 ∙
    sym (append_assoc before took.0 one.0.1) in
    by (before ++ took.0) one.0.0 one.0.1 two.0 cut are
    (behind_cut function (length (read ++ one.0.0 ∷ [])) one.0.1 two.0.0 two.0.1 two.1.0)
    (λ more so. arguments_took mode inner spells function turns more (read ++ one.0.0 ∷ [])
    two.0.1 all rest so) two.1.1
  where
    by :
        (inside : List ℕ) (argument : Expr) (behind : List ℕ) (next : Bool × List ℕ) →
        before ++ bytes ≡ inside ++ behind → AreArguments mode inside (read ++ argument ∷ []) →
        ((next.0 ≡ true) × (behind ≡ 44 ∷ next.1)) ⊎
        ((next.0 ≡ false) ×
        ((behind ≡ 41 ∷ next.1) × (takes function (length (read ++ argument ∷ [])) ≡ true))) →
        ((more : List ℕ) → Before mode more (read ++ argument ∷ []) →
        arguments_at inner function turns (read ++ argument ∷ []) next.1 ≡ Ok (all, rest) →
        ArgumentsTook mode function more next.1 all rest) →
        cond next.0 (arguments_at inner function turns (read ++ argument ∷ []) next.1)
        (done (read ++ argument ∷ []) next.1) ≡ Ok (all, rest) →
        ArgumentsTook mode function before bytes all rest
    by inside argument behind next cut are (inl more) others e =
        let f : arguments_at inner function turns (read ++ argument ∷ []) next.1 ≡ Ok (all, rest) =
        ap (λ b. cond b (arguments_at inner function turns (read ++ argument ∷ []) next.1)
        (done (read ++ argument ∷ []) next.1)) (sym more.0) ∙ e in
        let found = others (inside ++ 44 ∷ []) (inr (inside, (refl, are))) f in (
          found.0,
          (
            cut ∙ (ap (λ xs. inside ++ xs) more.1 ∙ (sym (append_assoc inside (44 ∷ []) next.1) ∙
                found.1.0)),
            found.1.1,
          ),
        )
    by inside argument behind next cut are (inr last) others e =
        let f : done (read ++ argument ∷ []) next.1 ≡ Ok (all, rest) =
        ap (λ b. cond b (arguments_at inner function turns (read ++ argument ∷ []) next.1)
        (done (read ++ argument ∷ []) next.1)) (sym last.0) ∙ e in
        let is_all : read ++ argument ∷ [] ≡ all = same_first (done (read ++ argument ∷ []) next.1)
        (read ++ argument ∷ []) all next.1 rest refl f in
        let is_rest : next.1 ≡ rest = same_second (done (read ++ argument ∷ []) next.1) (read ++
        argument ∷ []) all next.1 rest refl f in (
          inside,
          (
            cut ∙ (ap (λ xs. inside ++ xs) last.1.0 ∙ ap (λ xs. inside ++ 41 ∷ xs) is_rest),
            (
              subst (AreArguments mode inside) is_all are,
              ap (λ xs. takes function (length xs))
                  (sym is_all) ∙ last.1.1,
            ),
          ),
        )

-- ---- calls and names

call_took :
    (mode : Mode) (inner : List ℕ → Read Expr) → Spells mode inner →
    (word blanks : List ℕ) (function : Function) → IsName word → named mode word ≡ Some function →
    AreBlanks blanks → (bytes : List ℕ) (tree : Expr) (rest : List ℕ) →
    call_at inner function bytes ≡ Ok (tree, rest) →
    Took (λ taken. IsPrimary mode taken tree) (word ++ (blanks ++ 40 ∷ bytes)) rest
unfolding call_at Took ArgumentsTook Before
call_took mode inner spells word blanks function is found are bytes tree rest e =
    by (chosen (begins_with 41 bytes) _ _ _ e)
  where
    spelled :
        (inside : List ℕ) (made : Expr) → bytes ≡ inside ++ rest → made ≡ tree →
        IsPrimary mode (word ++ (blanks ++ 40 ∷ inside)) made →
        (taken : List ℕ) × ((word ++ (blanks ++ 40 ∷ bytes) ≡ taken ++ rest) ×
        IsPrimary mode taken tree)
    spelled inside made cut same primary = (
      word ++ (blanks ++ 40 ∷ inside),
      (
        ap (λ xs. word ++ (blanks ++ 40 ∷ xs)) cut ∙
            (ap (λ xs. word ++ xs) (sym (append_assoc blanks (40 ∷ inside) rest)) ∙
            sym (append_assoc word (blanks ++ 40 ∷ inside) rest)),
        subst (IsPrimary mode (word ++ (blanks ++ 40 ∷ inside))) same primary,
      ),
    )

    none :
        begins_with 41 bytes ≡ true →
        (takes function 0 ≡ true) × (done (Call function []) (drop 1 bytes) ≡ Ok (tree, rest)) ⊎
        (takes function 0 ≡ false) × (stop {A = Expr × List ℕ} BadCount bytes ≡ Ok (tree, rest)) →
        (taken : List ℕ) × ((word ++ (blanks ++ 40 ∷ bytes) ≡ taken ++ rest) ×
        IsPrimary mode taken tree)
    none begins (inl parts) = spelled (41 ∷ []) (Call function []) (begins_cut 41 bytes begins ∙
        ap (λ xs. 41 ∷ xs) (same_second (done (Call function []) (drop 1 bytes)) (Call function [])
        tree (drop 1 bytes) rest refl parts.1)) (same_first (done (Call function []) (drop 1 bytes))
        (Call function []) tree (drop 1 bytes) rest refl parts.1)
        (rule.empty_call word blanks function is found are parts.0)
    none begins (inr parts) = absurd (cc (parts.1))

    some :
        (read : List Expr × List ℕ) →
        arguments_at inner function (length bytes) [] bytes ≡ Ok read →
        done (Call function read.0) read.1 ≡ Ok (tree, rest) →
        (taken : List ℕ) × ((word ++ (blanks ++ 40 ∷ bytes) ≡ taken ++ rest) ×
        IsPrimary mode taken tree)
    some read one same =
        let took = arguments_took mode inner spells function (length bytes) [] [] bytes read.0
        read.1 (inl (refl, refl)) one in
        let is_rest : read.1 ≡ rest = same_second (done (Call function read.0) read.1)
        (Call function read.0) tree read.1 rest refl same in
        let cut : bytes ≡ (took.0 ++ 41 ∷ []) ++ rest = took.1.0 ∙
        (ap (λ xs. took.0 ++ 41 ∷ xs) is_rest ∙ sym (append_assoc took.0 (41 ∷ []) rest)) in
        spelled (took.0 ++ 41 ∷ []) (Call function read.0) cut
        (same_first (done (Call function read.0) read.1) (Call function read.0) tree read.1 rest
        refl same) (regrouped took.0 read.0 (rule.call word blanks took.0 function read.0 is
        found are took.1.1.0 took.1.1.1))
      where
        regrouped :
            (inside : List ℕ) (trees : List Expr) →
            IsPrimary mode (word ++ (blanks ++ 40 ∷ inside ++ 41 ∷ [])) (Call function trees) →
            IsPrimary mode (word ++ (blanks ++ 40 ∷ (inside ++ 41 ∷ []))) (Call function trees)
        regrouped inside trees primary =
            let P : List ℕ → Type 0 = λ xs. IsPrimary mode (word ++ xs) (Call function trees) in
            subst P (append_assoc blanks (40 ∷ inside) (41 ∷ [])) primary

    by :
        (begins_with 41 bytes ≡ true) ×
        (cond (takes function 0) (done (Call function []) (drop 1 bytes))
        (stop {A = Expr × List ℕ} BadCount bytes) ≡ Ok (tree, rest)) ⊎
        (begins_with 41 bytes ≡ false) ×
        ((arguments_at inner function (length bytes) [] bytes >>=
        λ read. done (Call function read.0) read.1) ≡ Ok (tree, rest)) →
        (taken : List ℕ) × ((word ++ (blanks ++ 40 ∷ bytes) ≡ taken ++ rest) ×
        IsPrimary mode taken tree)
    by (inl parts) = none parts.0 (chosen (takes function 0) _ _ _ parts.1)
    by (inr parts) = let one = bind_ok (arguments_at inner function (length bytes) [] bytes) _
        (tree, rest) parts.1 in some one.0 one.1.0 one.1.1

word_took :
    (mode : Mode) (inner : List ℕ → Read Expr) → Spells mode inner →
    (bytes : List ℕ) (tree : Expr) (rest : List ℕ) → is_word bytes ≡ true →
    word_at mode true inner bytes ≡ Ok (tree, rest) →
    Took (λ taken. IsPrimary mode taken tree) bytes rest
unfolding word_at Took
word_took mode inner spells bytes tree rest begins e =
    by (chosen (begins_with 40 (skip is_blank (behind_word bytes))) _ _ _ e)
  where
    calls :
        (found : Option Function) → named mode (word_of bytes) ≡ found →
        begins_with 40 (skip is_blank (behind_word bytes)) ≡ true →
        called inner bytes true (drop 1 (skip is_blank (behind_word bytes))) found ≡
        Ok (tree, rest) →
        (taken : List ℕ) × ((bytes ≡ taken ++ rest) × IsPrimary mode taken tree)
    calls None is paren e = absurd (cc (e))
    calls (Some function) is paren e =
        let blanks = blanks_cut (behind_word bytes) in
        let took = call_took mode inner spells (word_of bytes) (blanks_of (behind_word bytes))
        function (word_is bytes begins) is blanks.1 (drop 1 (skip is_blank (behind_word bytes)))
        tree rest e in
        let cut : bytes ≡ word_of bytes ++ (blanks_of (behind_word bytes) ++ 40 ∷
        drop 1 (skip is_blank (behind_word bytes))) = digits_cut is_name_byte bytes ∙
        ap (λ xs. word_of bytes ++ xs) (blanks.0 ∙ ap (λ xs. blanks_of (behind_word bytes) ++
        xs) (begins_cut 40 (skip is_blank (behind_word bytes)) paren)) in
        (took.0, (cut ∙ took.1.0, took.1.1))

    by :
        (begins_with 40 (skip is_blank (behind_word bytes)) ≡ true) ×
        (called inner bytes true (drop 1 (skip is_blank (behind_word bytes)))
        (named mode (word_of bytes)) ≡ Ok (tree, rest)) ⊎
        (begins_with 40 (skip is_blank (behind_word bytes)) ≡ false) ×
        (done (word_tree (word_of bytes)) (behind_word bytes) ≡ Ok (tree, rest)) →
        (taken : List ℕ) × ((bytes ≡ taken ++ rest) × IsPrimary mode taken tree)
    by (inl parts) = calls (named mode (word_of bytes)) refl parts.0 parts.1
    by (inr parts) =
        let is_tree = same_first (done (word_tree (word_of bytes)) (behind_word bytes))
        (word_tree (word_of bytes)) tree (behind_word bytes) rest refl parts.1 in
        let is_rest = same_second (done (word_tree (word_of bytes)) (behind_word bytes))
        (word_tree (word_of bytes)) tree (behind_word bytes) rest refl parts.1 in (
          word_of bytes,
          (
            digits_cut is_name_byte bytes ∙ ap (λ xs. word_of bytes ++ xs) is_rest,
            subst (IsPrimary mode (word_of bytes)) is_tree
                (rule.name (word_of bytes) (word_is bytes begins)),
          ),
        )

-- ---- primaries

front_is_quote : (bytes : List ℕ) → front_of bytes ≡ front.Quote → begins_with 39 bytes ≡ true
unfolding front_of
front_is_quote [] e = absurd (cc (e))
front_is_quote (byte ∷ bytes) e = by (byte == 39) (begins_name byte) (is_ascii_digit byte ||
    (byte == 45)) (goes_on (byte ∷ bytes)) e
  where
    by :
        (quote name digit dot : Bool) →
        cond quote front.Quote
        (cond name front.Word (cond digit front.Digits (cond dot front.Fraction front.Nothing))) ≡
        front.Quote →
        quote ≡ true
    by true name digit dot e = refl
    by false true digit dot e = absurd (cc (e))
    by false false true dot e = absurd (cc (e))
    by false false false true e = absurd (cc (e))
    by false false false false e = absurd (cc (e))

front_is_digits :
    (bytes : List ℕ) → front_of bytes ≡ front.Digits → begins_with 45 bytes ≡ false →
    prefix_len is_ascii_digit bytes ≢ 0
unfolding front_of
front_is_digits [] e other = absurd (cc (e))
front_is_digits (byte ∷ bytes) e other =
    let digit : is_ascii_digit byte ≡ true = by (byte == 39) (begins_name byte)
    (is_ascii_digit byte) (byte == 45) (goes_on (byte ∷ bytes)) other e in
    λ none. let long : prefix_len is_ascii_digit (byte ∷ bytes) ≡ 1 + prefix_len is_ascii_digit
    bytes = rw digit refl in omega (arith, none, long)
  where
    by :
        (quote name digit minus dot : Bool) → minus ≡ false →
        cond quote front.Quote
        (cond name front.Word
        (cond (digit || minus) front.Digits (cond dot front.Fraction front.Nothing))) ≡
        front.Digits →
        digit ≡ true
    by true name digit minus dot other e = absurd (cc (e))
    by false true digit minus dot other e = absurd (cc (e))
    by false false true minus dot other e = refl
    by false false false true dot other e = absurd (false≢true (sym other))
    by false false false false true other e = absurd (cc (e))
    by false false false false false other e = absurd (cc (e))

digits_took :
    (mode : Mode) (bytes : List ℕ) (tree : Expr) (rest : List ℕ) → front_of bytes ≡ front.Digits →
    number_at bytes ≡ Ok (tree, rest) → Took (λ taken. IsPrimary mode taken tree) bytes rest
digits_took mode bytes tree rest is e = by (chosen (begins_with 45 bytes) _ _ _ e)
  where
    by :
        (begins_with 45 bytes ≡ true) × (signed_at bytes (drop 1 bytes) ≡ Ok (tree, rest)) ⊎
        (begins_with 45 bytes ≡ false) × (unsigned_at bytes ≡ Ok (tree, rest)) →
        Took (λ taken. IsPrimary mode taken tree) bytes rest
    by (inl parts) = signed_took mode bytes (drop 1 bytes) tree rest (begins_cut 45 bytes parts.0)
        parts.1
    by (inr parts) = unsigned_took mode bytes tree rest (front_is_digits bytes is parts.0) parts.1

primary_took :
    (mode : Mode) (inner : List ℕ → Read Expr) → Spells mode inner →
    (bytes : List ℕ) (tree : Expr) (rest : List ℕ) →
    primary_at mode true inner bytes ≡ Ok (tree, rest) →
    Took (λ taken. IsPrimary mode taken tree) bytes rest
unfolding primary_at
primary_took mode inner spells bytes tree rest e = by (front_of bytes) refl e
  where
    by :
        (begins : Front) → front_of bytes ≡ begins →
        primary_by mode true inner bytes begins ≡ Ok (tree, rest) →
        Took (λ taken. IsPrimary mode taken tree) bytes rest
    by front.Quote is e = string_took bytes tree rest mode (front_is_quote bytes is) e
    by front.Word is e = word_took mode inner spells bytes tree rest (front_is_word bytes is) e
    by front.Digits is e = digits_took mode bytes tree rest is e
    by front.Fraction is e = absurd (cc (e))
    by front.Nothing is e = absurd (cc (e))

-- ---- projections

lit_projection : (value : Value) → is_projection (Lit value) ≡ false
lit_projection value = search (rules, the_lemmas)

root_projection : (name : List ℕ) → is_projection (Root name) ≡ false
root_projection name = search (rules, the_lemmas)

index_projection : (of at : Expr) → is_projection (Index of at) ≡ false
index_projection of at = search (rules, the_lemmas)

call_projection :
    (function : Function) (trees : List Expr) → is_projection (Call function trees) ≡ false
call_projection function trees = search (rules, the_lemmas)

word_projection : (word : List ℕ) → is_projection (word_tree word) ≡ false
unfolding word_tree
word_projection word = by (pointwise nat_eq (folded (codes "true")) (folded word))
    (pointwise nat_eq (folded (codes "false")) (folded word))
  where
    by :
        (truth falsehood : Bool) →
        is_projection
        (cond truth (Lit (Truth true)) (cond falsehood (Lit (Truth false)) (Root word))) ≡ false
    by true falsehood = lit_projection (Truth true)
    by false true = lit_projection (Truth false)
    by false false = root_projection word

pub primary_projection :
    (mode : Mode) (spelling : List ℕ) (tree : Expr) → IsPrimary mode spelling tree →
    is_projection tree ≡ false
primary_projection mode _ _ (rule.literal spelling value is) = lit_projection value
primary_projection mode _ _ (rule.name word is) = word_projection word
primary_projection mode _ _ (rule.empty_call word blanks function is found are fits) =
    call_projection function []
primary_projection mode _ _ (rule.call word blanks inside function trees is found are all fits) =
    call_projection function trees

-- what is left behind a tree: no name right behind a projection
Ended : Expr → List ℕ → Type 0
Ended tree rest = is_projection tree ≡ true → goes_name rest ≡ false

-- ---- tails

-- a tail of the tree, whatever spelling and blanks stand before it
TailTook : Mode → Expr → List ℕ → Expr × List ℕ → Type 0
TailTook mode tree bytes read = (tail : List ℕ) ×
    ((bytes ≡ tail ++ read.1) ×
    (Ended read.0 read.1 × ((spelling blanks : List ℕ) → IsExpression mode spelling tree →
    AreBlanks blanks → (goes_name bytes ≡ true → IsApart tree blanks) →
    IsExpression mode (spelling ++ (blanks ++ tail)) read.0)))

index_took :
    (mode : Mode) (inner : List ℕ → Read Expr) → Spells mode inner →
    (tree : Expr) (bytes : List ℕ) (read : Expr × List ℕ) → index_at inner tree bytes ≡ Ok read →
    TailTook mode tree (91 ∷ bytes) read
unfolding index_at TailTook Ended Spells Took
index_took mode inner spells tree bytes read e =
    let one = bind_ok (inner bytes) _ read e in
    by one.0 (spells bytes one.0 one.1.0) (chosen (begins_with 93 one.0.1) _ _ _ one.1.1)
  where
    by :
        (index : Expr × List ℕ) →
        (taken : List ℕ) × ((bytes ≡ taken ++ index.1) × IsText mode taken index.0) →
        (begins_with 93 index.1 ≡ true) × (done (Index tree index.0) (drop 1 index.1) ≡ Ok read) ⊎
        (begins_with 93 index.1 ≡ false) × (stop {A = Expr × List ℕ} BadChar index.1 ≡ Ok read) →
        TailTook mode tree (91 ∷ bytes) read
    by index took (inl parts) =
        let is_tree = same_first (done (Index tree index.0) (drop 1 index.1)) (Index tree index.0)
        read.0 (drop 1 index.1) read.1 refl parts.1 in
        let is_rest = same_second (done (Index tree index.0) (drop 1 index.1)) (Index tree index.0)
        read.0 (drop 1 index.1) read.1 refl parts.1 in
        let cut : 91 ∷ bytes ≡ (91 ∷ took.0 ++ 93 ∷ []) ++ read.1 =
        ap (λ xs. 91 ∷ xs) (took.1.0 ∙ ap (λ xs. took.0 ++ xs) (begins_cut 93 index.1 parts.0 ∙
        ap (λ xs. 93 ∷ xs) is_rest)) ∙ sym (append_assoc (91 ∷ took.0) (93 ∷ []) read.1) in (
          91 ∷ took.0 ++ 93 ∷ [],
          (
            cut,
            (
              λ projected. absurd (false≢true (sym (index_projection tree index.0) ∙
                  (ap is_projection is_tree ∙ projected))),
              λ spelling blanks is are apart.
                  let P : List ℕ → Type 0 = λ xs. IsExpression mode (spelling ++ xs)
                  (Index tree index.0) in
                  subst (IsExpression mode (spelling ++ (blanks ++ (91 ∷ took.0 ++ 93 ∷ []))))
                  is_tree (subst P (append_assoc blanks (91 ∷ took.0) (93 ∷ []))
                  (rule.indexed spelling blanks took.0 tree index.0 is are took.1.1)),
            ),
          ),
        )
    by index took (inr parts) = absurd (cc (parts.1))

member_took :
    (mode : Mode) (tree : Expr) (bytes : List ℕ) (read : Expr × List ℕ) →
    member_at tree bytes ≡ Ok read → TailTook mode tree (46 ∷ bytes) read
unfolding member_at TailTook Ended NamesTook goes_name
member_took mode tree bytes read e = by (chosen (begins_with 42 bytes) _ _ _ e)
  where
    name :
        (is_word bytes ≡ true) ×
        (done (Index tree (Lit (Str (word_of bytes)))) (behind_word bytes) ≡ Ok read) ⊎
        (is_word bytes ≡ false) × (stop {A = Expr × List ℕ} BadChar bytes ≡ Ok read) →
        TailTook mode tree (46 ∷ bytes) read
    name (inl parts) =
        let made = Index tree (Lit (Str (word_of bytes))) in
        let is_tree = same_first (done made (behind_word bytes)) made read.0 (behind_word bytes)
        read.1 refl parts.1 in
        let is_rest = same_second (done made (behind_word bytes)) made read.0 (behind_word bytes)
        read.1 refl parts.1 in
        let ended : Ended read.0 read.1 =
        λ projected. absurd
        (false≢true (sym (index_projection tree (Lit (Str (word_of bytes)))) ∙
        (ap is_projection is_tree ∙ projected))) in (
          46 ∷ word_of bytes,
          (
            ap (λ xs. 46 ∷ xs) (digits_cut is_name_byte bytes ∙ ap (λ xs. word_of bytes ++ xs)
                is_rest),
            (
              ended,
              λ spelling blanks is are apart. subst
                  (IsExpression mode (spelling ++ (blanks ++ 46 ∷ word_of bytes))) is_tree
                  (rule.member spelling blanks (word_of bytes) tree is are (apart parts.0)
                  (word_is bytes parts.0)),
            ),
          ),
        )
    name (inr parts) = absurd (cc (parts.1))

    star :
        begins_with 42 bytes ≡ true → (found : List (List ℕ) × List ℕ) → goes_name found.1 ≡ false →
        NamesTook [] (drop 1 bytes) found → done (Project tree found.0) found.1 ≡ Ok read →
        TailTook mode tree (46 ∷ bytes) read
    star begins found ends took e =
        let is_tree : Project tree took.0 ≡ read.0 = ap (λ xs. Project tree xs) (sym took.1.0) ∙
        same_first (done (Project tree found.0) found.1) (Project tree found.0) read.0 found.1
        read.1 refl e in
        let is_rest = same_second (done (Project tree found.0) found.1) (Project tree found.0)
        read.0 found.1 read.1 refl e in (
          46 ∷ 42 ∷ dotted took.0,
          (
            ap (λ xs. 46 ∷ xs) (begins_cut 42 bytes begins ∙
                ap (λ xs. 42 ∷ xs) (took.1.1.1 ∙ ap (λ xs. dotted took.0 ++ xs) is_rest)),
            (
              λ projected. ap goes_name (sym is_rest) ∙ ends,
              λ spelling blanks is are apart. subst
                  (IsExpression mode (spelling ++ (blanks ++ 46 ∷ 42 ∷ dotted took.0))) is_tree
                  (rule.projected spelling blanks took.0 tree is are took.1.1.0),
            ),
          ),
        )

    by :
        (begins_with 42 bytes ≡ true) ×
        (done (Project tree (names_at (length bytes) [] (drop 1 bytes)).0)
        (names_at (length bytes) [] (drop 1 bytes)).1 ≡ Ok read) ⊎ (begins_with 42 bytes ≡ false) ×
        (cond (is_word bytes) (done (Index tree (Lit (Str (word_of bytes)))) (behind_word bytes))
        (stop {A = Expr × List ℕ} BadChar bytes) ≡ Ok read) →
        TailTook mode tree (46 ∷ bytes) read
    by (inl parts) = star parts.0 (names_at (length bytes) [] (drop 1 bytes))
        (names_ended (length bytes) [] (drop 1 bytes) (omega (arith, length-drop 1 bytes)))
        (names_took (length bytes) [] (drop 1 bytes)) parts.1
    by (inr parts) = name (chosen (is_word bytes) _ _ _ parts.1)

tail_took :
    (mode : Mode) (inner : List ℕ → Read Expr) → Spells mode inner →
    (tree : Expr) (bytes : List ℕ) (read : Expr × List ℕ) → begins_tail bytes ≡ true →
    tail_at inner tree bytes ≡ Ok read → TailTook mode tree bytes read
unfolding tail_at
tail_took mode inner spells tree bytes read begins e = by (chosen (begins_with 91 bytes) _ _ _ e)
  where
    by :
        (begins_with 91 bytes ≡ true) × (index_at inner tree (drop 1 bytes) ≡ Ok read) ⊎
        (begins_with 91 bytes ≡ false) × (member_at tree (drop 1 bytes) ≡ Ok read) →
        TailTook mode tree bytes read
    by (inl parts) =
        let P : List ℕ → Type 0 = λ xs. TailTook mode tree xs read in
        subst P (sym (begins_cut 91 bytes parts.0))
        (index_took mode inner spells tree (drop 1 bytes) read parts.1)
    by (inr parts) =
        let P : List ℕ → Type 0 = λ xs. TailTook mode tree xs read in
        subst P (sym (begins_cut 46 bytes (tail_dot bytes begins parts.0)))
        (member_took mode tree (drop 1 bytes) read parts.1)

-- a name that isn't the projection's own stands behind blanks
apart_of :
    (tree : Expr) (bytes : List ℕ) → Ended tree bytes → goes_name (skip is_blank bytes) ≡ true →
    IsApart tree (blanks_of bytes)
unfolding Ended
apart_of tree bytes ended goes projected = by (blanks_of bytes) (blanks_cut bytes).0
  where
    by : (blanks : List ℕ) → bytes ≡ blanks ++ skip is_blank bytes → 0 < length blanks
    by [] same = absurd (false≢true (sym (ended projected) ∙ (ap goes_name same ∙ goes)))
    by (blank ∷ blanks) cut = omega arith

-- the tails, and the blanks behind them
TailsTook : Mode → List ℕ → List ℕ → Expr × List ℕ → Type 0
TailsTook mode spelling bytes read = (tails : List ℕ) ×
    ((blanks : List ℕ) × ((bytes ≡ tails ++ (blanks ++ read.1)) ×
    (AreBlanks blanks × IsExpression mode (spelling ++ tails) read.0)))

tails_ended :
    (mode : Mode) (spelling bytes : List ℕ) (tree : Expr) (read : Expr × List ℕ) →
    IsExpression mode spelling tree → done tree (skip is_blank bytes) ≡ Ok read →
    TailsTook mode spelling bytes read
unfolding TailsTook
tails_ended mode spelling bytes tree read is e =
    let is_tree = same_first (done tree (skip is_blank bytes)) tree read.0 (skip is_blank bytes)
    read.1 refl e in
    let is_rest = same_second (done tree (skip is_blank bytes)) tree read.0 (skip is_blank bytes)
    read.1 refl e in
    let blanks = blanks_cut bytes in
    let P : List ℕ → Type 0 = λ xs. IsExpression mode xs read.0 in (
      [],
      (
        blanks_of bytes,
        (
          blanks.0 ∙ ap (λ xs. blanks_of bytes ++ xs) is_rest,
          (
            blanks.1,
            subst P (sym (append-nil spelling)) (subst (IsExpression mode spelling) is_tree
                is),
          ),
        ),
      ),
    )

tails_took :
    (mode : Mode) (inner : List ℕ → Read Expr) → Spells mode inner →
    (depth turns : ℕ) (spelling : List ℕ) (tree : Expr) (bytes : List ℕ) (read : Expr × List ℕ) →
    IsExpression mode spelling tree → Ended tree bytes →
    tails_at inner depth turns tree bytes ≡ Ok read → TailsTook mode spelling bytes read
unfolding tails_at TailTook TailsTook
tails_took mode inner spells depth zero spelling tree bytes read is ended e =
    by (chosen (begins_tail (skip is_blank bytes)) _ _ _ e)
  where
    by :
        (begins_tail (skip is_blank bytes) ≡ true) × (Err (deep_fault tree bytes) ≡ Ok read) ⊎
        (begins_tail (skip is_blank bytes) ≡ false) × (done tree (skip is_blank bytes) ≡ Ok read) →
        TailsTook mode spelling bytes read
    by (inl parts) = absurd (cc (parts.1))
    by (inr parts) = tails_ended mode spelling bytes tree read is parts.1
tails_took mode inner spells depth (suc turns) spelling tree bytes read is ended e =
    by (λ spelling next given ends more. tails_took mode inner spells depth turns spelling next.0
    next.1 read given ends more) (chosen (begins_tail (skip is_blank bytes)) _ _ _ e)
  where
    deeper :
        ((spelling : List ℕ) (next : Expr × List ℕ) → IsExpression mode spelling next.0 →
        Ended next.0 next.1 → tails_at inner depth turns next.0 next.1 ≡ Ok read →
        TailsTook mode spelling next.1 read) →
        begins_tail (skip is_blank bytes) ≡ true →
        (nat_le depth (depth_of tree) ≡ true) × (Err (deep_fault tree bytes) ≡ Ok read) ⊎
        (nat_le depth (depth_of tree) ≡ false) ×
        ((tail_at inner tree (skip is_blank bytes) >>= λ next. tails_at inner depth turns next.0
        next.1) ≡ Ok read) →
        TailsTook mode spelling bytes read
    deeper others begins (inl parts) = absurd (cc (parts.1))
    deeper others begins (inr parts) =
        let one = bind_ok (tail_at inner tree (skip is_blank bytes)) _ read parts.1 in
        let tail = tail_took mode inner spells tree (skip is_blank bytes) one.0 begins one.1.0 in
        let blanks = blanks_cut bytes in
        let front = blanks_of bytes ++ tail.0 in
        let found = others (spelling ++ front) one.0 (tail.1.1.1 spelling (blanks_of bytes) is
        blanks.1 (apart_of tree bytes ended)) tail.1.1.0 one.1.1 in
        let cut : bytes ≡ (front ++ found.0) ++ (found.1.0 ++ read.1) = blanks.0 ∙
        (ap (λ xs. blanks_of bytes ++ xs) tail.1.0 ∙
        (sym (append_assoc (blanks_of bytes) tail.0 one.0.1) ∙
        (ap (λ xs. front ++ xs) found.1.1.0 ∙
        sym (append_assoc front found.0 (found.1.0 ++ read.1))))) in
        let P : List ℕ → Type 0 = λ xs. IsExpression mode xs read.0 in (
          front ++ found.0,
          (
            found.1.0,
            (cut, (found.1.1.1.0, subst P (append_assoc spelling front found.0) found.1.1.1.1)),
          ),
        )

    by :
        ((spelling : List ℕ) (next : Expr × List ℕ) → IsExpression mode spelling next.0 →
        Ended next.0 next.1 → tails_at inner depth turns next.0 next.1 ≡ Ok read →
        TailsTook mode spelling next.1 read) →
        (begins_tail (skip is_blank bytes) ≡ true) ×
        (cond (nat_le depth (depth_of tree)) (Err (deep_fault tree bytes))
        (tail_at inner tree (skip is_blank bytes) >>= λ next. tails_at inner depth turns next.0
        next.1) ≡ Ok read) ⊎ (begins_tail (skip is_blank bytes) ≡ false) ×
        (done tree (skip is_blank bytes) ≡ Ok read) →
        TailsTook mode spelling bytes read
    by others (inl parts) = deeper others parts.0 (chosen (nat_le depth (depth_of tree)) _ _ _
        parts.1)
    by others (inr parts) = tails_ended mode spelling bytes tree read is parts.1

-- ---- whole texts

text_spelled :
    (mode : Mode) (inner : List ℕ → Read Expr) → Spells mode inner →
    (depth : ℕ) (bytes : List ℕ) (read : Expr × List ℕ) →
    (primary_at mode true inner (skip is_blank bytes) >>= λ first. tails_at inner depth depth
    first.0 first.1) ≡ Ok read →
    Took (λ taken. IsText mode taken read.0) bytes read.1
unfolding Took TailsTook Ended
text_spelled mode inner spells depth bytes read e =
    let one = bind_ok (primary_at mode true inner (skip is_blank bytes)) _ read e in
    let primary = primary_took mode inner spells (skip is_blank bytes) one.0.0 one.0.1 one.1.0 in
    let ended : Ended one.0.0 one.0.1 =
    λ projected. absurd
    (false≢true (sym (primary_projection mode primary.0 one.0.0 primary.1.1) ∙ projected)) in
    let tails = tails_took mode inner spells depth depth primary.0 one.0.0 one.0.1 read
    (rule.primary primary.0 one.0.0 primary.1.1) ended one.1.1 in
    let blanks = blanks_cut bytes in
    let spelling = primary.0 ++ tails.0 in
    let cut : bytes ≡ (blanks_of bytes ++ spelling ++ tails.1.0) ++ read.1 = blanks.0 ∙
    (ap (λ xs. blanks_of bytes ++ xs) (primary.1.0 ∙ (ap (λ xs. primary.0 ++ xs) tails.1.1.0 ∙
    sym (append_assoc primary.0 tails.0 (tails.1.0 ++ read.1)))) ∙
    (sym (append_assoc (blanks_of bytes) spelling (tails.1.0 ++ read.1)) ∙
    sym (append_assoc (blanks_of bytes ++ spelling) tails.1.0 read.1))) in (
      blanks_of bytes ++ spelling ++ tails.1.0,
      (
        cut,
        rule.text (blanks_of bytes) spelling tails.1.0 read.0 blanks.1 tails.1.1.1.1
            tails.1.1.1.0,
      ),
    )

text_took : (mode : Mode) (depth : ℕ) → Spells mode (text_at mode depth)
unfolding Spells text_at expression_at
text_took mode zero bytes read e =
    let one = bind_ok (primary_at mode false (λ rest. stop BadChar rest) (skip is_blank bytes)) _
    read e in
    absurd (primary_none mode (λ rest. stop BadChar rest) (skip is_blank bytes) one.0 one.1.0)
text_took mode (suc depth) bytes read e =
    let room : nat_lt 0 (suc depth) ≡ true = grind (arith, nat_tests) in
    let f = rw room at e in
    text_spelled mode (text_at mode depth) (text_took mode depth) (suc depth) bytes read f

whole_spelled :
    (mode : Mode) (bytes : List ℕ) (tree : Expr) → text_whole mode bytes ≡ Ok tree →
    IsText mode bytes tree
unfolding text_whole Took Spells
whole_spelled mode bytes tree e =
    let one = bind_ok (text_at mode 50 bytes) _ tree e in
    by one.0 (text_took mode 50 bytes one.0 one.1.0) (chosen (length one.0.1 == 0) _ _ _ one.1.1)
  where
    empty : (xs : List ℕ) → (length xs == 0) ≡ true → xs ≡ []
    empty [] e = refl
    empty (x ∷ xs) e = absurd (let f : length (x ∷ xs) ≡ 0 = grind (arith, nat_tests) in
        omega (arith, f))

    by :
        (read : Expr × List ℕ) →
        (taken : List ℕ) × ((bytes ≡ taken ++ read.1) × IsText mode taken read.0) →
        ((length read.1 == 0) ≡ true) × (read_whole read.0 ≡ Ok tree) ⊎
        ((length read.1 == 0) ≡ false) × (stop {A = Expr} Trailing read.1 ≡ Ok tree) →
        IsText mode bytes tree
    by read took (inl parts) =
        let same : read.0 ≡ tree = cc (parts.1) in
        let cut : bytes ≡ took.0 = took.1.0 ∙ (ap (λ xs. took.0 ++ xs) (empty read.1 parts.0) ∙
        append-nil took.0) in
        let P : List ℕ → Type 0 = λ xs. IsText mode xs tree in
        subst P (sym cut) (subst (IsText mode took.0) same took.1.1)
    by read took (inr parts) = absurd (cc (parts.1))

-- A text that has a tree is spelled so by the rules.
pub parses_spelled :
    (mode : Mode) (bytes : List ℕ) (tree : Expr) → parses mode bytes ≡ Ok tree →
    IsText mode bytes tree
unfolding parses
parses_spelled mode bytes tree e = whole_spelled mode bytes tree
    (placed_ok bytes (text_whole mode bytes) tree e)
