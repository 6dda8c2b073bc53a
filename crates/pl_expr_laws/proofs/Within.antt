-- What a reader leaves, and where its faults are: never before the bytes that it was given.
use Rattle.std.proofs.Common.{◌≡◌, ℕ, zero, suc, ◌<◌, ◌≤◌, Bool, true, false, cond, ◌&&◌, ◌==◌}
use Rattle.std.proofs.Common.{nat_le, nat_lt, not, Option, Some, None, ℤ, Ok, Err, List, [], ◌∷◌}
use Rattle.std.proofs.Common.{◌++◌, length, drop, refl, ap, sym, ◌∙◌, arith}
use Rattle.std.specs.List.{prefix_len}
use Rattle.std.specs.Char.{is_ascii_digit}
use Rattle.std.proofs.lemmas.List.{length-append, length-drop}
use Rattle.std.proofs.lemmas.Bool.{false≢true}
use Rattle.pl_reading.specs.Bytes.{begins_with}
use Rattle.pl_reading.specs.Steps.{◌>>=◌}
use Rattle.pl_expr.specs.declared.expr.Expr.{Expr}
use Rattle.pl_expr.specs.declared.expr.Function.{Function}
use Rattle.pl_expr.specs.declared.expr.Mode.{Mode}
use Rattle.pl_expr.specs.declared.fault.ExprCode.{ExprCode}
use Rattle.pl_expr.specs.declared.fault.ExprCode.TheVariants.{BadChar, UnclosedString}
use Rattle.pl_expr.specs.declared.fault.ExprCode.TheVariants.{UnknownFunction, BadCount, TooDeep}
use Rattle.pl_expr.specs.declared.fault.ExprCode.TheVariants.{Fraction, NumberRange}
use Rattle.pl_expr.specs.declared.scan.Front.{Front}
use Rattle.pl_expr.specs.declared.scan.Front.TheVariants as front
use Rattle.pl_expr.specs.Numerals.{is_blank, skip, goes_on, behind_more, runs_of, behind_runs}
use Rattle.pl_expr.specs.Trees.{depth_of, is_projection, quoted, dotted}
use Rattle.pl_expr.specs.Functions.{most_of, may_follow, takes}
use Rattle.pl_expr.specs.Grammar.{Read, stop, is_name_byte, is_word, behind_word, unquoted}
use Rattle.pl_expr.specs.Grammar.{string_read, number_read, version_read, unsigned_at, signed_at}
use Rattle.pl_expr.specs.Grammar.{number_at, behind_argument, arguments_at, call_at, called}
use Rattle.pl_expr.specs.Grammar.{word_at, front_of, primary_by, primary_at, names_at, index_at}
use Rattle.pl_expr.specs.Grammar.{member_at, tail_at, begins_tail, begins_member, deep_fault}
use Rattle.pl_expr.specs.Grammar.{tails_at, expression_at, text_at}
use Rattle.pl_expr.proofs.Spelled.{NamesTook, quoted_text, names_took}
use Rattle.pl_expr_laws.specs.Laws.{fits_no_text}

-- At most so many bytes are left, and no more are left behind the place of a fault that tells of
-- what fits no text.
abbrev pub Within : {A : Type 0} → ℕ → Read A → Type 0
Within bound (Ok read) = length read.1 ≤ bound
Within bound (Err fault) = fits_no_text fault.0 ≡ true → fault.1 ≤ bound

-- what a reader is given is at most so long
unfoldable pub AllWithin : (List ℕ → Read Expr) → Type 0
AllWithin inner = (bound : ℕ) (bytes : List ℕ) → length bytes ≤ bound → Within bound (inner bytes)

pub within_ok :
    {A : Type 0} (bound : ℕ) (read : Read A) (value : A) (left : List ℕ) → Within bound read →
    read ≡ Ok (value, left) → length left ≤ bound
within_ok {A} bound (Ok found) value left within e =
    let p : A × List ℕ = found in
    let q : A × List ℕ = (value, left) in
    let same : p ≡ q = cc in
    omega (arith, within, ap (λ (r : A × List ℕ). length r.1) same)
within_ok bound (Err fault) value left within e = absurd (cc (e))

pub within_bind :
    {A B : Type 0} (bound : ℕ) (read : Read A) (next : A × List ℕ → Read B) → Within bound read →
    ((value : A) (left : List ℕ) → length left ≤ bound → Within bound (next (value, left))) →
    Within bound (read >>= next)
within_bind bound (Ok found) next within others = others found.0 found.1 within
within_bind bound (Err fault) next within others = within

pub within_if :
    {A : Type 0} (bound : ℕ) (test : Bool) (one two : Read A) → (test ≡ true → Within bound one) →
    (test ≡ false → Within bound two) → Within bound (cond test one two)
within_if bound true one two passes fails = passes refl
within_if bound false one two passes fails = fails refl

-- a fault that tells nothing of the texts that go on
pub tells_nothing :
    (count bound : ℕ) (code : ExprCode) → fits_no_text code ≡ false → fits_no_text code ≡ true →
    count ≤ bound
tells_nothing count bound code nothing told = absurd (false≢true (sym nothing ∙ told))

pub skip_short : (test : ℕ → Bool) (bytes : List ℕ) → length (skip test bytes) ≤ length bytes
skip_short test bytes = omega (arith, length-drop (prefix_len test bytes) bytes)

-- ---- literals

pub unquoted_short :
    (bytes text left : List ℕ) → unquoted bytes ≡ Some (text, left) → length left < length bytes
unquoted_short bytes text left e = omega (
  arith,
  ap length (quoted_text bytes text left e),
  length-append (quoted text) (39 ∷ left),
)

pub string_within :
    (bound : ℕ) (bytes : List ℕ) (room : Bool) → length (drop 1 bytes) ≤ bound →
    Within bound (string_read bytes room (unquoted (drop 1 bytes)))
string_within bound bytes room short = by (unquoted (drop 1 bytes)) room refl
  where
    by :
        (found : Option (List ℕ × List ℕ)) (room : Bool) → unquoted (drop 1 bytes) ≡ found →
        Within bound (string_read bytes room found)
    by None room e = tells_nothing _ bound UnclosedString refl
    by (Some read) false e = tells_nothing _ bound TooDeep refl
    by (Some read) true e = omega (arith, short, unquoted_short (drop 1 bytes) read.0 read.1 e)

pub number_within :
    (bound : ℕ) (bytes rest : List ℕ) (found : Option ℤ) → length rest ≤ bound →
    Within bound (number_read bytes rest found)
number_within bound bytes rest None short = tells_nothing _ bound NumberRange refl
number_within bound bytes rest (Some number) short = short

pub version_within :
    (bound : ℕ) (bytes rest : List ℕ) (found : Option (List ℕ)) → length rest ≤ bound →
    Within bound (version_read bytes rest found)
version_within bound bytes rest None short = tells_nothing _ bound NumberRange refl
version_within bound bytes rest (Some segments) short = short

pub behind_more_short : (more : ℕ) (bytes : List ℕ) → length (behind_more more bytes) ≤ length bytes
unfolding behind_more
behind_more_short zero bytes = omega arith
behind_more_short (suc more) bytes = by (goes_on bytes) (behind_more_short more (skip is_ascii_digit
    (drop 1 bytes)))
  where
    by :
        (b : Bool) →
        length (behind_more more (skip is_ascii_digit (drop 1 bytes))) ≤ length (skip is_ascii_digit
        (drop 1 bytes)) →
        length (cond b (behind_more more (skip is_ascii_digit (drop 1 bytes))) bytes) ≤ length bytes
    by true others = omega (
      arith,
      others,
      skip_short is_ascii_digit (drop 1 bytes),
      length-drop 1
          bytes,
    )
    by false others = omega arith

pub unsigned_within :
    (bound : ℕ) (bytes : List ℕ) → length (skip is_ascii_digit bytes) ≤ bound →
    Within bound (unsigned_at bytes)
unfolding unsigned_at
unsigned_within bound bytes short =
    within_if bound (length (runs_of bytes) == 1) _ _ (λ one. number_within bound bytes
    (skip is_ascii_digit bytes) _ short) (λ more. within_if bound (length (runs_of bytes) == 2)
    _ _ (λ two. tells_nothing _ bound Fraction refl) (λ many. version_within bound bytes
    (behind_runs bytes) _ (omega (
      arith,
      short,
      behind_more_short 3 (skip is_ascii_digit
          bytes),
    ))))

pub signed_within :
    (bound : ℕ) (bytes body : List ℕ) → length body ≤ bound → Within bound (signed_at bytes body)
unfolding signed_at
signed_within bound bytes body short =
    within_if bound (prefix_len is_ascii_digit body == 0) _ _ (λ none told. short)
    (λ some. within_if bound (length (runs_of body) == 2) _ _ (λ two. tells_nothing _ bound
    Fraction refl) (λ other. number_within bound bytes (skip is_ascii_digit body) _
    (omega (arith, short, skip_short is_ascii_digit body))))

-- ---- calls and names

pub behind_within :
    (bound : ℕ) (function : Function) (count : ℕ) (bytes : List ℕ) → length bytes ≤ bound →
    Within bound (behind_argument function count bytes)
unfolding behind_argument
behind_within bound function count bytes short =
    let one = length-drop 1 bytes in
    within_if bound (begins_with 44 bytes) _ _ (λ comma. within_if bound
    (may_follow (most_of function) count) _ _ (λ follows. omega (arith, short, one))
    (λ full. tells_nothing _ bound BadCount refl)) (λ other. within_if bound
    (begins_with 41 bytes) _ _ (λ paren. within_if bound (takes function count) _ _
    (λ fits. omega (arith, short, one)) (λ wrong. tells_nothing _ bound BadCount refl))
    (λ stray told. short))

pub arguments_within :
    (inner : List ℕ → Read Expr) → AllWithin inner →
    (bound : ℕ) (function : Function) (turns : ℕ) (read : List Expr) (bytes : List ℕ) →
    length bytes ≤ bound → Within bound (arguments_at inner function turns read bytes)
unfolding arguments_at AllWithin
arguments_within inner all bound function zero read bytes short = λ told. short
arguments_within inner all bound function (suc turns) read bytes short =
    within_bind bound (inner bytes) _ (all bound bytes short) (λ argument left fits. within_bind
    bound (behind_argument function (length (read ++ argument ∷ [])) left) _
    (behind_within bound function _ left fits) (λ more left fits. within_if bound more _ _
    (λ another. arguments_within inner all bound function turns (read ++ argument ∷ []) left
    fits) (λ last. fits)))

pub call_within :
    (inner : List ℕ → Read Expr) → AllWithin inner →
    (bound : ℕ) (function : Function) (bytes : List ℕ) → length bytes ≤ bound →
    Within bound (call_at inner function bytes)
unfolding call_at
call_within inner all bound function bytes short =
    within_if bound (begins_with 41 bytes) _ _ (λ paren. within_if bound (takes function 0) _ _
    (λ fits. omega (arith, short, length-drop 1 bytes)) (λ wrong. tells_nothing _ bound BadCount
    refl)) (λ other. within_bind bound (arguments_at inner function (length bytes) [] bytes) _
    (arguments_within inner all bound function (length bytes) [] bytes short) (λ read left fits.
    fits))

pub called_within :
    (inner : List ℕ → Read Expr) → AllWithin inner →
    (bound : ℕ) (bytes : List ℕ) (room : Bool) (rest : List ℕ) (found : Option Function) →
    length rest ≤ bound → Within bound (called inner bytes room rest found)
called_within inner all bound bytes room rest None short = tells_nothing _ bound UnknownFunction
    refl
called_within inner all bound bytes false rest (Some function) short = tells_nothing _ bound TooDeep
    refl
called_within inner all bound bytes true rest (Some function) short = call_within inner all bound
    function rest short

pub word_within :
    (mode : Mode) (room : Bool) (inner : List ℕ → Read Expr) → AllWithin inner →
    (bound : ℕ) (bytes : List ℕ) → length (behind_word bytes) ≤ bound →
    Within bound (word_at mode room inner bytes)
unfolding word_at
word_within mode room inner all bound bytes short =
    let inside = skip is_blank (behind_word bytes) in
    within_if bound (begins_with 40 inside) _ _ (λ paren. called_within inner all bound bytes room
    (drop 1 inside) _ (omega (
      arith,
      short,
      skip_short is_blank (behind_word bytes),
      length-drop
          1 inside,
    ))) (λ alone. within_if bound room _ _ (λ leaf. short) (λ none. tells_nothing _
    bound TooDeep refl))

-- ---- primaries

pub number_at_within :
    (bound : ℕ) (bytes : List ℕ) → length bytes ≤ bound → Within bound (number_at bytes)
number_at_within bound bytes short =
    within_if bound (begins_with 45 bytes) _ _ (λ minus. signed_within bound bytes (drop 1 bytes)
    (omega (arith, short, length-drop 1 bytes))) (λ other. unsigned_within bound bytes
    (omega (arith, short, skip_short is_ascii_digit bytes)))

pub primary_within :
    (mode : Mode) (room : Bool) (inner : List ℕ → Read Expr) → AllWithin inner →
    (bound : ℕ) (bytes : List ℕ) → length bytes ≤ bound →
    Within bound (primary_at mode room inner bytes)
unfolding primary_at
primary_within mode room inner all bound bytes short = by (front_of bytes)
  where
    by : (begins : Front) → Within bound (primary_by mode room inner bytes begins)
    by front.Quote = string_within bound bytes room (omega (arith, short, length-drop 1 bytes))
    by front.Word = word_within mode room inner all bound bytes (omega (
      arith,
      short,
      skip_short
          is_name_byte bytes,
    ))
    by front.Digits = within_if bound room _ _ (λ leaf. number_at_within bound bytes short)
        (λ none. tells_nothing _ bound TooDeep refl)
    by front.Fraction = tells_nothing _ bound Fraction refl
    by front.Nothing = λ told. short

-- ---- tails

pub names_short :
    (turns : ℕ) (read : List (List ℕ)) (bytes : List ℕ) →
    length (names_at turns read bytes).1 ≤ length bytes
unfolding NamesTook
names_short turns read bytes =
    let took = names_took turns read bytes in
    omega (arith, ap length took.1.1.1, length-append (dotted took.0) (names_at turns read bytes).1)

pub index_within :
    (inner : List ℕ → Read Expr) → AllWithin inner → (bound : ℕ) (tree : Expr) (bytes : List ℕ) →
    length bytes ≤ bound → Within bound (index_at inner tree bytes)
unfolding index_at AllWithin
index_within inner all bound tree bytes short =
    within_bind bound (inner bytes) _ (all bound bytes short) (λ index left fits. within_if bound
    (begins_with 93 left) _ _ (λ bracket. omega (arith, fits, length-drop 1 left))
    (λ other told. fits))

pub member_within :
    (bound : ℕ) (tree : Expr) (bytes : List ℕ) → length bytes ≤ bound →
    Within bound (member_at tree bytes)
unfolding member_at
member_within bound tree bytes short =
    within_if bound (begins_with 42 bytes) _ _ (λ star. omega (
      arith,
      short,
      names_short
          (length bytes) [] (drop 1 bytes),
      length-drop 1 bytes,
    )) (λ other. within_if bound
    (is_word bytes) _ _ (λ word. omega (arith, short, skip_short is_name_byte bytes))
    (λ stray told. short))

pub tail_within :
    (inner : List ℕ → Read Expr) → AllWithin inner → (bound : ℕ) (tree : Expr) (bytes : List ℕ) →
    length (drop 1 bytes) ≤ bound → Within bound (tail_at inner tree bytes)
unfolding tail_at
tail_within inner all bound tree bytes short =
    within_if bound (begins_with 91 bytes) _ _ (λ bracket. index_within inner all bound tree
    (drop 1 bytes) short) (λ dot. member_within bound tree (drop 1 bytes) short)

-- What stands behind blanks and a tail's first byte is within the bound, as is all behind the
-- blanks where no tail
-- begins.
unfoldable pub Opens : ℕ → List ℕ → Type 0
Opens bound bytes = (length (drop 1 (skip is_blank bytes)) ≤ bound) ×
    ((begins_tail (skip is_blank bytes) ≡ false → length (skip is_blank bytes) ≤ bound) ×
    (begins_with 46 bytes ≡ true → length (drop 1 bytes) ≤ bound))

pub opens_short : (bound : ℕ) (bytes : List ℕ) → length bytes ≤ bound → Opens bound bytes
unfolding Opens
opens_short bound bytes short =
    let skipped = skip_short is_blank bytes in (
      omega (arith, short, skipped, length-drop 1 (skip is_blank bytes)),
      (λ ends. omega (arith, short, skipped), λ dot. omega (arith, short, length-drop 1 bytes)),
    )

pub deep_within :
    (bound : ℕ) (tree : Expr) (bytes : List ℕ) →
    (begins_with 46 bytes ≡ true → length (drop 1 bytes) ≤ bound) →
    Within {A = Expr} bound (Err (deep_fault tree bytes))
unfolding deep_fault
deep_within bound tree bytes short = by (is_projection tree) (begins_with 46 bytes)
    (begins_member (drop 1 bytes)) refl
  where
    by :
        (projection dot member : Bool) → begins_with 46 bytes ≡ dot →
        Within {A = Expr} bound (Err (cond (projection && (dot && not member)) (
          BadChar,
          length
              (drop 1 bytes),
        ) (TooDeep, length (skip is_blank bytes))))
    by true true false e = λ told. short e
    by true true true e = tells_nothing _ bound TooDeep refl
    by true false member e = tells_nothing _ bound TooDeep refl
    by false dot member e = tells_nothing _ bound TooDeep refl

pub tails_within :
    (inner : List ℕ → Read Expr) → AllWithin inner →
    (bound depth turns : ℕ) (tree : Expr) (bytes : List ℕ) → Opens bound bytes →
    Within bound (tails_at inner depth turns tree bytes)
unfolding tails_at Opens
tails_within inner all bound depth zero tree bytes opens =
    within_if bound (begins_tail (skip is_blank bytes)) _ _ (λ tail. deep_within bound tree bytes
    opens.1.1) (λ ends. opens.1.0 ends)
tails_within inner all bound depth (suc turns) tree bytes opens =
    within_if bound (begins_tail (skip is_blank bytes)) _ _ (λ tail. within_if bound
    (nat_le depth (depth_of tree)) _ _ (λ deep. deep_within bound tree bytes opens.1.1)
    (λ room. within_bind bound (tail_at inner tree (skip is_blank bytes)) _ (tail_within inner
    all bound tree (skip is_blank bytes) opens.0) (λ next left fits. tails_within inner all
    bound depth turns next left (opens_short bound left fits)))) (λ ends. opens.1.0 ends)

-- ---- texts

pub expression_within :
    (mode : Mode) (depth : ℕ) (inner : List ℕ → Read Expr) → AllWithin inner →
    (bound : ℕ) (bytes : List ℕ) → length (skip is_blank bytes) ≤ bound →
    Within bound (expression_at mode depth inner bytes)
unfolding expression_at
expression_within mode depth inner all bound bytes short =
    within_bind bound (primary_at mode (nat_lt 0 depth) inner (skip is_blank bytes)) _
    (primary_within mode (nat_lt 0 depth) inner all bound (skip is_blank bytes) short)
    (λ first left fits. tails_within inner all bound depth depth first left (opens_short bound
    left fits))

pub text_within : (mode : Mode) (depth : ℕ) → AllWithin (text_at mode depth)
unfolding text_at AllWithin
text_within mode zero bound bytes short = expression_within mode zero (λ rest. stop BadChar rest)
    (λ bound bytes short told. short) bound bytes (omega (arith, short, skip_short is_blank bytes))
text_within mode (suc depth) bound bytes short = expression_within mode (suc depth)
    (text_at mode depth) (text_within mode depth) bound bytes (omega (
      arith,
      short,
      skip_short
          is_blank bytes,
    ))
