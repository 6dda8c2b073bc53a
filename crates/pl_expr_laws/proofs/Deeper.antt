-- Where a tree may get deeper, a text is read in the same way, but for what was too deep.
use Rattle.std.proofs.Common.{◌≡◌, ℕ, zero, suc, ◌<◌, ◌≤◌, max, Bool, true, false, cond, ◌&&◌, ◌||◌}
use Rattle.std.proofs.Common.{◌==◌, nat_le, nat_lt, not, Option, Some, None, Result, Ok, Err, List}
use Rattle.std.proofs.Common.{[], ◌∷◌, ◌++◌, length, drop, ◌-◌, refl, ap, sym, ◌∙◌, arith}
use Rattle.std.proofs.lemmas.Bool.{false≢true}
use Rattle.std.proofs.lemmas.Bool.Decides.{nat_tests}
use Rattle.pl_reading.specs.Bytes.{begins_with}
use Rattle.pl_reading.specs.Steps.{◌>>=◌}
use Rattle.pl_expr.specs.declared.expr.Expr.{Expr}
use Rattle.pl_expr.specs.declared.expr.Function.{Function}
use Rattle.pl_expr.specs.declared.expr.Mode.{Mode}
use Rattle.pl_expr.specs.declared.fault.ExprCode.{ExprCode}
use Rattle.pl_expr.specs.declared.fault.ExprCode.TheVariants.{BadChar, Trailing, TooDeep}
use Rattle.pl_expr.specs.declared.scan.Front.{Front}
use Rattle.pl_expr.specs.declared.scan.Front.TheVariants as front
use Rattle.pl_expr.specs.Numerals.{is_blank, skip}
use Rattle.pl_expr.specs.Trees.{depth_of, is_projection}
use Rattle.pl_expr.specs.Functions.{named}
use Rattle.pl_expr.specs.Grammar.{Fault, Read, stop, is_word, word_of, behind_word, unquoted}
use Rattle.pl_expr.specs.Grammar.{string_read, behind_argument, arguments_at, call_at, called}
use Rattle.pl_expr.specs.Grammar.{word_at, front_of, primary_by, primary_at, index_at, member_at}
use Rattle.pl_expr.specs.Grammar.{tail_at, begins_tail, begins_member, deep_fault, tails_at}
use Rattle.pl_expr.specs.Grammar.{expression_at, text_at, inner_of, text_whole, placed, parses}
use Rattle.pl_expr.proofs.Again.{room_test}
use Rattle.pl_expr.proofs.Reading.{tails_deep, tails_end, tails_goes, text_is}
use Rattle.pl_expr.proofs.Sound.{primary_none}
use Rattle.pl_expr_laws.specs.Laws.{RefusedHasNone}
use Rattle.pl_expr_laws.proofs.Complete.{whole_reads}

-- the same was read, or the first reader found too deep a tree
pub data Deeper {A : Type 0} : Read A → Read A → Type 0 where
  equal : (read : Read A) → Deeper read read
  deeper : (count : ℕ) (second : Read A) → Deeper (Err (TooDeep, count)) second

deeper_bind :
    {A B : Type 0} (first second : Read A) (next later : A × List ℕ → Read B) →
    Deeper first second →
    ((value : A) (left : List ℕ) → first ≡ Ok (value, left) →
    Deeper (next (value, left)) (later (value, left))) →
    Deeper (first >>= next) (second >>= later)
deeper_bind _ _ next later (equal (Ok read)) others = others read.0 read.1 refl
deeper_bind _ _ next later (equal (Err fault)) others = equal (Err fault)
deeper_bind _ _ next later (deeper count second) others = deeper count (second >>= later)

deeper_if :
    {A : Type 0} (test : Bool) (first second third fourth : Read A) → Deeper first second →
    Deeper third fourth → Deeper (cond test first third) (cond test second fourth)
deeper_if true first second third fourth passes fails = passes
deeper_if false first second third fourth passes fails = fails

-- two readers of what stands inside
unfoldable pub Deepens : (List ℕ → Read Expr) → (List ℕ → Read Expr) → Type 0
Deepens inner later = (bytes : List ℕ) → Deeper (inner bytes) (later bytes)

-- ---- calls and names

arguments_deeper :
    (inner later : List ℕ → Read Expr) → Deepens inner later →
    (function : Function) (turns : ℕ) (read : List Expr) (bytes : List ℕ) →
    Deeper (arguments_at inner function turns read bytes) (arguments_at later function turns read
    bytes)
unfolding arguments_at Deepens
arguments_deeper inner later both function zero read bytes = equal _
arguments_deeper inner later both function (suc turns) read bytes =
    deeper_bind (inner bytes) (later bytes) _ _ (both bytes) (λ argument left e. deeper_bind
    (behind_argument function (length (read ++ argument ∷ [])) left) _ _ _ (equal _)
    (λ more left e. deeper_if more _ _ _ _ (arguments_deeper inner later both function turns
    (read ++ argument ∷ []) left) (equal _)))

call_deeper :
    (inner later : List ℕ → Read Expr) → Deepens inner later →
    (function : Function) (bytes : List ℕ) →
    Deeper (call_at inner function bytes) (call_at later function bytes)
unfolding call_at
call_deeper inner later both function bytes =
    deeper_if (begins_with 41 bytes) _ _ _ _ (equal _) (deeper_bind (arguments_at inner function
    (length bytes) [] bytes) _ _ _ (arguments_deeper inner later both function (length bytes) []
    bytes) (λ read left e. equal _))

called_deeper :
    (inner later : List ℕ → Read Expr) → Deepens inner later →
    (bytes rest : List ℕ) (found : Option Function) →
    Deeper (called inner bytes true rest found) (called later bytes true rest found)
called_deeper inner later both bytes rest None = equal _
called_deeper inner later both bytes rest (Some function) = call_deeper inner later both function
    rest

word_deeper :
    (mode : Mode) (inner later : List ℕ → Read Expr) → Deepens inner later → (bytes : List ℕ) →
    Deeper (word_at mode true inner bytes) (word_at mode true later bytes)
unfolding word_at
word_deeper mode inner later both bytes =
    deeper_if (begins_with 40 (skip is_blank (behind_word bytes))) _ _ _ _ (called_deeper inner
    later both bytes (drop 1 (skip is_blank (behind_word bytes))) (named mode (word_of bytes)))
    (equal _)

-- ---- primaries

primary_deeper :
    (mode : Mode) (inner later : List ℕ → Read Expr) → Deepens inner later → (bytes : List ℕ) →
    Deeper (primary_at mode true inner bytes) (primary_at mode true later bytes)
unfolding primary_at
primary_deeper mode inner later both bytes = by (front_of bytes)
  where
    by :
        (begins : Front) →
        Deeper (primary_by mode true inner bytes begins) (primary_by mode true later bytes begins)
    by front.Word = word_deeper mode inner later both bytes
    by front.Quote = equal _
    by front.Digits = equal _
    by front.Fraction = equal _
    by front.Nothing = equal _

-- where no leaf may stand
shallow_deeper :
    (mode : Mode) (room : Bool) (inner later : List ℕ → Read Expr) (bytes : List ℕ) →
    Deeper (primary_at mode false inner bytes) (primary_at mode room later bytes)
unfolding primary_at word_at
shallow_deeper mode room inner later bytes = by (front_of bytes)
  where
    quote :
        (found : Option (List ℕ × List ℕ)) →
        Deeper (string_read bytes false found) (string_read bytes room found)
    quote None = equal _
    quote (Some read) = deeper (length bytes) _

    call :
        (rest : List ℕ) (found : Option Function) →
        Deeper (called inner bytes false rest found) (called later bytes room rest found)
    call rest None = equal _
    call rest (Some function) = deeper (length bytes) _

    by :
        (begins : Front) →
        Deeper (primary_by mode false inner bytes begins) (primary_by mode room later bytes begins)
    by front.Quote = quote (unquoted (drop 1 bytes))
    by front.Word = deeper_if (begins_with 40 (skip is_blank (behind_word bytes))) _ _ _ _
        (call (drop 1 (skip is_blank (behind_word bytes))) (named mode (word_of bytes)))
        (deeper (length bytes) _)
    by front.Digits = deeper (length bytes) _
    by front.Fraction = equal _
    by front.Nothing = equal _

-- ---- tails

tail_deeper :
    (inner later : List ℕ → Read Expr) → Deepens inner later → (tree : Expr) (bytes : List ℕ) →
    Deeper (tail_at inner tree bytes) (tail_at later tree bytes)
unfolding tail_at index_at Deepens
tail_deeper inner later both tree bytes =
    deeper_if (begins_with 91 bytes) _ _ _ _ (deeper_bind (inner (drop 1 bytes))
    (later (drop 1 bytes)) _ _ (both (drop 1 bytes)) (λ index left e. equal _)) (equal _)

-- a dot right behind a projection that begins no tail begins none however deep the tree may get
pub lone_dot :
    (later : List ℕ → Read Expr) (deep turns : ℕ) (tree : Expr) (bytes : List ℕ) →
    is_projection tree ≡ true → begins_with 46 bytes ≡ true → begins_member (drop 1 bytes) ≡ false →
    tails_at later deep turns tree bytes ≡ Err (BadChar, length (drop 1 bytes))
unfolding tails_at tail_at member_at deep_fault
lone_dot later deep turns tree [] projection dot none = absurd (false≢true dot)
lone_dot later deep turns tree (byte ∷ bytes) projection dot none = by turns
  where
    is : byte ≡ 46
    is = grind (arith, nat_tests)

    neither : (star word : Bool) → star || word ≡ false → (star ≡ false) × (word ≡ false)
    neither true word e = absurd (false≢true (sym e))
    neither false word e = (refl, e)

    parts : (begins_with 42 bytes ≡ false) × (is_word bytes ≡ false)
    parts = neither (begins_with 42 bytes) (is_word bytes) none

    here : deep_fault tree (46 ∷ bytes) ≡ (BadChar, length bytes)
    here = rw (projection, none) refl

    inside :
        (turns : ℕ) (b : Bool) →
        cond b (Err (deep_fault tree (46 ∷ bytes))) (tail_at later tree (46 ∷ bytes) >>=
        λ next. tails_at later deep turns next.0 next.1) ≡ Err (BadChar, length bytes)
    inside turns true = ap (λ fault. Err fault) here
    inside turns false = rw (parts.0, parts.1) refl

    by : (turns : ℕ) → tails_at later deep turns tree (byte ∷ bytes) ≡ Err (BadChar, length bytes)
    by zero = rw is (ap (λ fault. Err fault) here)
    by (suc turns) = rw is (inside turns (nat_le deep (depth_of tree)))

full_deeper :
    (later : List ℕ → Read Expr) (deep turns : ℕ) (tree : Expr) (bytes : List ℕ) →
    Deeper (Err (deep_fault tree bytes)) (tails_at later deep turns tree bytes)
unfolding deep_fault
full_deeper later deep turns tree bytes = by (is_projection tree) (begins_with 46 bytes)
    (begins_member (drop 1 bytes)) refl refl refl
  where
    by :
        (projection dot member : Bool) → is_projection tree ≡ projection →
        begins_with 46 bytes ≡ dot → begins_member (drop 1 bytes) ≡ member →
        Deeper (Err (cond (projection && (dot && not member)) (BadChar, length (drop 1 bytes))
        (TooDeep, length (skip is_blank bytes)))) (tails_at later deep turns tree bytes)
    by true true false e f g = rw (lone_dot later deep turns tree bytes e f g)
        (equal (Err (BadChar, length (drop 1 bytes))))
    by true true true e f g = deeper (length (skip is_blank bytes)) _
    by true false member e f g = deeper (length (skip is_blank bytes)) _
    by false dot member e f g = deeper (length (skip is_blank bytes)) _

-- ---- one turn of the tails

-- one more tail where no turn is left
pub tails_last :
    (inner : List ℕ → Read Expr) (depth : ℕ) (tree : Expr) (rest : List ℕ) →
    begins_tail (skip is_blank rest) ≡ true →
    tails_at inner depth 0 tree rest ≡ Err (deep_fault tree rest)
unfolding tails_at
tails_last inner depth tree rest tail = rw tail refl

tails_deeper :
    (inner later : List ℕ → Read Expr) → Deepens inner later → (depth deep turns others : ℕ) →
    depth ≤ deep → turns ≤ others → (tree : Expr) (bytes : List ℕ) →
    Deeper (tails_at inner depth turns tree bytes) (tails_at later deep others tree bytes)
tails_deeper inner later both depth deep zero others within few tree bytes =
    by (begins_tail (skip is_blank bytes)) refl
  where
    by :
        (b : Bool) → begins_tail (skip is_blank bytes) ≡ b →
        Deeper (tails_at inner depth 0 tree bytes) (tails_at later deep others tree bytes)
    by true tail = rw (tails_last inner depth tree bytes tail) (full_deeper later deep others tree
        bytes)
    by false none = rw (
      tails_end inner depth 0 tree bytes none,
      tails_end later deep others tree
          bytes none,
    ) (equal _)
tails_deeper inner later both depth deep (suc turns) zero within few tree bytes =
    absurd (omega (arith, few))
tails_deeper inner later both depth deep (suc turns) (suc others) within few tree bytes =
    by (tails_deeper inner later both depth deep turns others within (omega (arith, few)))
    (begins_tail (skip is_blank bytes)) (nat_le depth (depth_of tree)) refl refl
  where
    by :
        ((tree : Expr) (bytes : List ℕ) → Deeper (tails_at inner depth turns tree bytes)
        (tails_at later deep others tree bytes)) →
        (b full : Bool) → begins_tail (skip is_blank bytes) ≡ b →
        nat_le depth (depth_of tree) ≡ full →
        Deeper (tails_at inner depth (suc turns) tree bytes) (tails_at later deep (suc others) tree
        bytes)
    by next false full none e = rw (
      tails_end inner depth (suc turns) tree bytes none,
      tails_end
          later deep (suc others) tree bytes none,
    ) (equal _)
    by next true true tail e =
        let full : depth ≤ depth_of tree = grind (arith, nat_tests) in
        rw (tails_deep inner depth (suc turns) tree bytes tail full) (full_deeper later deep
        (suc others) tree bytes)
    by next true false tail e =
        let room : depth_of tree < depth = grind (arith, nat_tests) in
        rw (
          tails_goes inner depth turns tree bytes tail room,
          tails_goes later deep others tree
              bytes tail (omega (arith, room, within)),
        ) (deeper_bind (tail_at inner tree
        (skip is_blank bytes)) (tail_at later tree (skip is_blank bytes)) _ _ (tail_deeper inner
        later both tree (skip is_blank bytes)) (λ tree left e. next tree left))

-- ---- texts

pub text_deeper :
    (mode : Mode) (depth deep : ℕ) → depth ≤ deep → (bytes : List ℕ) →
    Deeper (text_at mode depth bytes) (text_at mode deep bytes)
unfolding text_at expression_at Deepens
text_deeper mode zero deep within bytes =
    rw (text_is mode deep bytes) (deeper_bind (primary_at mode false (λ rest. stop BadChar rest)
    (skip is_blank bytes)) (primary_at mode (nat_lt 0 deep) (inner_of mode deep)
    (skip is_blank bytes)) _ _ (shallow_deeper mode (nat_lt 0 deep) (λ rest. stop BadChar rest)
    (inner_of mode deep) (skip is_blank bytes)) (λ first left e. absurd (primary_none mode
    (λ rest. stop BadChar rest) (skip is_blank bytes) (first, left) e)))
text_deeper mode (suc depth) zero within bytes = absurd (omega (arith, within))
text_deeper mode (suc depth) (suc deep) within bytes =
    let both = text_deeper mode depth deep (omega (arith, within)) in
    rw (room_test (suc depth) (omega arith), room_test (suc deep) (omega arith))
    (deeper_bind (primary_at mode true (text_at mode depth) (skip is_blank bytes))
    (primary_at mode true (text_at mode deep) (skip is_blank bytes)) _ _ (primary_deeper mode
    (text_at mode depth) (text_at mode deep) both (skip is_blank bytes)) (λ first left e.
    tails_deeper (text_at mode depth) (text_at mode deep) both (suc depth) (suc deep)
    (suc depth) (suc deep) within within first left))

-- ---- whole texts

-- a fault of a text that is read whole where a tree may get deeper
depth_alone :
    (first second : Read Expr) (tree : Expr) (fault : Fault) → Deeper first second →
    second ≡ Ok (tree, []) →
    (first >>= λ read. cond (length read.1 == 0) (Ok read.0) (stop {A = Expr} Trailing read.1)) ≡
    Err fault →
    fault.0 ≡ TooDeep
depth_alone _ _ tree fault (equal read) e f =
    absurd (cc (sym f ∙ ap (λ (found : Read Expr). found >>= λ read. cond (length read.1 == 0)
    (Ok read.0) (stop {A = Expr} Trailing read.1)) e))
depth_alone _ _ tree fault (deeper count second) e f =
    let p : Fault = (TooDeep, count) in
    let same : p ≡ fault = cc in
    ap (λ (r : Fault). r.0) (sym same)

pub placed_err :
    (bytes : List ℕ) (found : Result Expr Fault) (code : ExprCode) (offset : ℕ) →
    placed bytes found ≡ Err (code, offset) →
    (fault : Fault) × ((found ≡ Err fault) × ((fault.0 ≡ code) × (length bytes - fault.1 ≡ offset)))
placed_err bytes (Ok tree) code offset e = absurd (cc (e))
placed_err bytes (Err fault) code offset e =
    let p : Fault = (fault.0, length bytes - fault.1) in
    let q : Fault = (code, offset) in
    let same : p ≡ q = cc in
    (fault, (refl, (ap (λ (r : Fault). r.0) same, ap (λ (r : Fault). r.1) same)))

-- A text with another fault than a tree that gets too deep is spelled as no tree.
pub refused_has_none : RefusedHasNone
unfolding parses text_whole
refused_has_none mode bytes code offset e other tree is =
    let found = placed_err bytes (text_whole mode bytes) code offset e in
    let deep = max 50 (depth_of tree) in
    other (sym found.1.1.0 ∙ depth_alone (text_at mode 50 bytes) (text_at mode deep bytes) tree
    found.0 (text_deeper mode 50 deep (omega arith) bytes) (whole_reads mode deep bytes tree is
    (omega arith)) found.1.0)
