-- What the rules spell is read as its tree.
use Rattle.std.proofs.Common.{◌≡◌, ℕ, zero, suc, ◌+◌, ◌-◌, ◌<◌, ◌≤◌, max, Bool, true, false, cond}
use Rattle.std.proofs.Common.{◌&&◌, ◌||◌, ◌==◌, Some, Ok, List, [], ◌∷◌, ◌++◌, length, drop, map}
use Rattle.std.proofs.Common.{refl, ap, sym, subst, ◌∙◌, append_assoc, rules, arith}
use Rattle.std.specs.List.{prefix_len, list_all, join_with_byte}
use Rattle.std.specs.Char.{is_ascii_digit}
use Rattle.std.proofs.lemmas.List.{append-nil, length-append}
use Rattle.std.proofs.lemmas.Bool.{and_parts, false≢true}
use Rattle.std.proofs.lemmas.Bool.Decides.{nat_tests}
use Rattle.pl_reading.specs.Bytes.{begins_with}
use Rattle.pl_reading.specs.Steps.{◌>>=◌}
use Rattle.pl_base.specs.declared.value.Value.{Value, Str}
use Rattle.pl_expr.specs.declared.expr.Expr.{Expr, the_lemmas}
use Rattle.pl_expr.specs.declared.expr.Expr.TheVariants.{Lit, Index, Project, Call}
use Rattle.pl_expr.specs.declared.expr.Expr.TheViews.{out-Expr}
use Rattle.pl_expr.specs.declared.expr.Function.{Function}
use Rattle.pl_expr.specs.declared.expr.Mode.{Mode}
use Rattle.pl_expr.specs.Numerals.{is_blank, skip, goes_on}
use Rattle.pl_expr.specs.Trees.{depth_of, deepest, is_projection, dotted}
use Rattle.pl_expr.specs.Functions.{most_of, may_follow, takes, named}
use Rattle.pl_expr.specs.Grammar.{Read, begins_name, is_name_byte, is_word, behind_argument}
use Rattle.pl_expr.specs.Grammar.{arguments_at, call_at, word_at, primary_by, primary_at, member_at}
use Rattle.pl_expr.specs.Grammar.{names_at, index_at, tail_at, begins_tail, tails_at, expression_at}
use Rattle.pl_expr.specs.Grammar.{text_at, text_whole, parses}
use Rattle.pl_expr.specs.Given.{IsName}
use Rattle.pl_expr.specs.Spelling.{AreBlanks, AreDigits, AreRuns, IsLiteralText, IsText}
use Rattle.pl_expr.specs.Spelling.{IsExpression, IsPrimary, AreArguments}
use Rattle.pl_expr.specs.Spelling as rule
use Rattle.pl_expr.proofs.Leaves.{Closed, at_end, at_index, at_bracket, at_paren, at_comma, at_star}
use Rattle.pl_expr.proofs.Leaves.{Behind, closed_behind, take_front, skip_front, front_word}
use Rattle.pl_expr.proofs.Leaves.{root_read, spelled_read}
use Rattle.pl_expr.proofs.Again.{layer_is, depth_index, depth_project, depth_call, depth_given}
use Rattle.pl_expr.proofs.Again.{starts, starts_append, starts_skip, starts_paren, starts_some}
use Rattle.pl_expr.proofs.Again.{starts_word, starts_digits, room_test, front_read, names_read}
use Rattle.pl_expr.proofs.Again.{length_dotted, follow_test, takes_most}
use Rattle.pl_expr.proofs.Depths.{deepest_push}
use Rattle.pl_expr.proofs.Reading.{Continues, continues_end, continues_step, text_is}
use Rattle.pl_expr.proofs.Sound.{positive, same_first, parses_given}
use Rattle.pl_expr.proofs.Spelled.{parses_spelled}
use Rattle.pl_expr_laws.specs.Laws.{ReadAsSpelled, HasOneTree}

-- ---- blanks

pub skip_all :
    (test : ℕ → Bool) (xs rest : List ℕ) → list_all test xs ≡ true →
    skip test (xs ++ rest) ≡ skip test rest
skip_all test [] rest all = refl
skip_all test (x ∷ xs) rest all =
    let parts = and_parts (test x) (list_all test xs) all in
    let long : prefix_len test (x ∷ xs ++ rest) ≡ suc (prefix_len test (xs ++ rest)) =
    rw parts.0 (omega arith) in
    ap (λ n. drop n (x ∷ xs ++ rest)) long ∙ skip_all test xs rest parts.1

blank_tests :
    (byte : ℕ) → is_blank byte ≡ true →
    (is_name_byte byte ≡ false) × (((byte == 46) ≡ false) × (((byte == 39) ≡ false) ×
    ((byte == 41) ≡ false)))
blank_tests byte blank = (
  grind (arith, nat_tests),
  (
    grind (arith, nat_tests),
    (grind (arith, nat_tests), grind (arith, nat_tests)),
  ),
)

behind_blanks : (blanks rest : List ℕ) → AreBlanks blanks → Behind rest → Behind (blanks ++ rest)
behind_blanks [] rest are behind = behind
behind_blanks (blank ∷ blanks) rest are behind =
    let tests = blank_tests blank (and_parts (is_blank blank) (list_all is_blank blanks) are).0 in (
      rw tests.0 refl,
      (
        no_run blank (blanks ++ rest) tests.1.0,
        (
          tests.1.1.0,
          ap (begins_with 40)
              (skip_all is_blank (blank ∷ blanks) rest are) ∙ behind.1.1.1,
        ),
      ),
    )
  where
    no_run : (byte : ℕ) (bytes : List ℕ) → (byte == 46) ≡ false → goes_on (byte ∷ bytes) ≡ false
    no_run byte [] other = refl
    no_run byte (next ∷ bytes) other = rw other refl

-- no name stands right behind blanks
no_name :
    (blanks rest : List ℕ) → 0 < length blanks → AreBlanks blanks →
    (begins_with 46 (blanks ++ rest) && is_word (drop 1 (blanks ++ rest))) ≡ false
no_name [] rest some are = absurd (omega (arith, some))
no_name (blank ∷ blanks) rest some are = rw (blank_tests blank (and_parts (is_blank blank)
    (list_all is_blank blanks) are).0).1.0 refl

-- ---- what spellings begin with

version_starts :
    (runs : List (List ℕ)) → AreRuns runs → 2 < length runs → starts (join_with_byte 46 runs) ≡ true
version_starts [] are some = absurd (omega (arith, some))
version_starts (digits ∷ []) are some = absurd (omega (arith, some))
version_starts (digits ∷ next ∷ runs) are some = starts_append digits (46 ∷ join_with_byte 46
    (next ∷ runs)) (starts_digits digits are.0.0 are.0.1)

literal_starts :
    (spelling : List ℕ) (value : Value) → IsLiteralText spelling value → starts spelling ≡ true
unfolding starts
literal_starts _ _ (rule.number digits value are fits) = starts_digits digits are.0 are.1
literal_starts _ _ (rule.negative digits value are fits) = refl
literal_starts _ _ (rule.version runs segments are some few fits) = version_starts runs are some
literal_starts _ _ (rule.string text) = refl

primary_starts :
    (mode : Mode) (spelling : List ℕ) (tree : Expr) → IsPrimary mode spelling tree →
    starts spelling ≡ true
primary_starts mode _ _ (rule.literal spelling value is) = literal_starts spelling value is
primary_starts mode _ _ (rule.name word is) = starts_word word is.0
primary_starts mode _ _ (rule.empty_call word blanks function is found are fits) = starts_append
    word (blanks ++ 40 ∷ 41 ∷ []) (starts_word word is.0)
primary_starts mode _ _ (rule.call word blanks inside function trees is found are all fits) =
    starts_append word (blanks ++ 40 ∷ inside ++ 41 ∷ []) (starts_word word is.0)

expression_starts :
    (mode : Mode) (spelling : List ℕ) (tree : Expr) → IsExpression mode spelling tree →
    starts spelling ≡ true
expression_starts mode _ _ (rule.primary spelling tree is) = primary_starts mode spelling tree is
expression_starts mode _ _ (rule.member spelling blanks name tree is are apart word) = starts_append
    spelling (blanks ++ 46 ∷ name) (expression_starts mode spelling tree is)
expression_starts mode _ _ (rule.indexed spelling blanks inside tree index is are at) =
    starts_append spelling (blanks ++ 91 ∷ inside ++ 93 ∷ []) (expression_starts mode spelling tree
    is)
expression_starts mode _ _ (rule.projected spelling blanks members tree is are names) =
    starts_append spelling (blanks ++ 46 ∷ 42 ∷ dotted members) (expression_starts mode spelling
    tree is)

-- a text is a byte or more, and doesn't begin with a `)`
text_opens :
    (mode : Mode) (bytes : List ℕ) (tree : Expr) → IsText mode bytes tree →
    (0 < length bytes) × ((rest : List ℕ) → begins_with 41 (bytes ++ rest) ≡ false)
text_opens mode _ _ (rule.text [] spelling after tree before is behind) =
    let begins = starts_append spelling after (expression_starts mode spelling tree is) in (
      starts_some (spelling ++ after) begins,
      λ rest. starts_paren ((spelling ++ after) ++ rest)
          (starts_append (spelling ++ after) rest begins),
    )
text_opens mode _ _ (rule.text (blank ∷ blanks) spelling after tree before is behind) = (
  omega arith,
  λ rest. (blank_tests blank (and_parts (is_blank blank) (list_all is_blank blanks)
      before).0).1.1.1,
)

-- ---- what is read of a text

-- each text of at most that depth is read as its tree
pub TextReads : Mode → ℕ → Type 0
TextReads mode depth = (bytes : List ℕ) (tree : Expr) → IsText mode bytes tree →
    depth_of tree ≤ depth → (rest : List ℕ) → Closed rest → begins_tail rest ≡ false →
    skip is_blank rest ≡ rest → text_at mode depth (bytes ++ rest) ≡ Ok (tree, rest)

-- ---- arguments

-- how arguments are read on behind the last one that was read
behind_read : (List ℕ → Read Expr) → Function → ℕ → List Expr → List ℕ → Read (List Expr)
behind_read inner function turns read bytes =
    behind_argument function (length read) bytes >>= λ next.
    cond next.0 (arguments_at inner function turns read next.1) (Ok (read, next.1))

-- what may stand behind an argument
data Parted : List ℕ → Type 0 where
  comma : (rest : List ℕ) → Parted (44 ∷ rest)
  paren : (rest : List ℕ) → Parted (41 ∷ rest)

argument_reads :
    (mode : Mode) (depth : ℕ) → TextReads mode depth → (bytes : List ℕ) (tree : Expr) →
    IsText mode bytes tree → depth_of tree ≤ depth → (rest : List ℕ) → Parted rest →
    text_at mode depth (bytes ++ rest) ≡ Ok (tree, rest)
unfolding TextReads
argument_reads mode depth reads bytes tree is within _ (comma rest) = reads bytes tree is within
    (44 ∷ rest) (at_comma rest) refl refl
argument_reads mode depth reads bytes tree is within _ (paren rest) = reads bytes tree is within
    (41 ∷ rest) (at_paren rest) refl refl

one_read :
    (mode : Mode) (depth : ℕ) → TextReads mode depth →
    (function : Function) (turns : ℕ) (read : List Expr) (bytes : List ℕ) (tree : Expr) →
    IsText mode bytes tree → depth_of tree ≤ depth → (rest : List ℕ) → Parted rest →
    arguments_at (text_at mode depth) function (suc turns) read (bytes ++ rest) ≡ behind_read
    (text_at mode depth) function turns (read ++ tree ∷ []) rest
unfolding arguments_at behind_read
one_read mode depth reads function turns read bytes tree is within rest parted =
    rw (argument_reads mode depth reads bytes tree is within rest parted) refl

comma_read :
    (inner : List ℕ → Read Expr) (function : Function) (turns : ℕ) (read : List Expr)
    (bytes : List ℕ) →
    may_follow (most_of function) (length read) ≡ true →
    behind_read inner function turns read (44 ∷ bytes) ≡ arguments_at inner function turns read
    bytes
unfolding behind_read behind_argument
comma_read inner function turns read bytes follows = rw follows refl

arguments_read :
    (mode : Mode) (depth : ℕ) → TextReads mode depth → (function : Function) (all turns : ℕ) →
    takes function all ≡ true → (inside : List ℕ) (trees : List Expr) →
    AreArguments mode inside trees → length trees ≤ all → deepest (map depth_of trees) ≤ depth →
    (rest : List ℕ) → Parted rest →
    arguments_at (text_at mode depth) function (length trees + turns) []
    (inside ++ rest) ≡ behind_read (text_at mode depth) function turns trees rest
arguments_read mode depth reads function all turns fits _ _ (rule.first inside tree is) few within
    rest parted =
    let more : length (tree ∷ []) + turns ≡ suc turns = omega arith in
    rw more (one_read mode depth reads function turns [] inside tree is (omega (arith, within)) rest
    parted)
arguments_read mode depth reads function all turns fits _ _ (rule.next before inside trees tree are
    is) few within rest parted =
    let count = length-append trees (tree ∷ []) in
    let deep = deepest_push trees tree in
    let others = arguments_read mode depth reads function all (suc turns) fits before trees are
    (omega (arith, few, count)) (omega (arith, within, deep)) (44 ∷ (inside ++ rest))
    (comma (inside ++ rest)) in
    let follows : may_follow (most_of function) (length trees) ≡ true =
    follow_test (most_of function) (length trees) all (takes_most function all fits)
    (omega (arith, few, count)) in
    let more : length (trees ++ tree ∷ []) + turns ≡ length trees + suc turns = omega (arith, count)
    in
    rw more (ap (arguments_at (text_at mode depth) function (length trees + suc turns) [])
    (append_assoc before (44 ∷ inside) rest) ∙
    (others ∙ (comma_read (text_at mode depth) function (suc turns) trees (inside ++ rest)
    follows ∙ one_read mode depth reads function turns trees inside tree is
    (omega (arith, within, deep)) rest parted)))

arguments_long :
    (mode : Mode) (inside : List ℕ) (trees : List Expr) → AreArguments mode inside trees →
    (length trees ≤ length inside) × ((rest : List ℕ) → begins_with 41 (inside ++ rest) ≡ false)
arguments_long mode _ _ (rule.first inside tree is) = let opens = text_opens mode inside tree is in
    (omega (arith, opens.0), opens.1)
arguments_long mode _ _ (rule.next before inside trees tree are is) =
    let others = arguments_long mode before trees are in (
      omega (arith, others.0, length-append trees (tree ∷ []), length-append before (44 ∷ inside)),
      λ rest. ap (begins_with 41) (append_assoc before (44 ∷ inside) rest) ∙
          others.1 (44 ∷ inside ++ rest),
    )

call_read :
    (mode : Mode) (depth : ℕ) → TextReads mode depth →
    (function : Function) (inside : List ℕ) (trees : List Expr) → AreArguments mode inside trees →
    takes function (length trees) ≡ true → deepest (map depth_of trees) ≤ depth → (rest : List ℕ) →
    call_at (text_at mode depth) function (inside ++ 41 ∷ rest) ≡ Ok (Call function trees, rest)
unfolding call_at behind_read behind_argument
call_read mode depth reads function inside trees are fits within rest =
    let long = arguments_long mode inside trees are in
    let size = length (inside ++ 41 ∷ rest) in
    let turns : size ≡ length trees + (size - length trees) = omega (
      arith,
      long.0,
      length-append
          inside (41 ∷ rest),
    ) in
    let read = arguments_read mode depth reads function (length trees) (size - length trees) fits
    inside trees are (omega arith) within (41 ∷ rest) (paren rest) in
    let done : behind_read (text_at mode depth) function (size - length trees) trees
    (41 ∷ rest) ≡ Ok (trees, rest) = rw fits refl in
    let all : arguments_at (text_at mode depth) function size [] (inside ++ 41 ∷ rest) ≡ Ok
    (trees, rest) = ap (λ n. arguments_at (text_at mode depth) function n []
    (inside ++ 41 ∷ rest)) turns ∙ (read ∙ done) in
    rw (long.1 (41 ∷ rest), all) refl

empty_read :
    (inner : List ℕ → Read Expr) (function : Function) (rest : List ℕ) → takes function 0 ≡ true →
    call_at inner function (41 ∷ rest) ≡ Ok (Call function [], rest)
unfolding call_at
empty_read inner function rest fits = rw fits refl

-- a word, blanks and a call's parenthesis
called_read :
    (mode : Mode) (inner : List ℕ → Read Expr) (word blanks inside : List ℕ) (function : Function)
    (tree : Expr) (rest : List ℕ) →
    IsName word → named mode word ≡ Some function → AreBlanks blanks →
    call_at inner function (inside ++ rest) ≡ Ok (tree, rest) →
    primary_at mode true inner ((word ++ (blanks ++ 40 ∷ inside)) ++ rest) ≡ Ok (tree, rest)
unfolding primary_at word_at
called_read mode inner word blanks inside function tree rest is found are read =
    let behind = blanks ++ 40 ∷ (inside ++ rest) in
    let regroup : (word ++ (blanks ++ 40 ∷ inside)) ++ rest ≡ word ++ behind = append_assoc word
    (blanks ++ 40 ∷ inside) rest ∙ ap (λ xs. word ++ xs) (append_assoc blanks (40 ∷ inside)
    rest) in
    let ends = word_ends blanks (inside ++ rest) are in
    let taken = take_front is_name_byte word behind is.1 ends in
    let left = skip_front is_name_byte word behind is.1 ends in
    let skipped = skip_front is_blank blanks (40 ∷ (inside ++ rest)) are refl in
    ap (primary_at mode true inner) regroup ∙ (ap (primary_by mode true inner (word ++ behind))
    (front_word word behind is.0) ∙ rw (left, skipped, taken, found) read)
  where
    word_ends :
        (blanks rest : List ℕ) → AreBlanks blanks →
        prefix_len is_name_byte (blanks ++ 40 ∷ rest) ≡ 0
    word_ends [] rest are = refl
    word_ends (blank ∷ blanks) rest are = rw (blank_tests blank (and_parts (is_blank blank)
        (list_all is_blank blanks) are).0).0 refl

-- ---- primaries

primary_read :
    (mode : Mode) (depth : ℕ) → TextReads mode depth → (spelling : List ℕ) (tree : Expr) →
    IsPrimary mode spelling tree → depth_of tree ≤ suc depth → (rest : List ℕ) → Behind rest →
    primary_at mode true (text_at mode depth) (spelling ++ rest) ≡ Ok (tree, rest)
primary_read mode depth reads _ _ (rule.literal spelling value is) within rest behind = spelled_read
    mode (text_at mode depth) spelling value rest is behind
primary_read mode depth reads _ _ (rule.name word is) within rest behind = root_read mode
    (text_at mode depth) word rest is behind
primary_read mode depth reads _ _ (rule.empty_call word blanks function is found are fits) within
    rest behind =
    called_read mode (text_at mode depth) word blanks (41 ∷ []) function (Call function []) rest is
    found are (empty_read (text_at mode depth) function rest fits)
primary_read mode depth reads _ _ (rule.call word blanks inside function trees is found are all
    fits) within rest behind =
    let spelling : (word ++ (blanks ++ 40 ∷ inside ++ 41 ∷ [])) ≡ word ++
    (blanks ++ 40 ∷ (inside ++ 41 ∷ [])) = ap (λ xs. word ++ xs) (append_assoc blanks
    (40 ∷ inside) (41 ∷ [])) in
    let read = call_read mode depth reads function inside trees all fits
    (omega (arith, within, depth_call function trees)) rest in
    ap (λ xs. primary_at mode true (text_at mode depth) (xs ++ rest)) spelling ∙ called_read mode
    (text_at mode depth) word blanks (inside ++ 41 ∷ []) function (Call function trees) rest is
    found are (ap (call_at (text_at mode depth) function) (append_assoc inside (41 ∷ []) rest) ∙
    read)

-- ---- expressions

-- the spelling is read as the tree, and its tails are read on from there
Reads : Mode → ℕ → List ℕ → Expr → Type 0
Reads mode depth spelling tree = (rest : List ℕ) → Behind rest → (is_projection tree ≡ true →
    (begins_with 46 rest && is_word (drop 1 rest)) ≡ false) → Continues (text_at mode depth)
    (suc depth) tree rest (front_read mode (suc depth) (spelling ++ rest))

-- one more tail behind blanks
tail_reads :
    (mode : Mode) (depth : ℕ) (spelling blanks tail : List ℕ) (tree next : Expr) →
    Reads mode depth spelling tree → AreBlanks blanks → depth_of tree < suc depth →
    depth_of tree < depth_of next → (rest : List ℕ) → Behind (tail ++ rest) →
    begins_tail (tail ++ rest) ≡ true → skip is_blank (tail ++ rest) ≡ tail ++ rest →
    (is_projection tree ≡ true → (begins_with 46 (blanks ++ (tail ++ rest)) && is_word
    (drop 1 (blanks ++ (tail ++ rest)))) ≡ false) →
    tail_at (text_at mode depth) tree (tail ++ rest) ≡ Ok (next, rest) →
    Continues (text_at mode depth) (suc depth) next rest (front_read mode (suc depth)
    ((spelling ++ (blanks ++ tail)) ++ rest))
unfolding Reads
tail_reads mode depth spelling blanks tail tree next reads are room grown rest behind begins stays
    apart read =
    let here = blanks ++ (tail ++ rest) in
    let skipped : tail ++ rest ≡ skip is_blank here = sym (skip_all is_blank blanks (tail ++ rest)
    are ∙ stays) in
    let regroup : (spelling ++ (blanks ++ tail)) ++ rest ≡ spelling ++ here = append_assoc spelling
    (blanks ++ tail) rest ∙ ap (λ xs. spelling ++ xs) (append_assoc blanks tail rest) in
    let step = continues_step (text_at mode depth) (suc depth) tree next here (tail ++ rest) rest
    (front_read mode (suc depth) (spelling ++ here)) (reads here (behind_blanks blanks
    (tail ++ rest) are behind) apart) skipped begins room read grown in
    let P : List ℕ → Type 0 = λ bytes. Continues (text_at mode depth) (suc depth) next rest
    (front_read mode (suc depth) bytes) in
    subst P (sym regroup) step

name_test :
    (byte : ℕ) → begins_name byte ≡ true → (is_ascii_digit byte ≡ false) × ((byte == 42) ≡ false)
name_test byte begins = (grind (arith, nat_tests), grind (arith, nat_tests))

-- a member's name
member_read :
    (name rest : List ℕ) (inner : List ℕ → Read Expr) (tree : Expr) → IsName name → Behind rest →
    (Behind (46 ∷ name ++ rest)) × (tail_at inner tree (46 ∷ name ++ rest) ≡ Ok
    (Index tree (Lit (Str name)), rest))
unfolding tail_at member_at
member_read [] rest inner tree named behind = absurd (false≢true named.0)
member_read (byte ∷ name) rest inner tree named behind =
    let tests = name_test byte named.0 in
    let word = byte ∷ name in (
      (refl, (tests.0, (refl, refl))),
      rw (
        tests.1,
        named.0,
        take_front is_name_byte word rest
            named.1 behind.0,
        skip_front is_name_byte word rest named.1 behind.0,
      ) refl,
    )

index_read :
    (inner : List ℕ → Read Expr) (tree index : Expr) (bytes rest : List ℕ) →
    inner bytes ≡ Ok (index, 93 ∷ rest) →
    tail_at inner tree (91 ∷ bytes) ≡ Ok (Index tree index, rest)
unfolding tail_at index_at
index_read inner tree index bytes rest read = rw read refl

project_read :
    (inner : List ℕ → Read Expr) (tree : Expr) (members : List (List ℕ)) (bytes rest : List ℕ) →
    names_at (length (42 ∷ bytes)) [] bytes ≡ (members, rest) →
    tail_at inner tree (46 ∷ 42 ∷ bytes) ≡ Ok (Project tree members, rest)
unfolding tail_at member_at
project_read inner tree members bytes rest read = ap (λ found. Ok (Project tree found.0, found.1))
    read

-- no name stands right behind blanks and what is no dot and name
no_name_behind :
    (blanks rest : List ℕ) → AreBlanks blanks →
    (begins_with 46 rest && is_word (drop 1 rest)) ≡ false →
    (begins_with 46 (blanks ++ rest) && is_word (drop 1 (blanks ++ rest))) ≡ false
no_name_behind [] rest are none = none
no_name_behind (blank ∷ blanks) rest are none = no_name (blank ∷ blanks) rest (omega arith) are

projection : (tree : Expr) (members : List (List ℕ)) → is_projection (Project tree members) ≡ true
projection tree members = search (rules, the_lemmas)

expression_reads :
    (mode : Mode) (depth : ℕ) → TextReads mode depth → (spelling : List ℕ) (tree : Expr) →
    IsExpression mode spelling tree → depth_of tree ≤ suc depth → Reads mode depth spelling tree
unfolding Reads front_read TextReads
expression_reads mode depth reads _ _ (rule.primary spelling tree is) within rest behind apart =
    let read : front_read mode (suc depth) (spelling ++ rest) ≡ tails_at (text_at mode depth)
    (suc depth) (suc depth) tree rest =
    rw (room_test (suc depth) (omega arith)) (ap (λ first. first >>= λ found. tails_at
    (text_at mode depth) (suc depth) (suc depth) found.0 found.1) (primary_read mode depth reads
    spelling tree is within rest behind)) in
    (suc depth, (omega arith, sym read))
expression_reads mode depth reads _ _ (rule.member spelling blanks name tree is are own word) within
    rest behind apart =
    let grown : depth_of tree < depth_of (Index tree (Lit (Str name))) =
    omega (arith, depth_index tree (Lit (Str name))) in
    let tail = member_read name rest (text_at mode depth) tree word behind in
    tail_reads mode depth spelling blanks (46 ∷ name) tree (Index tree (Lit (Str name)))
    (expression_reads mode depth reads spelling tree is (omega (arith, within, grown))) are
    (omega (arith, within, grown)) grown rest tail.0 refl refl (λ projected. no_name blanks
    ((46 ∷ name) ++ rest) (own projected) are) tail.1
expression_reads mode depth reads _ _ (rule.indexed spelling blanks inside tree index is are at)
    within rest behind apart =
    let deep = depth_index tree index in
    let grown : depth_of tree < depth_of (Index tree index) = omega (arith, deep) in
    let read : text_at mode depth (inside ++ 93 ∷ rest) ≡ Ok (index, 93 ∷ rest) = reads inside index
    at (omega (arith, within, deep)) (93 ∷ rest) (at_bracket rest) refl refl in
    let regroup : (91 ∷ inside ++ 93 ∷ []) ++ rest ≡ 91 ∷ (inside ++ 93 ∷ rest) = append_assoc
    (91 ∷ inside) (93 ∷ []) rest in
    let P : List ℕ → Type 0 = λ xs. Continues (text_at mode depth) (suc depth) (Index tree index)
    rest (front_read mode (suc depth) ((spelling ++ xs) ++ rest)) in
    subst P (sym (append_assoc blanks (91 ∷ inside) (93 ∷ []))) (tail_reads mode depth spelling
    blanks (91 ∷ inside ++ 93 ∷ []) tree (Index tree index) (expression_reads mode depth reads
    spelling tree is (omega (arith, within, grown))) are (omega (arith, within, grown)) grown
    rest (closed_behind _ (at_index ((inside ++ 93 ∷ []) ++ rest))) refl refl
    (λ projected. no_name_behind blanks ((91 ∷ inside ++ 93 ∷ []) ++ rest) are refl)
    (ap (tail_at (text_at mode depth) tree) regroup ∙ index_read (text_at mode depth) tree index
    (inside ++ 93 ∷ rest) rest read))
expression_reads mode depth reads _ _ (rule.projected spelling blanks members tree is are names)
    within rest behind apart =
    let deep = depth_project tree members in
    let grown : depth_of tree < depth_of (Project tree members) = omega (arith, deep) in
    let long : length members ≤ length (42 ∷ (dotted members ++ rest)) =
    omega (arith, length_dotted members, length-append (dotted members) rest) in
    let read = names_read (length (42 ∷ (dotted members ++ rest))) [] members rest long names
    behind.0 (apart (projection tree members)) in
    tail_reads mode depth spelling blanks (46 ∷ 42 ∷ dotted members) tree (Project tree members)
    (expression_reads mode depth reads spelling tree is (omega (arith, within, grown))) are
    (omega (arith, within, grown)) grown rest (closed_behind _
    (at_star (dotted members ++ rest))) refl refl (λ projected. no_name_behind blanks
    ((46 ∷ 42 ∷ dotted members) ++ rest) are refl) (project_read (text_at mode depth) tree
    members (dotted members ++ rest) rest read)

-- ---- texts

no_tail :
    (rest : List ℕ) → begins_tail rest ≡ false →
    (begins_with 46 rest && is_word (drop 1 rest)) ≡ false
no_tail rest ends = by (begins_with 46 rest) (begins_with 91 rest) (is_word (drop 1 rest)) ends
  where
    by : (dot bracket word : Bool) → dot || bracket ≡ false → (dot && word) ≡ false
    by true bracket word ends = absurd (false≢true (sym ends))
    by false bracket word ends = refl

pub text_reads : (mode : Mode) (depth : ℕ) → TextReads mode depth
unfolding TextReads Reads front_read expression_at
text_reads mode zero _ _ (rule.text before spelling after tree blanks is behind) within rest closed
    ends stays =
    let deep = subst (λ t. 0 < depth_of t) (layer_is tree (out-Expr tree) refl)
    (positive (out-Expr tree)) in
    absurd (omega (arith, within, deep))
text_reads mode (suc depth) _ _ (rule.text before spelling after tree blanks is behind) within rest
    closed ends stays =
    let left = after ++ rest in
    let regroup : (before ++ spelling ++ after) ++ rest ≡ before ++ (spelling ++ left) =
    append_assoc (before ++ spelling) after rest ∙ append_assoc before spelling left in
    let begins = starts_append spelling left (expression_starts mode spelling tree is) in
    let skipped : skip is_blank (before ++ (spelling ++ left)) ≡ spelling ++ left =
    skip_all is_blank before (spelling ++ left) blanks ∙ starts_skip (spelling ++ left) begins
    in
    let reads = expression_reads mode depth (text_reads mode depth) spelling tree is within left
    (behind_blanks after rest behind (closed_behind rest closed)) (λ projected. no_name_behind
    after rest behind (no_tail rest ends)) in
    let here : rest ≡ skip is_blank left = sym (skip_all is_blank after rest behind ∙ stays) in
    ap (text_at mode (suc depth)) regroup ∙
    (text_is mode (suc depth) (before ++ (spelling ++ left)) ∙ (ap (front_read mode (suc depth))
    skipped ∙ continues_end (text_at mode depth) (suc depth) tree left rest (front_read mode
    (suc depth) (spelling ++ left)) reads here ends))

-- What the rules spell is read whole as its tree.
pub whole_reads :
    (mode : Mode) (depth : ℕ) (bytes : List ℕ) (tree : Expr) → IsText mode bytes tree →
    depth_of tree ≤ depth → text_at mode depth bytes ≡ Ok (tree, [])
unfolding TextReads
whole_reads mode depth bytes tree is within =
    ap (text_at mode depth) (sym (append-nil bytes)) ∙ text_reads mode depth bytes tree is within []
    at_end refl refl

spelled_parses :
    (mode : Mode) (bytes : List ℕ) (tree : Expr) → IsText mode bytes tree → depth_of tree ≤ 50 →
    parses mode bytes ≡ Ok tree
unfolding parses text_whole
spelled_parses mode bytes tree is within = rw (whole_reads mode 50 bytes tree is within) refl

pub read_as_spelled : ReadAsSpelled
read_as_spelled mode bytes tree = (
  λ e. (
    parses_spelled mode bytes tree e,
    depth_given mode 50 tree (parses_given mode bytes tree
        e),
  ),
  λ is. spelled_parses mode bytes tree is.0 is.1,
)

-- Two spellings of one text are read as the same tree, where it may get as deep as both.
pub has_one_tree : HasOneTree
has_one_tree mode bytes tree other is too =
    let depth = max (depth_of tree) (depth_of other) in
    same_first (text_at mode depth bytes) tree other [] [] (whole_reads mode depth bytes tree is
    (omega arith)) (whole_reads mode depth bytes other too (omega arith))
