-- What is printed of a tree that the grammar gives is read as that tree.
use Rattle.std.proofs.Common.{◌≡◌, ℕ, zero, suc, ◌+◌, ◌^◌, ◌<◌, ◌≤◌, max, Bool, true, false, ◌||◌}
use Rattle.std.proofs.Common.{◌==◌, nat_lt, nat_le, ◌&&◌, Option, Some, None, Ok, List, [], ◌∷◌}
use Rattle.std.proofs.Common.{◌++◌, length, drop, map, codes, decimal, pos, negsuc, refl, ap, sym}
use Rattle.std.proofs.Common.{subst, ◌∙◌, append_assoc, rules, arith}
use Rattle.std.specs.List.{prefix_len, list_all, join_with_byte}
use Rattle.std.specs.Char.{is_ascii_digit}
use Rattle.std.proofs.lemmas.List.{append-nil, length-append}
use Rattle.std.proofs.lemmas.Bool.{and_parts, false≢true}
use Rattle.std.proofs.lemmas.Bool.Decides.{nat_tests}
use Rattle.std.proofs.lemmas.Fmt.{decimal_nonempty}
use Rattle.pl_base.specs.declared.value.Value.{Value, Bool as Truth, Number, Version, Str}
use Rattle.pl_expr.specs.declared.expr.Expr.{Expr, the_lemmas}
use Rattle.pl_expr.specs.declared.expr.Expr.TheVariants.{Lit, Root, Index, Project, Call}
use Rattle.pl_expr.specs.declared.expr.Expr.TheVariants as variants
use Rattle.pl_expr.specs.declared.expr.Expr.TheOpen.{Expr-F}
use Rattle.pl_expr.specs.declared.expr.Expr.TheOpen as layer
use Rattle.pl_expr.specs.declared.expr.Expr.TheViews.{out-Expr, roll-Expr}
use Rattle.pl_expr.specs.declared.expr.Function.{Function}
use Rattle.pl_expr.specs.declared.expr.Mode.{Mode}
use Rattle.pl_expr.specs.declared.expr.Mode.TheVariants.{Compile, Variable, Condition}
use Rattle.pl_expr.specs.declared.expr.Function.TheVariants as functions
use Rattle.pl_expr.specs.Numerals.{is_blank, skip, is_segment}
use Rattle.pl_expr.specs.Trees.{depth_of, deepest, printed, literal, listed, dotted}
use Rattle.pl_expr.specs.Functions.{name_of, least_of, most_of, stands_in, may_follow, at_most}
use Rattle.pl_expr.specs.Functions.{takes, named, names}
use Rattle.pl_expr.specs.Grammar.{Read, begins_name, is_name_byte, is_word, call_at, arguments_at}
use Rattle.pl_expr.specs.Grammar.{behind_argument, word_at, primary_by, primary_at, names_at}
use Rattle.pl_expr.specs.Grammar.{index_at, member_at, tail_at, begins_tail, tails_at, text_at}
use Rattle.pl_expr.specs.Grammar.{expression_at, inner_of, text_whole, parses}
use Rattle.pl_reading.specs.Bytes.{begins_with}
use Rattle.pl_reading.specs.Steps.{◌>>=◌}
use Rattle.pl_expr.specs.Given.{IsName, AreNames, IsLiteral, AreGiven, IsGivenBy, IsGiven}
use Rattle.pl_expr.proofs.Leaves.{Closed, at_end, at_index, at_bracket, at_paren, at_comma, at_star}
use Rattle.pl_expr.proofs.Leaves.{closed_name, closed_behind, take_front, skip_front, front_word}
use Rattle.pl_expr.proofs.Leaves.{root_read, literal_read, decimal_digits}
use Rattle.pl_expr.proofs.Reading.{Continues, continues_end, continues_step, names_stop, text_is}

-- ---- a tree by its layer

pub layer_is : (tree : Expr) (x : Expr-F Expr) → out-Expr tree ≡ x → roll-Expr x ≡ tree
layer_is tree x e = ap roll-Expr (sym e) ∙ rolled tree
  where
    rolled : (tree : Expr) → roll-Expr (out-Expr tree) ≡ tree
    rolled tree = search (rules, the_lemmas)

printed_lit : (value : Value) → printed (Lit value) ≡ literal value
printed_lit value = search (rules, the_lemmas)

printed_root : (name : List ℕ) → printed (Root name) ≡ name
printed_root name = search (rules, the_lemmas)

printed_index : (of at : Expr) → printed (Index of at) ≡ printed of ++ 91 ∷ printed at ++ 93 ∷ []
printed_index of at = search (rules, the_lemmas)

printed_project :
    (of : Expr) (names : List (List ℕ)) →
    printed (Project of names) ≡ printed of ++ codes ".*" ++ dotted names
printed_project of names = search (rules, the_lemmas)

printed_call :
    (function : Function) (trees : List Expr) →
    printed (Call function trees) ≡ name_of function ++ 40 ∷ listed (map printed trees) ++ 41 ∷ []
printed_call function trees = search (rules, the_lemmas)

pub depth_index : (of at : Expr) → depth_of (Index of at) ≡ 1 + max (depth_of of) (depth_of at)
depth_index of at = search (rules, the_lemmas)

pub depth_project :
    (of : Expr) (names : List (List ℕ)) → depth_of (Project of names) ≡ 1 + depth_of of
depth_project of names = search (rules, the_lemmas)

pub depth_call :
    (function : Function) (trees : List Expr) →
    depth_of (Call function trees) ≡ 1 + deepest (map depth_of trees)
depth_call function trees = search (rules, the_lemmas)

pub depth_lit : (value : Value) → depth_of (Lit value) ≡ 1
depth_lit value = search (rules, the_lemmas)

pub depth_root : (name : List ℕ) → depth_of (Root name) ≡ 1
depth_root name = search (rules, the_lemmas)

-- ---- functions' names

name_is : (function : Function) → IsName (name_of function)
name_is functions.Not = (refl, refl)
name_is functions.Length = (refl, refl)
name_is functions.Lower = (refl, refl)
name_is functions.Upper = (refl, refl)
name_is functions.Trim = (refl, refl)
name_is functions.Xor = (refl, refl)
name_is functions.Eq = (refl, refl)
name_is functions.Ne = (refl, refl)
name_is functions.Lt = (refl, refl)
name_is functions.Le = (refl, refl)
name_is functions.Gt = (refl, refl)
name_is functions.Ge = (refl, refl)
name_is functions.Contains = (refl, refl)
name_is functions.StartsWith = (refl, refl)
name_is functions.EndsWith = (refl, refl)
name_is functions.ContainsValue = (refl, refl)
name_is functions.Join = (refl, refl)
name_is functions.Split = (refl, refl)
name_is functions.Replace = (refl, refl)
name_is functions.Iif = (refl, refl)
name_is functions.And = (refl, refl)
name_is functions.Or = (refl, refl)
name_is functions.Coalesce = (refl, refl)
name_is functions.In = (refl, refl)
name_is functions.NotIn = (refl, refl)
name_is functions.Format = (refl, refl)
name_is functions.Always = (refl, refl)
name_is functions.Canceled = (refl, refl)
name_is functions.Failed = (refl, refl)
name_is functions.Succeeded = (refl, refl)
name_is functions.SucceededOrFailed = (refl, refl)

named_name :
    (mode : Mode) (function : Function) → stands_in mode function ≡ true →
    named mode (name_of function) ≡ Some function
unfolding named
named_name Compile functions.Not stands = refl
named_name Compile functions.Length stands = refl
named_name Compile functions.Lower stands = refl
named_name Compile functions.Upper stands = refl
named_name Compile functions.Trim stands = refl
named_name Compile functions.Xor stands = refl
named_name Compile functions.Eq stands = refl
named_name Compile functions.Ne stands = refl
named_name Compile functions.Lt stands = refl
named_name Compile functions.Le stands = refl
named_name Compile functions.Gt stands = refl
named_name Compile functions.Ge stands = refl
named_name Compile functions.Contains stands = refl
named_name Compile functions.StartsWith stands = refl
named_name Compile functions.EndsWith stands = refl
named_name Compile functions.ContainsValue stands = refl
named_name Compile functions.Join stands = refl
named_name Compile functions.Split stands = refl
named_name Compile functions.Replace stands = refl
named_name Compile functions.Iif stands = refl
named_name Compile functions.And stands = refl
named_name Compile functions.Or stands = refl
named_name Compile functions.Coalesce stands = refl
named_name Compile functions.In stands = refl
named_name Compile functions.NotIn stands = refl
named_name Compile functions.Format stands = refl
named_name Compile functions.Always stands = absurd (false≢true stands)
named_name Compile functions.Canceled stands = absurd (false≢true stands)
named_name Compile functions.Failed stands = absurd (false≢true stands)
named_name Compile functions.Succeeded stands = absurd (false≢true stands)
named_name Compile functions.SucceededOrFailed stands = absurd (false≢true stands)
named_name Variable functions.Not stands = refl
named_name Variable functions.Length stands = refl
named_name Variable functions.Lower stands = refl
named_name Variable functions.Upper stands = refl
named_name Variable functions.Trim stands = refl
named_name Variable functions.Xor stands = refl
named_name Variable functions.Eq stands = refl
named_name Variable functions.Ne stands = refl
named_name Variable functions.Lt stands = refl
named_name Variable functions.Le stands = refl
named_name Variable functions.Gt stands = refl
named_name Variable functions.Ge stands = refl
named_name Variable functions.Contains stands = refl
named_name Variable functions.StartsWith stands = refl
named_name Variable functions.EndsWith stands = refl
named_name Variable functions.ContainsValue stands = refl
named_name Variable functions.Join stands = refl
named_name Variable functions.Split stands = refl
named_name Variable functions.Replace stands = refl
named_name Variable functions.Iif stands = refl
named_name Variable functions.And stands = refl
named_name Variable functions.Or stands = refl
named_name Variable functions.Coalesce stands = refl
named_name Variable functions.In stands = refl
named_name Variable functions.NotIn stands = refl
named_name Variable functions.Format stands = refl
named_name Variable functions.Always stands = absurd (false≢true stands)
named_name Variable functions.Canceled stands = absurd (false≢true stands)
named_name Variable functions.Failed stands = absurd (false≢true stands)
named_name Variable functions.Succeeded stands = absurd (false≢true stands)
named_name Variable functions.SucceededOrFailed stands = absurd (false≢true stands)
named_name Condition functions.Not stands = refl
named_name Condition functions.Length stands = refl
named_name Condition functions.Lower stands = refl
named_name Condition functions.Upper stands = refl
named_name Condition functions.Trim stands = refl
named_name Condition functions.Xor stands = refl
named_name Condition functions.Eq stands = refl
named_name Condition functions.Ne stands = refl
named_name Condition functions.Lt stands = refl
named_name Condition functions.Le stands = refl
named_name Condition functions.Gt stands = refl
named_name Condition functions.Ge stands = refl
named_name Condition functions.Contains stands = refl
named_name Condition functions.StartsWith stands = refl
named_name Condition functions.EndsWith stands = refl
named_name Condition functions.ContainsValue stands = refl
named_name Condition functions.Join stands = refl
named_name Condition functions.Split stands = refl
named_name Condition functions.Replace stands = refl
named_name Condition functions.Iif stands = refl
named_name Condition functions.And stands = refl
named_name Condition functions.Or stands = refl
named_name Condition functions.Coalesce stands = refl
named_name Condition functions.In stands = refl
named_name Condition functions.NotIn stands = refl
named_name Condition functions.Format stands = refl
named_name Condition functions.Always stands = refl
named_name Condition functions.Canceled stands = refl
named_name Condition functions.Failed stands = refl
named_name Condition functions.Succeeded stands = refl
named_name Condition functions.SucceededOrFailed stands = refl

-- ---- the first byte of a printed tree

unfoldable pub starts : List ℕ → Bool
starts [] = false
starts (byte ∷ bytes) = begins_name byte || (is_ascii_digit byte || ((byte == 45) || (byte == 39)))

pub starts_append : (xs ys : List ℕ) → starts xs ≡ true → starts (xs ++ ys) ≡ true
unfolding starts
starts_append [] ys begins = absurd (false≢true begins)
starts_append (x ∷ xs) ys begins = begins

not_blank : (byte : ℕ) → starts (byte ∷ []) ≡ true → is_blank byte ≡ false
unfolding starts
not_blank byte begins = grind (arith, nat_tests)

pub starts_skip : (xs : List ℕ) → starts xs ≡ true → skip is_blank xs ≡ xs
unfolding starts
starts_skip [] begins = refl
starts_skip (x ∷ xs) begins = rw (not_blank x begins) refl

not_paren : (byte : ℕ) → starts (byte ∷ []) ≡ true → (byte == 41) ≡ false
unfolding starts
not_paren byte begins = grind (arith, nat_tests)

pub starts_paren : (xs : List ℕ) → starts xs ≡ true → begins_with 41 xs ≡ false
unfolding starts
starts_paren [] begins = refl
starts_paren (x ∷ xs) begins = not_paren x begins

pub starts_some : (xs : List ℕ) → starts xs ≡ true → 0 < length xs
unfolding starts
starts_some [] begins = absurd (false≢true begins)
starts_some (x ∷ xs) begins = omega arith

pub starts_word : (name : List ℕ) → is_word name ≡ true → starts name ≡ true
unfolding starts
starts_word [] named = absurd (false≢true named)
starts_word (byte ∷ name) named = rw named refl

pub starts_digits :
    (digits : List ℕ) → 0 < length digits → list_all is_ascii_digit digits ≡ true →
    starts digits ≡ true
unfolding starts
starts_digits [] some all = absurd (omega arith)
starts_digits (byte ∷ digits) some all =
    let parts = and_parts (is_ascii_digit byte) (list_all is_ascii_digit digits) all in
    by (begins_name byte) (is_ascii_digit byte) ((byte == 45) || (byte == 39)) parts.0
  where
    by : (name digit other : Bool) → digit ≡ true → name || (digit || other) ≡ true
    by true digit other e = refl
    by false digit other e = rw e refl

starts_literal : (value : Value) → IsLiteral value → starts (literal value) ≡ true
unfolding starts
starts_literal (Truth true) is = refl
starts_literal (Truth false) is = refl
starts_literal (Number (pos number)) is = starts_digits (decimal number)
    (decimal_nonempty number (omega (arith, is))) (decimal_digits number (omega (arith, is)))
starts_literal (Number (negsuc number)) is = refl
starts_literal (Version []) is = absurd (omega (arith, is.0))
starts_literal (Version (segment ∷ [])) is = absurd (omega (arith, is.0))
starts_literal (Version (segment ∷ next ∷ segments)) is =
    let parts = and_parts (is_segment segment) (list_all is_segment (next ∷ segments)) is.2 in
    let small : segment < 2 ^ 64 = segment_small segment parts.0 in
    starts_append (decimal segment) (46 ∷ join_with_byte 46 (map decimal (next ∷ segments)))
    (starts_digits (decimal segment) (decimal_nonempty segment small)
    (decimal_digits segment small))
  where
    segment_small : (segment : ℕ) → is_segment segment ≡ true → segment < 2 ^ 64
    segment_small segment within = let e : segment ≤ 2147483647 = grind (arith, nat_tests) in
        omega (arith, e)
starts_literal (Str text) is = refl
starts_literal value is = absurd is

starts_layer :
    (mode : Mode) (IsPart : Expr → Type 0) →
    ((tree : Expr) → IsPart tree → starts (printed tree) ≡ true) → (x : Expr-F Expr) →
    IsGivenBy mode IsPart x → starts (printed (roll-Expr x)) ≡ true
starts_layer mode IsPart parts (layer.Lit value) given =
    ap starts (ap printed (variants.rolls-Lit value) ∙ printed_lit value) ∙
    starts_literal value given
starts_layer mode IsPart parts (layer.Root name) given =
    ap starts (ap printed (variants.rolls-Root name) ∙ printed_root name) ∙
    starts_word name given.0.0
starts_layer mode IsPart parts (layer.Index of at) given =
    ap starts (ap printed (variants.rolls-Index of at) ∙ printed_index of at) ∙
    starts_append (printed of ++ 91 ∷ printed at) (93 ∷ [])
    (starts_append (printed of) (91 ∷ printed at) (parts of given.0))
starts_layer mode IsPart parts (layer.Project of members) given =
    ap starts (ap printed (variants.rolls-Project of members) ∙ printed_project of members) ∙
    starts_append (printed of ++ codes ".*") (dotted members)
    (starts_append (printed of) (codes ".*") (parts of given.0))
starts_layer mode IsPart parts (layer.Call function trees) given =
    ap starts (ap printed (variants.rolls-Call function trees) ∙ printed_call function trees) ∙
    starts_append (name_of function ++ 40 ∷ listed (map printed trees)) (41 ∷ [])
    (starts_append (name_of function) (40 ∷ listed (map printed trees))
    (starts_word (name_of function) (name_is function).0))

pub starts_printed :
    (mode : Mode) (depth : ℕ) (tree : Expr) → IsGiven mode depth tree → starts (printed tree) ≡ true
starts_printed mode zero tree given = absurd given
starts_printed mode (suc depth) tree given = ap (λ t. starts (printed t))
    (sym (layer_is tree (out-Expr tree) refl)) ∙ starts_layer mode (IsGiven mode depth)
    (starts_printed mode depth) (out-Expr tree) given

-- ---- a given tree is no deeper than its bound

deepest_given :
    (depth : ℕ) (IsPart : Expr → Type 0) → ((tree : Expr) → IsPart tree → depth_of tree ≤ depth) →
    (trees : List Expr) → AreGiven IsPart trees → deepest (map depth_of trees) ≤ depth
deepest_given depth IsPart parts [] given = omega arith
deepest_given depth IsPart parts (tree ∷ trees) given =
    omega (arith, parts tree given.0, deepest_given depth IsPart parts trees given.1)

depth_layer :
    (mode : Mode) (depth : ℕ) (IsPart : Expr → Type 0) →
    ((tree : Expr) → IsPart tree → depth_of tree ≤ depth) → (x : Expr-F Expr) →
    IsGivenBy mode IsPart x → depth_of (roll-Expr x) ≤ suc depth
depth_layer mode depth IsPart parts (layer.Lit value) given =
    omega (arith, ap depth_of (variants.rolls-Lit value) ∙ depth_lit value)
depth_layer mode depth IsPart parts (layer.Root name) given =
    omega (arith, ap depth_of (variants.rolls-Root name) ∙ depth_root name)
depth_layer mode depth IsPart parts (layer.Index of at) given =
    omega (
      arith,
      ap depth_of (variants.rolls-Index of at) ∙ depth_index of at,
      parts of given.0,
      parts at given.1,
    )
depth_layer mode depth IsPart parts (layer.Project of members) given =
    omega (
      arith,
      ap depth_of (variants.rolls-Project of members) ∙ depth_project of members,
      parts of given.0,
    )
depth_layer mode depth IsPart parts (layer.Call function trees) given =
    omega (
      arith,
      ap depth_of (variants.rolls-Call function trees) ∙ depth_call function trees,
      deepest_given depth IsPart parts trees given.2,
    )

pub depth_given :
    (mode : Mode) (depth : ℕ) (tree : Expr) → IsGiven mode depth tree → depth_of tree ≤ depth
depth_given mode zero tree given = absurd given
depth_given mode (suc depth) tree given =
    let P : Expr → Type 0 = λ t. depth_of t ≤ suc depth in
    subst P (layer_is tree (out-Expr tree) refl) (depth_layer mode depth (IsGiven mode depth)
    (depth_given mode depth) (out-Expr tree) given)

-- ---- reading behind a printed tree

unfoldable pub front_read : Mode → ℕ → List ℕ → Read Expr
front_read mode depth bytes = primary_at mode (nat_lt 0 depth) (inner_of mode depth) bytes >>=
    λ first. tails_at (inner_of mode depth) depth depth first.0 first.1

-- the printed tree is read, and its tails are read on from there
Reads : Mode → ℕ → Expr → Type 0
Reads mode depth tree = (rest : List ℕ) → Closed rest → Continues (inner_of mode depth) depth tree
    rest (front_read mode depth (printed tree ++ rest))

pub room_test : (depth : ℕ) → 0 < depth → nat_lt 0 depth ≡ true
room_test depth room = grind (arith, nat_tests)

leaf_reads :
    (mode : Mode) (depth : ℕ) (tree : Expr) (text : List ℕ) → printed tree ≡ text → 0 < depth →
    ((rest : List ℕ) → Closed rest → primary_at mode true (inner_of mode depth) (text ++ rest) ≡
    Ok (tree, rest)) →
    Reads mode depth tree
unfolding Reads front_read
leaf_reads mode depth tree text text_is room read rest closed =
    let e : front_read mode depth (printed tree ++ rest) ≡ tails_at (inner_of mode depth) depth
    depth tree rest =
    ap (λ xs. front_read mode depth (xs ++ rest)) text_is ∙
    rw (room_test depth room)
    (ap (λ first. first >>= λ found. tails_at (inner_of mode depth) depth depth found.0 found.1)
    (read rest closed)) in
    (depth, (omega arith, sym e))

-- a whole text
text_reads :
    (mode : Mode) (depth : ℕ) (tree : Expr) → Reads mode depth tree → starts (printed tree) ≡ true →
    (rest : List ℕ) → Closed rest → begins_tail rest ≡ false → skip is_blank rest ≡ rest →
    text_at mode depth (printed tree ++ rest) ≡ Ok (tree, rest)
unfolding Reads front_read expression_at
text_reads mode depth tree reads begins rest closed ends stays =
    let skipped : skip is_blank (printed tree ++ rest) ≡ printed tree ++ rest =
    starts_skip (printed tree ++ rest) (starts_append (printed tree) rest begins) in
    text_is mode depth (printed tree ++ rest) ∙ (ap (front_read mode depth) skipped ∙
    continues_end (inner_of mode depth) depth tree rest rest
    (front_read mode depth (printed tree ++ rest)) (reads rest closed) (sym stays) ends)

inner_reads :
    (mode : Mode) (depth : ℕ) (tree : Expr) → Reads mode depth tree → starts (printed tree) ≡ true →
    (rest : List ℕ) → Closed rest → begins_tail rest ≡ false → skip is_blank rest ≡ rest →
    inner_of mode (suc depth) (printed tree ++ rest) ≡ Ok (tree, rest)
inner_reads mode depth tree reads begins rest closed ends stays = text_reads mode depth tree reads
    begins rest closed ends stays

-- ---- look-ups

index_reads :
    (mode : Mode) (depth : ℕ) (of at : Expr) → Reads mode (suc depth) of → Reads mode depth at →
    starts (printed at) ≡ true → depth_of of < suc depth → Reads mode (suc depth) (Index of at)
unfolding Reads tail_at index_at
index_reads mode depth of at reads_of reads_at begins room rest closed =
    let behind = 91 ∷ printed at ++ (93 ∷ rest) in
    let text : printed (Index of at) ++ rest ≡ printed of ++ behind =
    ap (λ xs. xs ++ rest) (printed_index of at) ∙
    (append_assoc (printed of ++ 91 ∷ printed at) (93 ∷ []) rest ∙
    append_assoc (printed of) (91 ∷ printed at) (93 ∷ rest)) in
    let read : inner_of mode (suc depth) (printed at ++ (93 ∷ rest)) ≡ Ok (at, 93 ∷ rest) =
    inner_reads mode depth at reads_at begins (93 ∷ rest) (at_bracket rest) refl refl in
    let tail : tail_at (inner_of mode (suc depth)) of behind ≡ Ok (Index of at, rest) =
    rw read refl in
    let grown : depth_of of < depth_of (Index of at) = omega (arith, depth_index of at) in
    let step = continues_step (inner_of mode (suc depth)) (suc depth) of (Index of at) behind behind
    rest (front_read mode (suc depth) (printed of ++ behind))
    (reads_of behind (at_index (printed at ++ (93 ∷ rest)))) refl refl room tail grown in
    let P : List ℕ → Type 0 = λ bytes. Continues (inner_of mode (suc depth)) (suc depth)
    (Index of at) rest (front_read mode (suc depth) bytes) in
    subst P (sym text) step

dotted_stops :
    (members : List (List ℕ)) (rest : List ℕ) → prefix_len is_name_byte rest ≡ 0 →
    prefix_len is_name_byte (dotted members ++ rest) ≡ 0
dotted_stops [] rest ends = ends
dotted_stops (name ∷ members) rest ends = refl

pub names_read :
    (turns : ℕ) (read members : List (List ℕ)) (rest : List ℕ) → length members ≤ turns →
    AreNames members → prefix_len is_name_byte rest ≡ 0 →
    (begins_with 46 rest && is_word (drop 1 rest)) ≡ false →
    names_at turns read (dotted members ++ rest) ≡ (read ++ members, rest)
unfolding names_at
names_read turns read [] rest room named ends stops = names_stop turns read rest stops ∙
    ap (λ xs. (xs, rest)) (sym (append-nil read))
names_read zero read (name ∷ members) rest room named ends stops = absurd (omega (arith, room))
names_read (suc turns) read (name ∷ members) rest room named ends stops =
    let regroup : dotted (name ∷ members) ++ rest ≡ 46 ∷ name ++ (dotted members ++ rest) =
    append_assoc (46 ∷ name) (dotted members) rest in
    let end = dotted_stops members rest ends in
    let word : is_word (name ++ (dotted members ++ rest)) ≡ true =
    word_append name (dotted members ++ rest) named.0.0 in
    let step : names_at (suc turns) read (46 ∷ name ++ (dotted members ++ rest)) ≡
    names_at turns (read ++ name ∷ []) (dotted members ++ rest) =
    rw (
      word,
      take_front is_name_byte name (dotted members ++ rest) named.0.1 end,
      skip_front is_name_byte name (dotted members ++ rest) named.0.1 end,
    ) refl in
    ap (names_at (suc turns) read) regroup ∙
    (step ∙ (names_read turns (read ++ name ∷ []) members rest (omega (arith, room)) named.1
    ends stops ∙ ap (λ xs. (xs, rest)) (append_assoc read (name ∷ []) members)))
  where
    word_append : (name rest : List ℕ) → is_word name ≡ true → is_word (name ++ rest) ≡ true
    word_append [] rest named = absurd (false≢true named)
    word_append (byte ∷ name) rest named = named

pub length_dotted : (members : List (List ℕ)) → length members ≤ length (dotted members)
length_dotted [] = omega arith
length_dotted (name ∷ members) = let others = length_dotted members in
    omega (arith, others, length-append (46 ∷ name) (dotted members))

project_reads :
    (mode : Mode) (depth : ℕ) (of : Expr) (members : List (List ℕ)) → Reads mode (suc depth) of →
    AreNames members → depth_of of < suc depth → Reads mode (suc depth) (Project of members)
unfolding Reads tail_at member_at
project_reads mode depth of members reads_of named room rest closed =
    let behind = 46 ∷ 42 ∷ (dotted members ++ rest) in
    let text : printed (Project of members) ++ rest ≡ printed of ++ behind =
    ap (λ xs. xs ++ rest) (printed_project of members) ∙
    (append_assoc (printed of ++ codes ".*") (dotted members) rest ∙
    append_assoc (printed of) (codes ".*") (dotted members ++ rest)) in
    let long : length members ≤ length (42 ∷ (dotted members ++ rest)) =
    omega (arith, length_dotted members, length-append (dotted members) rest) in
    let read = names_read (length (42 ∷ (dotted members ++ rest))) [] members rest long named
    (closed_behind rest closed).0 (closed_name rest closed) in
    let tail : tail_at (inner_of mode (suc depth)) of behind ≡ Ok (Project of members, rest) =
    ap (λ found. Ok (Project of found.0, found.1)) read in
    let grown : depth_of of < depth_of (Project of members) =
    omega (arith, depth_project of members) in
    let step = continues_step (inner_of mode (suc depth)) (suc depth) of (Project of members) behind
    behind rest (front_read mode (suc depth) (printed of ++ behind))
    (reads_of behind (at_star (dotted members ++ rest))) refl refl room tail grown in
    let P : List ℕ → Type 0 = λ bytes. Continues (inner_of mode (suc depth)) (suc depth)
    (Project of members) rest (front_read mode (suc depth) bytes) in
    subst P (sym text) step

-- ---- calls

-- each argument is read up to the comma or the parenthesis behind it
AreRead : (List ℕ → Read Expr) → List Expr → Type 0
AreRead inner [] = Unit {0}
AreRead inner (tree ∷ trees) = ((bytes : List ℕ) → inner (printed tree ++ 44 ∷ bytes) ≡
    Ok (tree, 44 ∷ bytes)) × ((bytes : List ℕ) → inner (printed tree ++ 41 ∷ bytes) ≡
    Ok (tree, 41 ∷ bytes)) × AreRead inner trees

pub follow_test :
    (most : Option ℕ) (count all : ℕ) → at_most most all ≡ true → count < all →
    may_follow most count ≡ true
follow_test None count all fits less = refl
follow_test (Some most) count all fits less = grind (arith, nat_tests)

pub takes_most :
    (function : Function) (all : ℕ) → takes function all ≡ true →
    at_most (most_of function) all ≡ true
takes_most function all fits =
    (and_parts (nat_le (least_of function) all) (at_most (most_of function) all) fits).1

arguments_read :
    (inner : List ℕ → Read Expr) (function : Function) (turns : ℕ) (read : List Expr) (tree : Expr)
    (trees : List Expr) (bytes rest : List ℕ) →
    ((xs : List ℕ) → inner (32 ∷ xs) ≡ inner xs) → length (tree ∷ trees) ≤ turns →
    AreRead inner (tree ∷ trees) → takes function (length (read ++ tree ∷ trees)) ≡ true →
    inner bytes ≡ inner (listed (map printed (tree ∷ trees)) ++ 41 ∷ rest) →
    arguments_at inner function turns read bytes ≡ Ok (read ++ tree ∷ trees, rest)
unfolding arguments_at behind_argument AreRead
arguments_read inner function zero read tree trees bytes rest blank room each fits same =
    absurd (omega (arith, room))
arguments_read inner function (suc turns) read tree [] bytes rest blank room each fits same =
    rw (same ∙ each.1 rest, fits) refl
arguments_read inner function (suc turns) read tree (next ∷ trees) bytes rest blank room each fits
    same =
    let more = listed (map printed (next ∷ trees)) ++ 41 ∷ rest in
    let regroup : listed (map printed (tree ∷ next ∷ trees)) ++ 41 ∷ rest ≡ printed tree ++ 44 ∷
    (32 ∷ more) = append_assoc (printed tree) (44 ∷ 32 ∷ listed (map printed (next ∷ trees)))
    (41 ∷ rest) in
    let one : inner bytes ≡ Ok (tree, 44 ∷ 32 ∷ more) = same ∙
    (ap inner regroup ∙ each.0 (32 ∷ more)) in
    let shorter : length (read ++ tree ∷ []) < length (read ++ tree ∷ next ∷ trees) =
    omega (arith, length-append read (tree ∷ []), length-append read (tree ∷ next ∷ trees)) in
    let follows : may_follow (most_of function) (length (read ++ tree ∷ [])) ≡ true =
    follow_test (most_of function) (length (read ++ tree ∷ []))
    (length (read ++ tree ∷ next ∷ trees)) (takes_most function _ fits) shorter in
    let group : (read ++ tree ∷ []) ++ next ∷ trees ≡ read ++ tree ∷ next ∷ trees =
    append_assoc read (tree ∷ []) (next ∷ trees) in
    let others = arguments_read inner function turns (read ++ tree ∷ []) next trees (32 ∷ more) rest
    blank (omega (arith, room)) each.2 (ap (λ xs. takes function (length xs)) group ∙ fits)
    (blank more) in
    rw (one, follows) (others ∙ ap (λ xs. Ok (xs, rest)) group)

length_listed :
    (IsPart : Expr → Type 0) → ((tree : Expr) → IsPart tree → starts (printed tree) ≡ true) →
    (trees : List Expr) → AreGiven IsPart trees → length trees ≤ length (listed (map printed trees))
length_listed IsPart begins [] given = omega arith
length_listed IsPart begins (tree ∷ []) given = starts_some (printed tree) (begins tree given.0)
length_listed IsPart begins (tree ∷ next ∷ trees) given =
    let others = length_listed IsPart begins (next ∷ trees) given.1 in
    omega (
      arith,
      others,
      starts_some (printed tree) (begins tree given.0),
      length-append (printed tree) (44 ∷ 32 ∷ listed (map printed (next ∷ trees))),
    )

are_read :
    (mode : Mode) (depth : ℕ) (IsPart : Expr → Type 0) →
    ((tree : Expr) → IsPart tree → Reads mode depth tree) →
    ((tree : Expr) → IsPart tree → starts (printed tree) ≡ true) → (trees : List Expr) →
    AreGiven IsPart trees → AreRead (inner_of mode (suc depth)) trees
unfolding AreRead
are_read mode depth IsPart reads begins [] given = tt
are_read mode depth IsPart reads begins (tree ∷ trees) given = (
  λ bytes. inner_reads mode depth tree (reads tree given.0) (begins tree given.0) (44 ∷ bytes)
      (at_comma bytes) refl refl,
  λ bytes. inner_reads mode depth tree (reads tree given.0)
      (begins tree given.0) (41 ∷ bytes) (at_paren bytes) refl refl,
  are_read mode depth IsPart
      reads begins trees given.1,
)

-- a space in front of a text changes nothing
space_read :
    (mode : Mode) (depth : ℕ) (bytes : List ℕ) →
    text_at mode depth (32 ∷ bytes) ≡ text_at mode depth bytes
unfolding expression_at
space_read mode depth bytes = text_is mode depth (32 ∷ bytes) ∙
    (skipped ∙ sym (text_is mode depth bytes))
  where
    blank : skip is_blank (32 ∷ bytes) ≡ skip is_blank bytes
    blank = ap (λ n. drop n (32 ∷ bytes)) (let n : 1 + prefix_len is_blank bytes ≡
        suc (prefix_len is_blank bytes) = omega arith in n)

    skipped : expression_at mode depth (inner_of mode depth) (32 ∷ bytes) ≡
        expression_at mode depth (inner_of mode depth) bytes
    skipped = ap (λ xs. primary_at mode (nat_lt 0 depth) (inner_of mode depth) xs >>=
        λ first. tails_at (inner_of mode depth) depth depth first.0 first.1) blank

call_read :
    (mode : Mode) (depth : ℕ) (IsPart : Expr → Type 0) →
    ((tree : Expr) → IsPart tree → Reads mode depth tree) →
    ((tree : Expr) → IsPart tree → starts (printed tree) ≡ true) →
    (function : Function) (trees : List Expr) (rest : List ℕ) →
    takes function (length trees) ≡ true → AreGiven IsPart trees →
    call_at (inner_of mode (suc depth)) function (listed (map printed trees) ++ 41 ∷ rest) ≡
    Ok (Call function trees, rest)
unfolding call_at
call_read mode depth IsPart reads begins function [] rest fits given = rw fits refl
call_read mode depth IsPart reads begins function (tree ∷ trees) rest fits given =
    let first : starts (listed (map printed (tree ∷ trees))) ≡ true =
    listed_starts tree trees (begins tree given.0) in
    let not_empty : begins_with 41 (listed (map printed (tree ∷ trees)) ++ 41 ∷ rest) ≡ false =
    starts_paren _ (starts_append (listed (map printed (tree ∷ trees))) (41 ∷ rest) first) in
    let long : length (tree ∷ trees) ≤ length (listed (map printed (tree ∷ trees)) ++ 41 ∷ rest) =
    omega (
      arith,
      length_listed IsPart begins (tree ∷ trees) given,
      length-append (listed (map printed (tree ∷ trees))) (41 ∷ rest),
    ) in
    let read = arguments_read (inner_of mode (suc depth)) function
    (length (listed (map printed (tree ∷ trees)) ++ 41 ∷ rest)) [] tree trees
    (listed (map printed (tree ∷ trees)) ++ 41 ∷ rest) rest (space_read mode depth) long
    (are_read mode depth IsPart reads begins (tree ∷ trees) given) fits refl in
    rw (not_empty, read) refl
  where
    listed_starts :
        (tree : Expr) (trees : List Expr) → starts (printed tree) ≡ true →
        starts (listed (map printed (tree ∷ trees))) ≡ true
    listed_starts tree [] begins = begins
    listed_starts tree (next ∷ trees) begins = starts_append (printed tree) (44 ∷ 32 ∷
        listed (map printed (next ∷ trees))) begins

call_primary :
    (mode : Mode) (inner : List ℕ → Read Expr) (function : Function) (trees : List Expr)
    (text rest : List ℕ) →
    stands_in mode function ≡ true →
    call_at inner function (text ++ 41 ∷ rest) ≡ Ok (Call function trees, rest) →
    primary_at mode true inner ((name_of function ++ 40 ∷ text ++ 41 ∷ []) ++ rest) ≡
    Ok (Call function trees, rest)
unfolding primary_at word_at
call_primary mode inner function trees text rest stands read =
    let name = name_of function in
    let behind = 40 ∷ (text ++ 41 ∷ rest) in
    let regroup : (name ++ 40 ∷ text ++ 41 ∷ []) ++ rest ≡ name ++ behind =
    append_assoc (name ++ 40 ∷ text) (41 ∷ []) rest ∙ append_assoc name (40 ∷ text)
    (41 ∷ rest) in
    let named_so = name_is function in
    let taken = take_front is_name_byte name behind named_so.1 refl in
    let skipped = skip_front is_name_byte name behind named_so.1 refl in
    ap (primary_at mode true inner) regroup ∙
    (ap (primary_by mode true inner (name ++ behind)) (front_word name behind named_so.0) ∙
    rw (skipped, taken, named_name mode function stands) read)

call_reads :
    (mode : Mode) (depth : ℕ) (IsPart : Expr → Type 0) →
    ((tree : Expr) → IsPart tree → Reads mode depth tree) →
    ((tree : Expr) → IsPart tree → starts (printed tree) ≡ true) →
    (function : Function) (trees : List Expr) → stands_in mode function ≡ true →
    takes function (length trees) ≡ true → AreGiven IsPart trees →
    Reads mode (suc depth) (Call function trees)
call_reads mode depth IsPart reads begins function trees stands fits given =
    leaf_reads mode (suc depth) (Call function trees) _ (printed_call function trees) (omega arith)
    (λ rest closed. call_primary mode (inner_of mode (suc depth)) function trees
    (listed (map printed trees)) rest stands (call_read mode depth IsPart reads begins function
    trees rest fits given))

-- ---- any given tree

reads_layer :
    (mode : Mode) (bound depth : ℕ) → bound ≤ depth →
    ((tree : Expr) → IsGiven mode bound tree → (d : ℕ) → bound ≤ d → Reads mode d tree) →
    (x : Expr-F Expr) → IsGivenBy mode (IsGiven mode bound) x → Reads mode (suc depth) (roll-Expr x)
reads_layer mode bound depth room parts (layer.Lit value) given =
    subst (Reads mode (suc depth)) (sym (variants.rolls-Lit value))
    (leaf_reads mode (suc depth) (Lit value) (literal value) (printed_lit value) (omega arith)
    (λ rest closed. literal_read mode (inner_of mode (suc depth)) value rest given
    (closed_behind rest closed)))
reads_layer mode bound depth room parts (layer.Root name) given =
    subst (Reads mode (suc depth)) (sym (variants.rolls-Root name))
    (leaf_reads mode (suc depth) (Root name) name (printed_root name) (omega arith)
    (λ rest closed. root_read mode (inner_of mode (suc depth)) name rest given.0
    (closed_behind rest closed) ∙ ap (λ tree. Ok (tree, rest)) given.1))
reads_layer mode bound depth room parts (layer.Index of at) given =
    subst (Reads mode (suc depth)) (sym (variants.rolls-Index of at))
    (index_reads mode depth of at (parts of given.0 (suc depth) (omega arith))
    (parts at given.1 depth room) (starts_printed mode bound at given.1)
    (omega (arith, depth_given mode bound of given.0)))
reads_layer mode bound depth room parts (layer.Project of members) given =
    subst (Reads mode (suc depth)) (sym (variants.rolls-Project of members))
    (project_reads mode depth of members (parts of given.0 (suc depth) (omega arith)) given.1
    (omega (arith, depth_given mode bound of given.0)))
reads_layer mode bound depth room parts (layer.Call function trees) given =
    subst (Reads mode (suc depth)) (sym (variants.rolls-Call function trees))
    (call_reads mode depth (IsGiven mode bound) (λ tree is. parts tree is depth room)
    (starts_printed mode bound) function trees given.0 given.1 given.2)

reads_given :
    (mode : Mode) (bound : ℕ) (tree : Expr) → IsGiven mode bound tree → (depth : ℕ) →
    bound ≤ depth → Reads mode depth tree
reads_given mode zero tree given depth room = absurd given
reads_given mode (suc bound) tree given zero room = absurd (omega (arith, room))
reads_given mode (suc bound) tree given (suc depth) room =
    subst (Reads mode (suc depth)) (layer_is tree (out-Expr tree) refl)
    (reads_layer mode bound depth (omega (arith, room)) (reads_given mode bound) (out-Expr tree)
    given)

-- What is printed of a given tree has that tree.
pub parses_printed :
    (mode : Mode) (tree : Expr) → IsGiven mode 50 tree → parses mode (printed tree) ≡ Ok tree
unfolding parses text_whole
parses_printed mode tree given =
    let read = text_reads mode 50 tree (reads_given mode 50 tree given 50 (omega arith))
    (starts_printed mode 50 tree given) [] at_end refl refl in
    let whole : text_at mode 50 (printed tree) ≡ Ok (tree, []) =
    ap (text_at mode 50) (sym (append-nil (printed tree))) ∙ read in
    rw whole refl
