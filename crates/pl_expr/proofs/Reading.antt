-- Equations of the grammar's loops, and their steps.
use Rattle.std.proofs.Common.{◌≡◌, ◌≢◌, ℕ, zero, suc, ◌+◌, ◌-◌, ◌^◌, ◌<◌, ◌≤◌, Bool, true, false}
use Rattle.std.proofs.Common.{◌&&◌, ◌||◌, if◌then◌else◌, min, List, [], ◌∷◌, ◌++◌, length, drop}
use Rattle.std.proofs.Common.{map, Option, Some, None, Result, Ok, Err, refl, ap, sym, ◌∙◌, arith}
use Rattle.std.proofs.Common.{nat_le}
use Rattle.std.proofs.lemmas.Bool.{ne_eqb, false≢true}
use Rattle.std.proofs.lemmas.Bool.Decides.{nat_tests}
use Rattle.std.proofs.lemmas.List.{length-map}
use Rattle.pl_base.specs.declared.value.Value.{Version}
use Rattle.pl_expr.specs.declared.expr.Expr.{Expr}
use Rattle.pl_expr.specs.declared.expr.Expr.TheVariants.{Lit}
use Rattle.pl_expr.specs.declared.expr.Function.{Function}
use Rattle.pl_expr.specs.declared.expr.Mode.{Mode}
use Rattle.pl_expr.specs.declared.fault.ExprCode.TheVariants.{NumberRange, BadChar}
use Rattle.pl_expr.specs.declared.stop.Stop.{Stop}
use Rattle.pl_expr.specs.declared.stop.Stop.TheVariants as stops
use Rattle.pl_expr.specs.Numerals.{is_blank, skip, runs_of, behind_runs, segments_of}
use Rattle.pl_reading.specs.Bytes.{number_of, begins_with}
use Rattle.pl_expr.specs.Trees.{depth_of}
use Rattle.pl_expr.specs.Grammar.{Fault, Read, stop, is_word, word_of, behind_word, unsigned_at}
use Rattle.pl_expr.specs.Grammar.{names_at, begins_tail, tail_at, deep_fault, tails_at, text_at}
use Rattle.pl_expr.specs.Grammar.{expression_at, inner_of, behind_argument, arguments_at}
use Rattle.pl_reading.specs.Steps.{◌>>=◌}
use Rattle.pl_expr.specs.Parsing.{Stops}
use Rattle.pl_expr.proofs.Bytes.{segments_of_capped}

-- ---- versions

version_is :
    (bytes numbers : List ℕ) (found : Option (List ℕ)) → length numbers ≢ 1 → length numbers ≢ 2 →
    numbers ≡ map (λ digits. min (number_of digits) (2 ^ 64 - 1)) (runs_of bytes) →
    found ≡ segments_of numbers → found ≡ segments_of (map number_of (runs_of bytes))
version_is bytes numbers found one two e found_is = found_is ∙
    (ap segments_of e ∙ segments_of_capped (runs_of bytes))

pub version_some :
    (bytes numbers segments behind : List ℕ) (found : Option (List ℕ)) (expr : Expr) →
    length numbers ≢ 1 → length numbers ≢ 2 →
    numbers ≡ map (λ digits. min (number_of digits) (2 ^ 64 - 1)) (runs_of bytes) →
    found ≡ segments_of numbers → found ≡ Some segments → behind ≡ behind_runs bytes →
    expr ≡ Lit (Version segments) → unsigned_at bytes ≡ Ok (expr, behind)
unfolding unsigned_at
version_some bytes numbers segments behind found expr one two e found_is some behind_is expr_is =
    let count : length numbers ≡ length (runs_of bytes) = ap length e ∙
    length-map (runs_of bytes) _ in
    let not_one : length (runs_of bytes) ≢ 1 = λ h. one (count ∙ h) in
    let not_two : length (runs_of bytes) ≢ 2 = λ h. two (count ∙ h) in
    let read : segments_of (map number_of (runs_of bytes)) ≡ Some segments =
    sym (version_is bytes numbers found one two e found_is) ∙ some in
    rw (ne_eqb _ _ not_one, ne_eqb _ _ not_two, read, expr_is, behind_is) refl

pub version_none :
    (bytes numbers : List ℕ) (found : Option (List ℕ)) (why : Stop) → length numbers ≢ 1 →
    length numbers ≢ 2 →
    numbers ≡ map (λ digits. min (number_of digits) (2 ^ 64 - 1)) (runs_of bytes) →
    found ≡ segments_of numbers → found ≡ None → why ≡ stops.Fault NumberRange (length bytes) →
    Stops why (unsigned_at bytes)
unfolding unsigned_at
version_none bytes numbers found why one two e found_is none why_is =
    let count : length numbers ≡ length (runs_of bytes) = ap length e ∙
    length-map (runs_of bytes) _ in
    let not_one : length (runs_of bytes) ≢ 1 = λ h. one (count ∙ h) in
    let not_two : length (runs_of bytes) ≢ 2 = λ h. two (count ∙ h) in
    let read : segments_of (map number_of (runs_of bytes)) ≡ None =
    sym (version_is bytes numbers found one two e found_is) ∙ none in
    rw (why_is, ne_eqb _ _ not_one, ne_eqb _ _ not_two, read) refl

-- ---- names

pub names_stop :
    (turns : ℕ) (read : List (List ℕ)) (bytes : List ℕ) →
    (begins_with 46 bytes && is_word (drop 1 bytes)) ≡ false →
    names_at turns read bytes ≡ (read, bytes)
unfolding names_at
names_stop zero read bytes ends = refl
names_stop (suc turns) read bytes ends = rw ends refl

names_goes :
    (turns : ℕ) (read : List (List ℕ)) (bytes : List ℕ) →
    (begins_with 46 bytes && is_word (drop 1 bytes)) ≡ true →
    names_at (suc turns) read bytes ≡ names_at turns (read ++ word_of (drop 1 bytes) ∷ [])
    (behind_word (drop 1 bytes))
unfolding names_at
names_goes turns read bytes goes = rw goes refl

pub names_step :
    (turns turn : ℕ) (read : List (List ℕ)) (bytes : List ℕ) → turn < turns →
    (begins_with 46 bytes && is_word (drop 1 bytes)) ≡ true →
    names_at (turns - turn) read bytes ≡ names_at (turns - (turn + 1)) (read ++
    word_of (drop 1 bytes) ∷ []) (behind_word (drop 1 bytes))
names_step turns turn read bytes room goes =
    let e : turns - turn ≡ suc (turns - (turn + 1)) = omega arith in
    rw e (names_goes (turns - (turn + 1)) read bytes goes)

-- ---- tails

-- With enough turns left the tails of the tree and what is left give the whole.
abbrev pub Continues : (List ℕ → Read Expr) → ℕ → Expr → List ℕ → Read Expr → Type 0
Continues inner depth tree rest whole = (turns : ℕ) ×
    ((depth ≤ turns + depth_of tree) × (tails_at inner depth turns tree rest ≡ whole))

pub continues_start :
    (inner : List ℕ → Read Expr) (depth : ℕ) (tree : Expr) (rest : List ℕ) →
    Continues inner depth tree rest (tails_at inner depth depth tree rest)
continues_start inner depth tree rest = (depth, (omega arith, refl))

pub tails_end :
    (inner : List ℕ → Read Expr) (depth turns : ℕ) (tree : Expr) (rest : List ℕ) →
    begins_tail (skip is_blank rest) ≡ false →
    tails_at inner depth turns tree rest ≡ Ok (tree, skip is_blank rest)
unfolding tails_at
tails_end inner depth zero tree rest ends = rw ends refl
tails_end inner depth (suc turns) tree rest ends = rw ends refl

pub tails_deep :
    (inner : List ℕ → Read Expr) (depth turns : ℕ) (tree : Expr) (rest : List ℕ) →
    begins_tail (skip is_blank rest) ≡ true → depth ≤ depth_of tree →
    tails_at inner depth turns tree rest ≡ Err (deep_fault tree rest)
unfolding tails_at
tails_deep inner depth zero tree rest goes deep = rw goes refl
tails_deep inner depth (suc turns) tree rest goes deep =
    let test : nat_le depth (depth_of tree) ≡ true = grind (arith, nat_tests) in
    rw (goes, test) refl

pub tails_goes :
    (inner : List ℕ → Read Expr) (depth turns : ℕ) (tree : Expr) (rest : List ℕ) →
    begins_tail (skip is_blank rest) ≡ true → depth_of tree < depth →
    tails_at inner depth (suc turns) tree rest ≡ (tail_at inner tree (skip is_blank rest) >>=
    λ next. tails_at inner depth turns next.0 next.1)
unfolding tails_at
tails_goes inner depth turns tree rest goes room =
    let test : nat_le depth (depth_of tree) ≡ false = grind (arith, nat_tests) in
    rw (goes, test) refl

pub continues_end :
    (inner : List ℕ → Read Expr) (depth : ℕ) (tree : Expr) (rest here : List ℕ)
    (whole : Read Expr) →
    Continues inner depth tree rest whole → here ≡ skip is_blank rest → begins_tail here ≡ false →
    whole ≡ Ok (tree, here)
continues_end inner depth tree rest here whole reading here_is ends =
    let e : begins_tail (skip is_blank rest) ≡ false = ap begins_tail (sym here_is) ∙ ends in
    sym reading.1.1 ∙ (tails_end inner depth reading.0 tree rest e ∙
    ap (λ xs. Ok (tree, xs)) (sym here_is))

pub continues_deep :
    (inner : List ℕ → Read Expr) (depth : ℕ) (tree : Expr) (rest here : List ℕ)
    (whole : Read Expr) →
    Continues inner depth tree rest whole → here ≡ skip is_blank rest → begins_tail here ≡ true →
    depth ≤ depth_of tree → whole ≡ Err (deep_fault tree rest)
continues_deep inner depth tree rest here whole reading here_is goes deep =
    let e : begins_tail (skip is_blank rest) ≡ true = ap begins_tail (sym here_is) ∙ goes in
    sym reading.1.1 ∙ tails_deep inner depth reading.0 tree rest e deep

pub continues_goes :
    (inner : List ℕ → Read Expr) (depth : ℕ) (tree : Expr) (rest here : List ℕ)
    (whole : Read Expr) →
    Continues inner depth tree rest whole → here ≡ skip is_blank rest → begins_tail here ≡ true →
    depth_of tree < depth →
    (turns : ℕ) × ((depth ≤ suc turns + depth_of tree) ×
    (whole ≡ (tail_at inner tree here >>= λ next. tails_at inner depth turns next.0 next.1)))
continues_goes inner depth tree rest here whole (zero, reading) here_is goes room =
    absurd (omega (arith, reading.0))
continues_goes inner depth tree rest here whole (suc turns, reading) here_is goes room =
    let e : begins_tail (skip is_blank rest) ≡ true = ap begins_tail (sym here_is) ∙ goes in (
      turns,
      (
        reading.0,
        sym reading.1 ∙ (tails_goes inner depth turns tree rest e room ∙
            ap (λ xs. tail_at inner tree xs >>= λ next. tails_at inner depth turns next.0 next.1)
            (sym here_is)),
      ),
    )

pub continues_step :
    (inner : List ℕ → Read Expr) (depth : ℕ) (tree next : Expr) (rest here behind : List ℕ)
    (whole : Read Expr) →
    Continues inner depth tree rest whole → here ≡ skip is_blank rest → begins_tail here ≡ true →
    depth_of tree < depth → tail_at inner tree here ≡ Ok (next, behind) →
    depth_of tree < depth_of next → Continues inner depth next behind whole
continues_step inner depth tree next rest here behind whole reading here_is goes room tail grown =
    let parts = continues_goes inner depth tree rest here whole reading here_is goes room in (
      parts.0,
      (
        omega (arith, parts.1.0),
        sym (parts.1.1 ∙ ap (λ read. read >>= λ next. tails_at inner depth parts.0 next.0 next.1)
            tail),
      ),
    )

pub continues_stop :
    (inner : List ℕ → Read Expr) (depth : ℕ) (tree : Expr) (rest here : List ℕ) (whole : Read Expr)
    (fault : Fault) →
    Continues inner depth tree rest whole → here ≡ skip is_blank rest → begins_tail here ≡ true →
    depth_of tree < depth → tail_at inner tree here ≡ Err fault → whole ≡ Err fault
continues_stop inner depth tree rest here whole fault reading here_is goes room tail =
    let parts = continues_goes inner depth tree rest here whole reading here_is goes room in
    parts.1.1 ∙ ap (λ read. read >>= λ next. tails_at inner depth parts.0 next.0 next.1) tail

-- ---- texts

pub text_is :
    (mode : Mode) (depth : ℕ) (bytes : List ℕ) →
    text_at mode depth bytes ≡ expression_at mode depth (inner_of mode depth) bytes
unfolding text_at
text_is mode zero bytes = refl
text_is mode (suc depth) bytes = refl

pub inner_is :
    (mode : Mode) (depth : ℕ) (bytes : List ℕ) → 0 < depth →
    inner_of mode depth bytes ≡ text_at mode (depth - 1) bytes
inner_is mode zero bytes room = absurd (omega arith)
inner_is mode (suc depth) bytes room = ap (λ n. text_at mode n bytes) (omega arith)

-- a tail that doesn't begin with a bracket begins with a dot
pub tail_dot :
    (bytes : List ℕ) → begins_tail bytes ≡ true → begins_with 91 bytes ≡ false →
    begins_with 46 bytes ≡ true
tail_dot bytes begins bracket = by (begins_with 46 bytes) (begins_with 91 bytes) begins bracket
  where
    by : (dot bracket : Bool) → dot || bracket ≡ true → bracket ≡ false → dot ≡ true
    by true bracket either absent = refl
    by false true either absent = absurd (false≢true (sym absent))
    by false false either absent = either

-- ---- stops

pub stops_of :
    {Y Z : Type 0} (why : Stop) (read : Result Y Fault) (whole : Result Z Fault) →
    ((fault : Fault) → read ≡ Err fault → whole ≡ Err fault) → Stops why read → Stops why whole
stops_of stops.Memory read whole moves stopped = tt
stops_of (stops.Fault code left) read whole moves stopped = moves (code, left) stopped

-- ---- arguments

arguments_goes :
    (inner : List ℕ → Read Expr) (function : Function) (turns turn : ℕ) (read : List Expr)
    (rest : List ℕ) →
    turn < turns →
    arguments_at inner function (turns - turn) read rest ≡
    (inner rest >>= λ argument. behind_argument function (length (read ++ argument.0 ∷ []))
    argument.1 >>= λ next. if next.0 then arguments_at inner function (turns - (turn + 1)) (read ++
    argument.0 ∷ []) next.1 else Ok (read ++ argument.0 ∷ [], next.1))
unfolding arguments_at
arguments_goes inner function turns turn read rest room =
    let e : turns - turn ≡ suc (turns - (turn + 1)) = omega arith in
    ap (λ n. arguments_at inner function n read rest) e

pub arguments_over :
    (inner : List ℕ → Read Expr) (function : Function) (turns turn : ℕ) (read : List Expr)
    (rest : List ℕ) (whole : Read (List Expr)) →
    turns ≤ turn → arguments_at inner function (turns - turn) read rest ≡ whole →
    whole ≡ stop BadChar rest
unfolding arguments_at
arguments_over inner function turns turn read rest whole over reading =
    let e : turns - turn ≡ 0 = omega arith in
    sym reading ∙ ap (λ n. arguments_at inner function n read rest) e

pub arguments_fault :
    (inner : List ℕ → Read Expr) (function : Function) (turns turn : ℕ) (read : List Expr)
    (rest : List ℕ) (whole : Read (List Expr)) (fault : Fault) →
    turn < turns → arguments_at inner function (turns - turn) read rest ≡ whole →
    inner rest ≡ Err fault → whole ≡ Err fault
arguments_fault inner function turns turn read rest whole fault room reading stopped =
    sym reading ∙ (arguments_goes inner function turns turn read rest room ∙
    ap (λ read_one. read_one >>= λ argument. behind_argument function
    (length (read ++ argument.0 ∷ [])) argument.1 >>= λ next. if next.0
    then arguments_at inner function (turns - (turn + 1)) (read ++ argument.0 ∷ []) next.1
    else Ok (read ++ argument.0 ∷ [], next.1)) stopped)

-- an argument was read
arguments_one :
    (inner : List ℕ → Read Expr) (function : Function) (turns turn : ℕ) (read longer : List Expr)
    (argument : Expr) (rest behind : List ℕ) (whole : Read (List Expr)) →
    turn < turns → arguments_at inner function (turns - turn) read rest ≡ whole →
    inner rest ≡ Ok (argument, behind) → longer ≡ read ++ argument ∷ [] →
    whole ≡ (behind_argument function (length longer) behind >>= λ next. if next.0
    then arguments_at inner function (turns - (turn + 1)) longer next.1 else Ok (longer, next.1))
arguments_one inner function turns turn read longer argument rest behind whole room reading one
    longer_is =
    sym reading ∙ (arguments_goes inner function turns turn read rest room ∙
    (ap (λ read_one. read_one >>= λ argument. behind_argument function
    (length (read ++ argument.0 ∷ [])) argument.1 >>= λ next. if next.0
    then arguments_at inner function (turns - (turn + 1)) (read ++ argument.0 ∷ []) next.1
    else Ok (read ++ argument.0 ∷ [], next.1)) one ∙
    ap (λ all. behind_argument function (length all) behind >>= λ next. if next.0
    then arguments_at inner function (turns - (turn + 1)) all next.1 else Ok (all, next.1))
    (sym longer_is)))

pub arguments_refused :
    (inner : List ℕ → Read Expr) (function : Function) (turns turn : ℕ) (read longer : List Expr)
    (argument : Expr) (rest behind : List ℕ) (whole : Read (List Expr)) (fault : Fault) →
    turn < turns → arguments_at inner function (turns - turn) read rest ≡ whole →
    inner rest ≡ Ok (argument, behind) → longer ≡ read ++ argument ∷ [] →
    behind_argument function (length longer) behind ≡ Err fault → whole ≡ Err fault
arguments_refused inner function turns turn read longer argument rest behind whole fault room
    reading one longer_is stopped =
    arguments_one inner function turns turn read longer argument rest behind whole room reading one
    longer_is ∙ ap (λ found. found >>= λ next. if next.0
    then arguments_at inner function (turns - (turn + 1)) longer next.1
    else Ok (longer, next.1)) stopped

pub arguments_end :
    (inner : List ℕ → Read Expr) (function : Function) (turns turn : ℕ) (read longer : List Expr)
    (argument : Expr) (rest behind next : List ℕ) (whole : Read (List Expr)) →
    turn < turns → arguments_at inner function (turns - turn) read rest ≡ whole →
    inner rest ≡ Ok (argument, behind) → longer ≡ read ++ argument ∷ [] →
    behind_argument function (length longer) behind ≡ Ok (false, next) → whole ≡ Ok (longer, next)
arguments_end inner function turns turn read longer argument rest behind next whole room reading one
    longer_is ended =
    arguments_one inner function turns turn read longer argument rest behind whole room reading one
    longer_is ∙ ap (λ found. found >>= λ next. if next.0
    then arguments_at inner function (turns - (turn + 1)) longer next.1
    else Ok (longer, next.1)) ended

pub arguments_step :
    (inner : List ℕ → Read Expr) (function : Function) (turns turn : ℕ) (read longer : List Expr)
    (argument : Expr) (rest behind next : List ℕ) (whole : Read (List Expr)) →
    turn < turns → arguments_at inner function (turns - turn) read rest ≡ whole →
    inner rest ≡ Ok (argument, behind) → longer ≡ read ++ argument ∷ [] →
    behind_argument function (length longer) behind ≡ Ok (true, next) →
    arguments_at inner function (turns - (turn + 1)) longer next ≡ whole
arguments_step inner function turns turn read longer argument rest behind next whole room reading
    one longer_is more =
    sym (arguments_one inner function turns turn read longer argument rest behind whole room reading
    one longer_is ∙ ap (λ found. found >>= λ next. if next.0
    then arguments_at inner function (turns - (turn + 1)) longer next.1
    else Ok (longer, next.1)) more)
