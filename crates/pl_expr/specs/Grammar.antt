-- The grammar of expressions: which texts have which tree, and the fault of every other text. Each
-- definition reads one rule of the grammar from the front of a list of bytes.
--
--     text    = blanks expr blanks
--     expr    = primary { blanks tail }
--     tail    = "." name | "[" text "]" | ".*" { "." name }
--     primary = literal | function blanks "(" [ text { "," text } ] ")" | name
--     literal = boolean | number | version | string
--     number  = [ "-" ] digits            version = digits 2*3( "." digits )
--     string  = "'" { any but ' , or '' } "'"
--     name    = letter or "_" , { letter | digit | "_" }
use Rattle.std.specs.Prelude.{ℕ, zero, suc, ◌-◌, Bool, true, false, not, List, [], ◌∷◌, ◌++◌}
use Rattle.std.specs.Prelude.{length, drop, map, take_while, codes, Option, Some, None, Result, Ok}
use Rattle.std.specs.Prelude.{Err, ℤ, nat_eq, nat_lt, nat_le, ◌==◌, ◌||◌, ◌&&◌, if◌then◌else◌}
use Rattle.std.specs.List.{prefix_len}
use Rattle.std.specs.Char.{is_ascii_digit, is_ascii_alphabetic, is_ascii_alphanumeric}
use Rattle.std.specs.Cmp.Lexicographic.{pointwise}
use Rattle.pl_base.specs.declared.value.Value.{Bool as Truth, Number, Version, Str}
use Rattle.pl_expr.specs.declared.expr.Expr.{Expr}
use Rattle.pl_expr.specs.declared.expr.Expr.TheVariants.{Lit, Root, Index, Project, Call}
use Rattle.pl_expr.specs.declared.expr.Function.{Function}
use Rattle.pl_expr.specs.declared.expr.Mode.{Mode}
use Rattle.pl_expr.specs.declared.fault.ExprCode.{ExprCode}
use Rattle.pl_expr.specs.declared.fault.ExprCode.TheVariants.{BadChar, UnclosedString}
use Rattle.pl_expr.specs.declared.fault.ExprCode.TheVariants.{UnknownFunction, BadCount, Trailing}
use Rattle.pl_expr.specs.declared.fault.ExprCode.TheVariants.{TooDeep, Fraction, NumberRange}
use Rattle.pl_expr.specs.declared.scan.Front.{Front}
use Rattle.pl_expr.specs.declared.scan.Front.TheVariants as front
use Rattle.pl_base.specs.Folding.{folded}
use Rattle.pl_expr.specs.Numerals.{is_blank, skip, signed, goes_on, runs_of, behind_runs}
use Rattle.pl_expr.specs.Numerals.{segments_of}
use Rattle.pl_reading.specs.Bytes.{digits_of, number_of, begins_with}
use Rattle.pl_expr.specs.Functions.{most_of, may_follow, takes, named}
use Rattle.pl_expr.specs.Trees.{depth_of, is_projection}
use Rattle.pl_reading.specs.Steps.{◌>>=◌}

-- ---- what reading gives

-- a code, and how many bytes stand from the fault's place to the end
abbrev pub Fault : Type 0
Fault = ExprCode × ℕ

-- a value and the bytes behind it, or the fault
abbrev pub Read : Type 0 → Type 0
Read A = Result (A × List ℕ) Fault

abbrev pub stop : {A : Type 0} → ExprCode → List ℕ → Result A Fault
stop code bytes = Err (code, length bytes)

-- ---- bytes and names

-- a letter or `_` begins a name, and digits may follow
abbrev pub begins_name : ℕ → Bool
begins_name byte = is_ascii_alphabetic byte || (byte == 95)

abbrev pub is_name_byte : ℕ → Bool
is_name_byte byte = is_ascii_alphanumeric byte || (byte == 95)

-- any byte but a quote
abbrev pub is_plain : ℕ → Bool
is_plain byte = not (byte == 39)

abbrev pub is_word : List ℕ → Bool
is_word [] = false
is_word (first ∷ bytes) = begins_name first

abbrev pub word_of : List ℕ → List ℕ
word_of bytes = take_while is_name_byte bytes

abbrev pub behind_word : List ℕ → List ℕ
behind_word bytes = skip is_name_byte bytes

-- ---- literals

-- a string's text, from behind its opening quote on, and what stands behind its closing one; None
-- where it has none
abbrev pub with_byte : ℕ → Option (List ℕ × List ℕ) → Option (List ℕ × List ℕ)
with_byte byte None = None
with_byte byte (Some read) = Some (byte ∷ read.0, read.1)

unfoldable pub unquoted : List ℕ → Option (List ℕ × List ℕ)
unquoted [] = None
unquoted (byte ∷ []) = if byte == 39 then Some ([], []) else None
unquoted (byte ∷ next ∷ bytes) =
    if not (byte == 39) then with_byte byte (unquoted (next ∷ bytes))
    else if next == 39 then with_byte 39 (unquoted bytes) else Some ([], next ∷ bytes)

abbrev pub string_read : List ℕ → Bool → Option (List ℕ × List ℕ) → Read Expr
string_read bytes room None = stop UnclosedString bytes
string_read bytes false (Some read) = stop TooDeep bytes
string_read bytes true (Some read) = Ok (Lit (Str read.0), read.1)

abbrev pub number_read : List ℕ → List ℕ → Option ℤ → Read Expr
number_read bytes rest None = stop NumberRange bytes
number_read bytes rest (Some number) = Ok (Lit (Number number), rest)

abbrev pub version_read : List ℕ → List ℕ → Option (List ℕ) → Read Expr
version_read bytes rest None = stop NumberRange bytes
version_read bytes rest (Some segments) = Ok (Lit (Version segments), rest)

-- One run of digits is a number, two are a fraction, more are a version.
unfoldable pub unsigned_at : List ℕ → Read Expr
unsigned_at bytes =
    if length (runs_of bytes) == 1 then number_read bytes (skip is_ascii_digit bytes)
    (signed false (number_of (digits_of bytes)))
    else if length (runs_of bytes) == 2 then stop Fraction bytes
    else version_read bytes (behind_runs bytes) (segments_of (map number_of (runs_of bytes)))

-- Behind a minus more than two runs are a number and what follows it.
unfoldable pub signed_at : List ℕ → List ℕ → Read Expr
signed_at bytes body =
    if prefix_len is_ascii_digit body == 0 then stop BadChar body
    else if length (runs_of body) == 2 then stop Fraction bytes
    else number_read bytes (skip is_ascii_digit body) (signed true (number_of (digits_of body)))

abbrev pub number_at : List ℕ → Read Expr
number_at bytes = if begins_with 45 bytes then signed_at bytes (drop 1 bytes) else unsigned_at bytes

-- ---- primaries

-- a name that stands by itself
unfoldable pub word_tree : List ℕ → Expr
word_tree word =
    if pointwise nat_eq (folded (codes "true")) (folded word) then Lit (Truth true)
    else if pointwise nat_eq (folded (codes "false")) (folded word) then Lit (Truth false)
    else Root word

-- What stands behind so many arguments: a comma, and another one follows, or the `)`.
unfoldable pub behind_argument : Function → ℕ → List ℕ → Read Bool
behind_argument function count bytes =
    if begins_with 44 bytes then
    (if may_follow (most_of function) count then Ok (true, drop 1 bytes) else stop BadCount bytes)
    else if begins_with 41 bytes then
    (if takes function count then Ok (false, drop 1 bytes) else stop BadCount bytes)
    else stop BadChar bytes

-- The arguments behind those that are read already, up to the `)`. Each turn reads one, of a byte
-- or more, so that no turn is left only at the end.
unfoldable pub arguments_at :
    (List ℕ → Read Expr) → Function → ℕ → List Expr → List ℕ → Read (List Expr)
arguments_at inner function zero read bytes = stop BadChar bytes
arguments_at inner function (suc turns) read bytes = inner bytes >>= λ argument.
    behind_argument function (length (read ++ argument.0 ∷ [])) argument.1 >>= λ next.
    if next.0 then arguments_at inner function turns (read ++ argument.0 ∷ []) next.1
    else Ok (read ++ argument.0 ∷ [], next.1)

-- a call, from behind its `(` on
unfoldable pub call_at : (List ℕ → Read Expr) → Function → List ℕ → Read Expr
call_at inner function bytes =
    if begins_with 41 bytes then (if takes function 0 then Ok (Call function [], drop 1 bytes)
    else stop BadCount bytes)
    else arguments_at inner function (length bytes) [] bytes >>=
    λ read. Ok (Call function read.0, read.1)

abbrev pub called : (List ℕ → Read Expr) → List ℕ → Bool → List ℕ → Option Function → Read Expr
called inner bytes room rest None = stop UnknownFunction bytes
called inner bytes false rest (Some function) = stop TooDeep bytes
called inner bytes true rest (Some function) = call_at inner function rest

-- a name with a `(` behind it is a function's
unfoldable pub word_at : Mode → Bool → (List ℕ → Read Expr) → List ℕ → Read Expr
word_at mode room inner bytes =
    if begins_with 40 (skip is_blank (behind_word bytes)) then
    called inner bytes room (drop 1 (skip is_blank (behind_word bytes)))
    (named mode (word_of bytes))
    else if room then Ok (word_tree (word_of bytes), behind_word bytes)
    else stop TooDeep bytes

unfoldable pub front_of : List ℕ → Front
front_of [] = front.Nothing
front_of (byte ∷ bytes) =
    if byte == 39 then front.Quote
    else if begins_name byte then front.Word
    else if is_ascii_digit byte || (byte == 45) then front.Digits
    else if goes_on (byte ∷ bytes) then front.Fraction
    else front.Nothing

-- A primary. There is room where the tree may get as deep as a leaf.
abbrev pub primary_by : Mode → Bool → (List ℕ → Read Expr) → List ℕ → Front → Read Expr
primary_by mode room inner bytes front.Quote = string_read bytes room (unquoted (drop 1 bytes))
primary_by mode room inner bytes front.Word = word_at mode room inner bytes
primary_by mode room inner bytes front.Digits = if room then number_at bytes else stop TooDeep bytes
primary_by mode room inner bytes front.Fraction = stop Fraction bytes
primary_by mode room inner bytes front.Nothing = stop BadChar bytes

unfoldable pub primary_at : Mode → Bool → (List ℕ → Read Expr) → List ℕ → Read Expr
primary_at mode room inner bytes = primary_by mode room inner bytes (front_of bytes)

-- ---- tails

-- the names of a projection behind those that are read already
unfoldable pub names_at : ℕ → List (List ℕ) → List ℕ → List (List ℕ) × List ℕ
names_at zero read bytes = (read, bytes)
names_at (suc turns) read bytes =
    if begins_with 46 bytes && is_word (drop 1 bytes) then
    names_at turns (read ++ word_of (drop 1 bytes) ∷ []) (behind_word (drop 1 bytes))
    else (read, bytes)

-- an index, from behind its `[` on
unfoldable pub index_at : (List ℕ → Read Expr) → Expr → List ℕ → Read Expr
index_at inner tree bytes = inner bytes >>= λ index.
    if begins_with 93 index.1 then Ok (Index tree index.0, drop 1 index.1) else stop BadChar index.1

-- what stands behind a dot
unfoldable pub member_at : Expr → List ℕ → Read Expr
member_at tree bytes =
    if begins_with 42 bytes then
    (let names = names_at (length bytes) [] (drop 1 bytes) in Ok (Project tree names.0, names.1))
    else if is_word bytes then Ok (Index tree (Lit (Str (word_of bytes))), behind_word bytes)
    else stop BadChar bytes

unfoldable pub tail_at : (List ℕ → Read Expr) → Expr → List ℕ → Read Expr
tail_at inner tree bytes =
    if begins_with 91 bytes then index_at inner tree (drop 1 bytes)
    else member_at tree (drop 1 bytes)

abbrev pub begins_tail : List ℕ → Bool
begins_tail bytes = begins_with 46 bytes || begins_with 91 bytes

-- what may stand behind a tail's dot
abbrev pub begins_member : List ℕ → Bool
begins_member bytes = begins_with 42 bytes || is_word bytes

-- The fault of one more tail behind a tree as deep as it may get. Names make a projection no
-- deeper, so a dot right behind one may begin a name. Where it begins neither a name nor `.*`, the
-- byte behind the dot is what fits nothing.
unfoldable pub deep_fault : Expr → List ℕ → Fault
deep_fault tree bytes =
    if is_projection tree && (begins_with 46 bytes && not (begins_member (drop 1 bytes)))
    then (BadChar, length (drop 1 bytes))
    else (TooDeep, length (skip is_blank bytes))

-- The tails of a tree that may get so deep, and the blanks behind them. Each makes it deeper, so
-- that there are no more turns than that.
unfoldable pub tails_at : (List ℕ → Read Expr) → ℕ → ℕ → Expr → List ℕ → Read Expr
tails_at inner depth zero tree bytes =
    if begins_tail (skip is_blank bytes) then Err (deep_fault tree bytes)
    else Ok (tree, skip is_blank bytes)
tails_at inner depth (suc turns) tree bytes =
    if begins_tail (skip is_blank bytes) then
    (if nat_le depth (depth_of tree) then Err (deep_fault tree bytes)
    else tail_at inner tree (skip is_blank bytes) >>= λ next. tails_at inner depth turns next.0
    next.1)
    else Ok (tree, skip is_blank bytes)

-- ---- texts

-- an expression that may get so deep, and the blanks behind it
unfoldable pub expression_at : Mode → ℕ → (List ℕ → Read Expr) → List ℕ → Read Expr
expression_at mode depth inner bytes = primary_at mode (nat_lt 0 depth) inner
    (skip is_blank bytes) >>= λ first. tails_at inner depth depth first.0 first.1

-- the same, where what stands inside it may get one less deep
unfoldable pub text_at : Mode → ℕ → List ℕ → Read Expr
text_at mode zero bytes = expression_at mode zero (λ rest. stop BadChar rest) bytes
text_at mode (suc depth) bytes = expression_at mode (suc depth) (text_at mode depth) bytes

abbrev pub inner_of : Mode → ℕ → List ℕ → Read Expr
inner_of mode zero bytes = stop BadChar bytes
inner_of mode (suc depth) bytes = text_at mode depth bytes

-- a whole text
unfoldable pub text_whole : Mode → List ℕ → Result Expr Fault
text_whole mode bytes = text_at mode 50 bytes >>= λ read.
    if length read.1 == 0 then Ok read.0 else stop Trailing read.1

-- a fault's offset is what stands before its place
abbrev pub placed : {A : Type 0} → List ℕ → Result A Fault → Result A Fault
placed bytes (Ok tree) = Ok tree
placed bytes (Err fault) = Err (fault.0, length bytes - fault.1)

-- The one tree of a text, or the fault's code and its offset in bytes.
unfoldable pub parses : Mode → List ℕ → Result Expr Fault
parses mode bytes = placed bytes (text_whole mode bytes)
