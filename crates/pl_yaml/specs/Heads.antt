-- What begins on a line (YAML 1.2.2, sections 5.3, 7.3.3, 8.2.1, 8.2.2, 9.1.2 and 9.1.4).
use Rattle.std.specs.Prelude.{ℕ, ◌+◌, Bool, false, ◌==◌, ◌&&◌, ◌||◌, nat_eq, List, [], ◌∷◌, length}
use Rattle.std.specs.Prelude.{drop, if◌then◌else◌, codes}
use Rattle.std.specs.List.{starts_with}
use Rattle.pl_line.specs.declared.code.YamlCode.{YamlCode}
use Rattle.pl_line.specs.declared.code.YamlCode.TheVariants as codes_of
use Rattle.pl_line.specs.Rows.{Row}
use Rattle.pl_line.specs.Scanning.{ends_word, plain_len, is_stray}
use Rattle.pl_reading.specs.Bytes.{begins_with}
use Rattle.pl_line.specs.Left.{behind, is_empty}
use Rattle.pl_yaml.specs.declared.head.Head.{Head}
use Rattle.pl_yaml.specs.declared.head.Head.TheVariants as heads

-- a word of three characters at column 1
abbrev pub is_word : List ℕ → Row → Bool
is_word word row = starts_with nat_eq row.text word &&
    (row.column == 1 && ends_word row.whole (drop (length word) row.text))

abbrev pub is_marker : Row → Bool
is_marker row = is_word (codes "---") row || is_word (codes "...") row

-- `---` alone, perhaps before a comment
abbrev pub is_start : Row → Bool
is_start row = is_word (codes "---") row && is_empty (behind 3 row)

abbrev pub plain_head : List ℕ → ℕ → Head
plain_head text n = if begins_with 58 (drop n text) then heads.Key n else heads.Word n

-- quoted scalars, flow collections and block scalars
abbrev pub is_quote : ℕ → Bool
is_quote c = c == 39 || c == 34

abbrev pub is_bracket : ℕ → Bool
is_bracket c = c == 91 || c == 123

abbrev pub is_block : ℕ → Bool
is_block c = c == 124 || c == 62

-- what begins with this character, these behind it
abbrev pub head_from : Bool → ℕ → List ℕ → Head
head_from whole c cs =
    if c == 45 && ends_word whole cs then heads.Dash
    else if c == 63 && ends_word whole cs then heads.Question
    else if c == 38 || c == 42 then heads.Anchor
    else if c == 33 then heads.Tag
    else if is_quote c then heads.Quote
    else if is_bracket c then heads.Flow
    else if is_block c then heads.Block
    else if is_stray c || c == 58 && ends_word whole cs then heads.Stray
    else plain_head (c ∷ cs) (plain_len whole false (c ∷ cs))

unfoldable pub head_at : Bool → List ℕ → Head
head_at whole [] = heads.Stray
head_at whole (c ∷ cs) = head_from whole c cs

abbrev pub head_of : Row → Head
head_of row = head_at row.whole row.text

-- how many characters a head takes, a key's `:` counted
abbrev pub head_len : Head → ℕ
head_len heads.Dash = 1
head_len heads.Quote = 1
head_len heads.Flow = 1
head_len heads.Block = 1
head_len (heads.Key n) = n + 1
head_len (heads.Word n) = n
head_len _ = 0

-- why nothing is read at such a head, where a node begins
abbrev pub refusal : Head → YamlCode
refusal heads.Question = codes_of.ComplexKey
refusal heads.Anchor = codes_of.Anchor
refusal heads.Tag = codes_of.Tag
refusal _ = codes_of.NoEntry

-- the same where a value must follow on its line
abbrev pub refusal_inline : Head → YamlCode
refusal_inline heads.Anchor = codes_of.Anchor
refusal_inline heads.Tag = codes_of.Tag
refusal_inline _ = codes_of.NoEntry
