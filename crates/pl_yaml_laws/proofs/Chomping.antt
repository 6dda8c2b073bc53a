-- Line feeds at the end of a block scalar.
use Rattle.std.proofs.Common.{◌≡◌, ℕ, zero, suc, ◌+◌, ◌-◌, Bool, true, false, not, ◌||◌, cond, ◌⊎◌}
use Rattle.std.proofs.Common.{Option, Some, None, Result, Ok, Err, List, [], ◌∷◌, ◌++◌, length}
use Rattle.std.proofs.Common.{replicate, codes, refl, ap, sym, subst, ◌∙◌, append_assoc, arith, inl}
use Rattle.std.proofs.Common.{inr}
use Rattle.std.specs.Prelude.{◌==◌, nat_lt, if◌then◌else◌, min, flat_map, encode_utf8_all}
use Rattle.std.specs.List.{list_all, last_or}
use Rattle.std.proofs.lemmas.Bool.{cases_Bool, both_ways, eqb-true, and_parts, and_from, and_right}
use Rattle.std.proofs.lemmas.Bool.{or_from, or_left, or_right}
use Rattle.std.proofs.lemmas.Bool.Decides.{nat_tests}
use Rattle.std.proofs.lemmas.List.{append-nil}
use Rattle.pl_base.specs.declared.place.FileKey.{FileKey}
use Rattle.pl_base.specs.declared.node.Node.{Node}
use Rattle.pl_base.specs.declared.node.NodeBody.TheVariants.{Scalar}
use Rattle.pl_line.specs.declared.line_fault.Fault.{Fault}
use Rattle.pl_line.specs.Rows.{Row, is_control}
use Rattle.pl_reading.specs.Bytes.{is_blank}
use Rattle.pl_line.specs.Left.{is_bare}
use Rattle.pl_reading.specs.Steps.{◌>>=◌}
use Rattle.pl_line.specs.Trees.{node_at}
use Rattle.pl_yaml.specs.Reading.{Read, has_row}
use Rattle.pl_yaml.specs.Content.{closed}
use Rattle.pl_yaml.specs.BlockScalars.{TextLine, is_digit, is_sign, are_indicators, indicators}
use Rattle.pl_yaml.specs.BlockScalars.{digit, chomping, content_column, reaches, line_from, inside}
use Rattle.pl_yaml.specs.BlockScalars.{line_before, lines, text_from, header_with, is_void}
use Rattle.pl_yaml.specs.BlockScalars.{next_line, own_break, last_break, inner_break, break_before}
use Rattle.pl_yaml.specs.BlockScalars.{block_text, scalar_with, block}
use Rattle.pl_yaml_laws.specs.Lines.{is_line, is_comment_or_blank, is_end}
use Rattle.pl_yaml_laws.specs.Chomping.{header_row, is_indentation, is_feed, clipped}
use Rattle.pl_yaml_laws.specs.Chomping.{DifferAtTheEnd, ChompingChangesTheEnd, whole_line}
use Rattle.pl_yaml_laws.specs.Chomping.{KeepingKeepsAll}
use Rattle.pl_yaml_laws.proofs.Lines.{is_over}

-- ---- each line but the last has a break

pub AreBroken : List TextLine → Type 0
AreBroken [] = Unit {0}
AreBroken (line ∷ []) = Unit {0}
AreBroken (line ∷ (next ∷ after)) = (line.broken ≡ true) × AreBroken (next ∷ after)

abbrev Covers : List Row → List TextLine → Type 0
Covers rows [] = Unit {0}
Covers rows (line ∷ after) = has_row rows ≡ true

abbrev Fine : List Row → Read (List TextLine) → Type 0
Fine rows (Ok read) = AreBroken read.0 × Covers rows read.0
Fine rows (Err fault) = Unit {0}

all_broken : (column : Option ℕ) (row : Row) (rows : List Row) (after : List TextLine)
    → AreBroken after → Covers rows after → AreBroken (line_from column row (has_row rows) ∷ after)
unfolding AreBroken
all_broken column row rows [] all covers = tt
all_broken column row rows (next ∷ after) all covers = (covers, all)

line_fine : (column : Option ℕ) (row : Row) (rows : List Row) (end : Result Unit Fault)
    (more : Read (List TextLine)) → Fine rows more
    → Fine (row ∷ rows)
    (end >>= λ _. more >>= λ read. Ok (line_from column row (has_row rows) ∷ read.0, read.1))
line_fine column row rows (Err fault) more fine = tt
line_fine column row rows (Ok end) (Err fault) fine = tt
line_fine column row rows (Ok end) (Ok read) fine =
    (all_broken column row rows read.0 fine.0 fine.1, refl)

lines_fine : (column : Option ℕ) (rows : List Row) → Fine rows (lines column rows)
unfolding lines AreBroken
lines_fine column [] = (tt, tt)
lines_fine column (row ∷ rows) =
    elim (is_bare row || reaches column row) as
    (λ b. Fine (row ∷ rows)
    (cond b (line_before column row (lines column rows) rows) (Ok ([], row ∷ rows)))) [
      | true ↦ line_fine column row rows (inside row) (lines column rows) (lines_fine column rows)
      | false ↦ (tt, tt)
    ]

abbrev are_lines : List TextLine → Bool
are_lines lines = list_all (λ line. is_line line.text) lines

abbrev clean_rows : List Row → Bool
clean_rows rows = list_all (λ row. is_line row.text) rows

abbrev Clean : Read (List TextLine) → Type 0
Clean (Ok read) = are_lines read.0 ≡ true
Clean (Err fault) = Unit {0}

text_clean : (column : Option ℕ) (row : Row) → is_line row.text ≡ true
    → is_line (text_from column row) ≡ true
text_clean None row clean = refl
text_clean (Some column) row clean =
    elim (nat_lt row.column column) as
    (λ b. is_line (cond b [] (replicate (row.column - column) 32 ++ row.text)) ≡ true) [
      | true ↦ refl
      | false ↦ spaced (row.column - column) row.text clean
    ]
  where
    spaced : (n : ℕ) (text : List ℕ) → is_line text ≡ true → is_line (replicate n 32 ++ text) ≡ true
    spaced zero text clean = clean
    spaced (suc n) text clean = spaced n text clean

lines_clean : (column : Option ℕ) (rows : List Row) → clean_rows rows ≡ true
    → Clean (lines column rows)
unfolding lines
lines_clean column [] clean = refl
lines_clean column (row ∷ rows) clean =
    let parts = and_parts (is_line row.text) (clean_rows rows) clean in
    elim (is_bare row || reaches column row) as
    (λ b. Clean
    (cond b (line_before column row (lines column rows) rows) (Ok ([], row ∷ rows)))) [
      | true ↦
          one column row (has_row rows) (inside row) (lines column rows) parts.0
          (lines_clean column rows parts.1)
      | false ↦ refl
    ]
  where
    one : (column : Option ℕ) (row : Row) (is_broken : Bool) (end : Result Unit Fault)
        (more : Read (List TextLine)) → is_line row.text ≡ true → Clean more
        → Clean (end >>= λ _. more >>= λ read. Ok (line_from column row is_broken ∷ read.0, read.1))
    one column row is_broken (Err fault) more first clean = tt
    one column row is_broken (Ok end) (Err fault) first clean = tt
    one column row is_broken (Ok end) (Ok read) first clean =
        and_from _ _ (text_clean column row first) clean

-- ---- what is at the end of their text

abbrev stripped : Bool → List TextLine → List ℕ
stripped is_folded lines = block_text is_folded (chomping (45 ∷ [])) lines

abbrev clipping : Bool → List TextLine → List ℕ
clipping is_folded lines = block_text is_folded (chomping []) lines

abbrev kept : Bool → List TextLine → List ℕ
kept is_folded lines = block_text is_folded (chomping (43 ∷ [])) lines

abbrev feed_if : Bool → List ℕ
feed_if is_broken = if is_broken then 10 ∷ [] else []

-- empty lines to the end
record AllVoid (is_folded : Bool) (lines : List TextLine) : Type 0 where
  none : stripped is_folded lines ≡ []
  also : clipping is_folded lines ≡ []
  feeds : ℕ
  all : kept is_folded lines ≡ replicate feeds 10

void_text : (line : TextLine) → is_void line ≡ true → line.text ≡ []
void_text line is = empty line.text is
  where
    empty : (text : List ℕ) → (length text == 0) ≡ true → text ≡ []
    empty [] is = refl
    empty (c ∷ cs) is = absurd (omega (arith, eqb-true (length (c ∷ cs)) 0 is))

-- a line before others
before_none : (is_folded : Bool) (chomps : _) (line : TextLine) (after : List TextLine)
    → next_line after ≡ None
    → block_text is_folded chomps (line ∷ after) ≡ line.text
    ++ (last_break chomps line ++ block_text is_folded chomps after)
unfolding block_text
before_none is_folded chomps line after none =
    ap (λ next. line.text
    ++ (break_before is_folded chomps line after next ++ block_text is_folded chomps after)) none

before_some : (is_folded : Bool) (chomps : _) (line : TextLine) (after : List TextLine)
    (next : TextLine) → next_line after ≡ Some next
    → block_text is_folded chomps (line ∷ after)
    ≡ (line.text ++ inner_break is_folded line after next) ++ block_text is_folded chomps after
unfolding block_text
before_some is_folded chomps line after next is =
    ap (λ found. line.text
    ++ (break_before is_folded chomps line after found ++ block_text is_folded chomps after)) is
    ∙ sym (append_assoc line.text (inner_break is_folded line after next)
    (block_text is_folded chomps after))

all_void : (is_folded : Bool) (lines : List TextLine) → next_line lines ≡ None
    → AllVoid is_folded lines
unfolding block_text next_line
all_void is_folded [] none = record { none = refl; also = refl; feeds = 0; all = refl }
all_void is_folded (line ∷ after) none = elim (cases_Bool (is_void line)) [
  | inl is ↦
      let gone : next_line after ≡ None = rw is at none in
      let more = all_void is_folded after gone in
      let empty = void_text line is in
      let feed : own_break line ++ replicate more.feeds 10
      ≡ replicate (cond line.broken (suc more.feeds) more.feeds) 10 =
      elim line.broken as
      (λ b. feed_if b ++ replicate more.feeds 10
      ≡ replicate (cond b (suc more.feeds) more.feeds) 10) [ true ↦ refl | false ↦ refl ]
      in
      record {
        none = before_none is_folded (chomping (45 ∷ [])) line after gone
            ∙ ap (λ text. text ++ stripped is_folded after) empty ∙ more.none;
        also = before_none is_folded (chomping []) line after gone
            ∙ ap (λ text. text ++ (last_break (chomping []) line ++ clipping is_folded after)) empty
            ∙ ap (λ b. cond b [] (own_break line) ++ clipping is_folded after) is ∙ more.also;
        feeds = cond line.broken (suc more.feeds) more.feeds;
        all = before_none is_folded (chomping (43 ∷ [])) line after gone
            ∙ ap (λ text. text ++ (own_break line ++ kept is_folded after)) empty
            ∙ ap (λ text. own_break line ++ text) more.all ∙ feed;
      }
  | inr isnt ↦ let other : Some line ≡ None = rw isnt at none in absurd (cc)
]

record Ends (is_folded : Bool) (lines : List TextLine) : Type 0 where
  feeds : ℕ
  clip : clipping is_folded lines ≡ stripped is_folded lines
      ++ replicate (clipped (stripped is_folded lines) feeds) 10
  keep : kept is_folded lines ≡ stripped is_folded lines ++ replicate feeds 10
  last : is_feed (last_or None (stripped is_folded lines)) ≡ false
  some : (line : TextLine) → next_line lines ≡ Some line
      → (length (stripped is_folded lines) == 0) ≡ false

clean_last : (before : Option ℕ) (text : List ℕ) → is_line text ≡ true → is_feed before ≡ false
    → is_feed (last_or before text) ≡ false
clean_last before [] clean isnt = isnt
clean_last before (c ∷ cs) clean isnt =
    let parts = and_parts (not (is_control c)) (is_line cs) clean in
    clean_last (Some c) cs parts.1 (other c parts.0)
  where
    other : (c : ℕ) → not (is_control c) ≡ true → (c == 10) ≡ false
    other c clean = grind (arith, nat_tests)

last_append : (before : Option ℕ) (front text : List ℕ) → (length text == 0) ≡ false
    → last_or before (front ++ text) ≡ last_or None text
last_append before [] [] some = absurd (both_ways true some refl)
last_append before [] (c ∷ cs) some = refl
last_append before (d ∷ front) text some = last_append (Some d) front text some

some_more : (front text : List ℕ) → (length text == 0) ≡ false
    → (length (front ++ text) == 0) ≡ false
some_more [] text some = some
some_more (c ∷ front) text some = full (length (front ++ text))
  where
    full : (n : ℕ) → (suc n == 0) ≡ false
    full n = grind (arith, nat_tests)

-- the last line that isn't empty, or an empty one behind which all are
last_ends : (is_folded : Bool) (line : TextLine) (after : List TextLine) → next_line after ≡ None
    → is_line line.text ≡ true → (void : AllVoid is_folded after)
    → (line.broken ≡ true) ⊎ (void.feeds ≡ 0) → Ends is_folded (line ∷ after)
unfolding next_line
last_ends is_folded line after none clean void either =
    let feeds : ℕ = cond line.broken (suc void.feeds) 0 in
    let content : stripped is_folded (line ∷ after) ≡ line.text =
    before_none is_folded (chomping (45 ∷ [])) line after none
    ∙ ap (λ text. line.text ++ text) void.none ∙ append-nil line.text
    in
    let all : own_break line ++ replicate void.feeds 10 ≡ replicate feeds 10 =
    elim either [
      | inl broken ↦ rw broken refl
      | inr nothing ↦ ap (λ n. own_break line ++ replicate n 10) nothing
          ∙ elim line.broken as
          (λ b. feed_if b ++ [] ≡ replicate (cond b 1 0) 10) [ true ↦ refl | false ↦ refl ]
          ∙ ap (λ n. replicate (cond line.broken (suc n) 0) 10) (sym nothing)
    ] in
    let one : own_break line ≡ replicate (min 1 feeds) 10 =
    elim line.broken as (λ b. feed_if b ≡ replicate (min 1 (cond b (suc void.feeds) 0)) 10) [
      | true ↦ let least : min 1 (suc void.feeds) ≡ 1 = omega arith in
          ap (λ n. replicate n 10) (sym least)
      | false ↦ refl
    ] in
    let few : cond (is_void line) [] (own_break line) ≡ replicate (clipped line.text feeds) 10 =
    elim (is_void line) as
    (λ b. cond b [] (own_break line) ≡ replicate (cond b 0 (min 1 feeds)) 10) [
      | true ↦
          refl
      | false ↦ one
    ]
    in
    record {
      feeds = feeds;
      clip = before_none is_folded (chomping []) line after none
          ∙ ap (λ text. line.text ++ (last_break (chomping []) line ++ text)) void.also
          ∙ ap (λ text. line.text ++ text) (append-nil (last_break (chomping []) line) ∙ few)
          ∙ ap (λ text. text ++ replicate (clipped text feeds) 10) (sym content);
      keep = before_none is_folded (chomping (43 ∷ [])) line after none
          ∙ ap (λ text. line.text ++ (own_break line ++ text)) void.all
          ∙ ap (λ text. line.text ++ text) all
          ∙ ap (λ text. text ++ replicate feeds 10) (sym content);
      last = ap (λ text. is_feed (last_or None text)) content
          ∙ clean_last None line.text clean refl;
      some = λ next is. ap (λ text. length text == 0) content
          ∙ not_void line (next_line after) next none is;
    }
  where
    not_void : (line : TextLine) (found : Option TextLine) (next : TextLine) → found ≡ None
        → cond (is_void line) found (Some line) ≡ Some next → is_void line ≡ false
    not_void line found next none is =
        elim (cases_Bool (is_void line)) [
          | inl void ↦ let same : found ≡ Some next = rw void at is in absurd (cc (sym none ∙ same))
          | inr full ↦ full
        ]

-- a line with another behind it that isn't empty
inner_ends : (is_folded : Bool) (line : TextLine) (after : List TextLine) (next : TextLine)
    → next_line after ≡ Some next → Ends is_folded after → Ends is_folded (line ∷ after)
inner_ends is_folded line after next is ends =
    let front : List ℕ = line.text ++ inner_break is_folded line after next in
    let content : List ℕ = stripped is_folded after in
    let feeds : ℕ = ends.feeds in
    let part : stripped is_folded (line ∷ after) ≡ front ++ content =
    before_some is_folded (chomping (45 ∷ [])) line after next is in
    let some = ends.some next is in
    let full : (length (stripped is_folded (line ∷ after)) == 0) ≡ false =
    ap (λ text. length text == 0) part ∙ some_more front content some in
    let same : clipped content feeds ≡ clipped (stripped is_folded (line ∷ after)) feeds =
    ap (λ b. cond b 0 (min 1 feeds)) (some ∙ sym full) in
    record {
      feeds = feeds;
      clip = before_some is_folded (chomping []) line after next is
          ∙ ap (λ text. front ++ text) ends.clip
          ∙ sym (append_assoc front content (replicate (clipped content feeds) 10))
          ∙ ap (λ text. text ++ replicate (clipped content feeds) 10) (sym part)
          ∙ ap (λ n. stripped is_folded (line ∷ after) ++ replicate n 10) same;
      keep = before_some is_folded (chomping (43 ∷ [])) line after next is
          ∙ ap (λ text. front ++ text) ends.keep
          ∙ sym (append_assoc front content (replicate feeds 10))
          ∙ ap (λ text. text ++ replicate feeds 10) (sym part);
      last = ap (λ text. is_feed (last_or None text)) part
          ∙ ap is_feed (last_append None front content some) ∙ ends.last;
      some = λ _ _. full;
    }

ends : (is_folded : Bool) (lines : List TextLine) → AreBroken lines → are_lines lines ≡ true
    → Ends is_folded lines
unfolding block_text next_line AreBroken
ends is_folded [] broken clean =
    record { feeds = 0; clip = refl; keep = refl; last = refl; some = λ line is. absurd (cc) }
ends is_folded (line ∷ []) broken clean =
    last_ends is_folded line [] refl (and_parts (is_line line.text) true clean).0
    (record { none = refl; also = refl; feeds = 0; all = refl }) (inr refl)
ends is_folded (line ∷ (next ∷ after)) broken clean =
    let parts = and_parts (is_line line.text) (are_lines (next ∷ after)) clean in
    found is_folded line (next ∷ after) (next_line (next ∷ after)) refl broken.0 parts.0
    (ends is_folded (next ∷ after) broken.1 parts.1)
  where
    found : (is_folded : Bool) (line : TextLine) (after : List TextLine) (next : Option TextLine)
        → next_line after ≡ next → line.broken ≡ true → is_line line.text ≡ true
        → Ends is_folded after → Ends is_folded (line ∷ after)
    found is_folded line after None is broken clean ends =
        last_ends is_folded line after is clean (all_void is_folded after is) (inl broken)
    found is_folded line after (Some next) is broken clean ends =
        inner_ends is_folded line after next is ends

-- ---- literal lines that are all kept

kept_is : (lines : List TextLine) → AreBroken lines → kept false lines ≡ flat_map whole_line lines
unfolding block_text next_line AreBroken
kept_is [] broken = refl
kept_is (line ∷ []) broken = ap (λ text. line.text ++ text) (append-nil (own_break line))
    ∙ sym (append-nil (line.text ++ own_break line))
kept_is (line ∷ (next ∷ after)) broken =
    let rest : List TextLine = next ∷ after in
    ap (λ text. line.text ++ (text ++ kept false rest))
    (break_is line rest (next_line rest) broken.0)
    ∙ ap (λ text. line.text ++ (own_break line ++ text)) (kept_is (next ∷ after) broken.1)
    ∙ sym (append_assoc line.text (own_break line) (flat_map whole_line rest))
  where
    break_is : (line : TextLine) (rest : List TextLine) (next : Option TextLine)
        → line.broken ≡ true
        → break_before false (chomping (43 ∷ [])) line rest next ≡ own_break line
    break_is line rest None broken = refl
    break_is line rest (Some next) broken = rw broken refl

-- ---- headers

blank_other : (c : ℕ) → is_blank c ≡ true → (is_digit c ≡ false) × (is_sign c ≡ false)
blank_other c blank = (no_digit c blank, no_sign c blank)
  where
    no_digit : (c : ℕ) → is_blank c ≡ true → is_digit c ≡ false
    no_digit c blank = grind (arith, nat_tests)

    no_sign : (c : ℕ) → is_blank c ≡ true → is_sign c ≡ false
    no_sign c blank = grind (arith, nat_tests)

-- what may end a line begins with no indicator
indicators_none : (rest : List ℕ) → is_end rest ≡ true → indicators rest ≡ []
indicators_none [] over = refl
indicators_none (c ∷ []) over = let other = blank_other c (and_parts (is_blank c) true over).0 in
    rw (other.0, other.1) refl
indicators_none (c ∷ (d ∷ cs)) over =
    let other = blank_other c (and_parts (is_blank c) (is_comment_or_blank (d ∷ cs)) over).0 in
    rw (other.0, other.1) refl

indicators_one : (mark : ℕ) (rest : List ℕ) → (is_digit mark || is_sign mark) ≡ true
    → is_end rest ≡ true → indicators (mark ∷ rest) ≡ mark ∷ []
indicators_one mark [] one over = rw one refl
indicators_one mark (c ∷ cs) one over =
    let other = blank_other c (and_parts (is_blank c) (is_comment_or_blank cs) over).0 in
    let two : are_indicators mark c ≡ false =
    or_from _ _ (and_right (is_digit mark) (is_sign c) other.1)
    (and_right (is_sign mark) (is_digit c) other.0) in
    rw (two, one) refl

digit_no_sign : (c : ℕ) → is_digit c ≡ true → ((c == 45) ≡ false) × ((c == 43) ≡ false)
digit_no_sign c digit = (no_minus c digit, no_plus c digit)
  where
    no_minus : (c : ℕ) → is_digit c ≡ true → (c == 45) ≡ false
    no_minus c digit = grind (arith, nat_tests)

    no_plus : (c : ℕ) → is_digit c ≡ true → (c == 43) ≡ false
    no_plus c digit = grind (arith, nat_tests)

-- so many characters of a header are its indicators, which say so much
record Says (marks rest : List ℕ) (digits : Option ℕ) (signs : List ℕ) : Type 0 where
  all : indicators (marks ++ rest) ≡ marks
  column : digit marks ≡ digits
  chomp : chomping marks ≡ chomping signs

unsigned : (indentation rest : List ℕ) → is_indentation indentation ≡ true → is_end rest ≡ true
    → Says indentation rest (digit indentation) []
unsigned [] rest is over = record { all = indicators_none rest over; column = refl; chomp = refl }
unsigned (c ∷ []) rest is over =
    let other = digit_no_sign c is in
    record {
      all = indicators_one c rest (or_left _ _ is) over;
      column = refl;
      chomp =
          rw (other.0, other.1) refl;
    }
unsigned (c ∷ (d ∷ cs)) rest is over = absurd (both_ways false refl is)

signed : (indentation rest : List ℕ) (sign : ℕ) → is_sign sign ≡ true → is_digit sign ≡ false
    → is_indentation indentation ≡ true → is_end rest ≡ true
    → Says (indentation ++ sign ∷ []) rest (digit indentation) (sign ∷ [])
signed [] rest sign is no_digit ok over =
    record {
      all = indicators_one sign rest (or_right _ _ is) over;
      column =
          rw no_digit refl;
      chomp = refl;
    }
signed (c ∷ []) rest sign is no_digit ok over =
    let other = digit_no_sign c ok in
    let two : are_indicators c sign ≡ true = or_left _ _ (and_from _ _ ok is) in
    record { all = rw two refl; column = rw ok refl; chomp = rw (other.0, other.1) refl }
signed (c ∷ (d ∷ cs)) rest sign is no_digit ok over = absurd (both_ways false refl ok)

-- ---- scalars

module _ (file : FileKey) (parent number column : ℕ) (rows : List Row) where
  abbrev scalar : List ℕ → Node
  scalar text = node_at file (header_row number column []) (Scalar (encode_utf8_all text))

  abbrev read_with : Bool → List ℕ → Read (List TextLine) → Read Node
  read_with is_folded signs read =
      read >>= λ got. Ok (scalar (block_text is_folded (chomping signs) got.0), got.1)

  abbrev scalar_by : Bool → List ℕ → Result (Option ℕ) Fault → Read Node
  scalar_by is_folded signs content = content >>= λ at. read_with is_folded signs (lines at rows)

  block_is : (mark : ℕ) (marks rest : List ℕ) (digits : Option ℕ) (signs : List ℕ)
      → is_end rest ≡ true → Says marks rest digits signs
      → block file parent (header_row number column (mark ∷ (marks ++ rest))) rows
      ≡ scalar_by (mark == 62) signs (content_column parent digits rows)
  unfolding block
  block_is mark marks rest digits signs over says =
      let row : Row = header_row number column (mark ∷ (marks ++ rest)) in
      let len : 1 + length marks ≡ length (mark ∷ marks) = omega arith in
      let closes : closed (1 + length marks) row ≡ Ok tt = ap (λ n. closed n row) len
      ∙ is_over row (mark ∷ marks) rest refl refl over in
      ap (λ ms. scalar_with file parent row (header_with (mark == 62) ms) rows) says.all
      ∙ ap (λ end. end
      >>= λ _. scalar_by (mark == 62) marks (content_column parent (digit marks) rows)) closes
      ∙ ap (λ ds. scalar_by (mark == 62) marks (content_column parent ds rows)) says.column
      ∙ ap (λ chomps. content_column parent digits rows >>= λ at. lines at rows
      >>= λ got. Ok (scalar (block_text (mark == 62) chomps got.0), got.1)) says.chomp

  differ_read : (is_folded : Bool) (read : Read (List TextLine)) → Fine rows read → Clean read
      → DifferAtTheEnd scalar (read_with is_folded (45 ∷ []) read) (read_with is_folded [] read)
      (read_with is_folded (43 ∷ []) read)
  differ_read is_folded (Err fault) fine clean = (refl, refl)
  differ_read is_folded (Ok read) fine clean =
      let e = ends is_folded read.0 fine.0 clean in (
        stripped is_folded read.0,
        e.feeds,
        refl,
        e.last,
        ap (λ text. Ok (scalar text, read.1)) e.clip,
        ap (λ text. Ok (scalar text, read.1)) e.keep,
      )

  differ_at : (is_folded : Bool) (content : Result (Option ℕ) Fault) → clean_rows rows ≡ true
      → DifferAtTheEnd scalar (scalar_by is_folded (45 ∷ []) content)
      (scalar_by is_folded [] content) (scalar_by is_folded (43 ∷ []) content)
  differ_at is_folded (Err fault) clean = (refl, refl)
  differ_at is_folded (Ok content) clean =
      differ_read is_folded (lines content rows) (lines_fine content rows)
      (lines_clean content rows clean)

pub chomping_changes_the_end : ChompingChangesTheEnd
chomping_changes_the_end file parent number column mark indentation rest rows style is over clean =
    let by = block_is file parent number column rows mark in
    rw (
      by (indentation ++ codes "-") rest (digit indentation) (codes "-") over
          (signed indentation rest 45 refl refl is over),
      by indentation rest (digit indentation) [] over (unsigned indentation rest is over),
      by (indentation ++ codes "+") rest (digit indentation) (codes "+") over
          (signed indentation rest 43 refl refl is over),
    ) (differ_at file parent number column rows (mark == 62)
    (content_column parent (digit indentation) rows) clean)

pub keeping_keeps_all : KeepingKeepsAll
keeping_keeps_all file parent number column indentation rest rows left content read is over at
    reads =
    let fine : Fine rows (Ok (read, left)) = subst (Fine rows) reads (lines_fine content rows) in
    block_is file parent number column rows 124 (indentation ++ codes "+") rest (digit indentation)
    (codes "+") over (signed indentation rest 43 refl refl is over)
    ∙ ap (scalar_by file parent number column rows false (codes "+")) at
    ∙ ap (read_with file parent number column rows false (codes "+")) reads
    ∙ ap (λ text. Ok (scalar file parent number column rows text, left)) (kept_is read fine.0)
