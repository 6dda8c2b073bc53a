-- Lines that end behind a scalar, and texts of one line.
use Rattle.std.proofs.Common.{◌≡◌, ℕ, zero, suc, ◌+◌, Bool, true, false, not, ◌&&◌, ◌||◌, cond, Ok}
use Rattle.std.proofs.Common.{List, [], ◌∷◌, ◌++◌, length, take, drop, codes, refl, ap, sym, ◌∙◌}
use Rattle.std.proofs.Common.{arith, inl, inr}
use Rattle.std.specs.Prelude.{◌==◌, nat_lt}
use Rattle.std.specs.List.{list_all, slice_split, onto_first, position_or_len}
use Rattle.std.proofs.lemmas.Bool.{cases_Bool, and_parts, and_from, or_parts, or_from, or_left}
use Rattle.std.proofs.lemmas.Bool.{or_right, and_left, and_right, eq-eqb}
use Rattle.std.proofs.lemmas.Bool.Decides.{nat_tests}
use Rattle.std.proofs.lemmas.List.{drop-drop, drop_at, take_all}
use Rattle.pl_base.specs.declared.place.FileKey.{FileKey}
use Rattle.pl_base.specs.declared.node.Node.{Node}
use Rattle.pl_line.specs.Rows.{Row, is_control, indented, row_at, rows_from, rows_of, without_mark}
use Rattle.pl_line.specs.Rows.{without_return}
use Rattle.pl_reading.specs.Bytes.{is_blank, begins_with}
use Rattle.pl_line.specs.Left.{behind, line_end, is_bare, is_done, is_empty}
use Rattle.pl_reading.specs.Steps.{◌>>=◌}
use Rattle.pl_line.specs.Scanning.{ends_word}
use Rattle.pl_yaml.specs.Heads.{is_word, is_marker, is_start}
use Rattle.pl_yaml.specs.Content.{stands, begins, content, lead, is_closed, closed}
use Rattle.pl_yaml.specs.Nodes.{begun, inner, node, node_in}
use Rattle.pl_yaml.specs.Spells.{whole_text, nothing_left, document}
use Rattle.pl_yaml_laws.specs.Lines.{RowsAreLines, is_line, is_comment_or_blank, is_end}

-- ---- behind a scalar

abbrev pub blanks : List ℕ → ℕ
blanks text = position_or_len (λ c. not (is_blank c)) text

blank_no_mark : (c : ℕ) → is_blank c ≡ true → (c == 35) ≡ false
blank_no_mark c blank = grind (arith, nat_tests)

pub past_one : (k c : ℕ) (cs : List ℕ) → drop (1 + k) (c ∷ cs) ≡ drop k cs
past_one k c cs = let e : 1 + k ≡ suc k = omega arith in ap (λ n. drop n (c ∷ cs)) e

pub past_blanks : (cs : List ℕ) → is_comment_or_blank cs ≡ true
    → (length (drop (blanks cs) cs) == 0 || begins_with 35 (drop (blanks cs) cs)) ≡ true
past_blanks [] over = refl
past_blanks (c ∷ cs) over =
    elim (cases_Bool (is_blank c)) [
      | inl blank ↦
          let more = past_blanks cs (rw (blank_no_mark c blank, blank) at over) in
          rw blank (ap (λ text. length text == 0 || begins_with 35 text) (past_one (blanks cs) c cs)
          ∙ more)
      | inr isnt ↦
          rw isnt (or_right (length (c ∷ cs) == 0) (c == 35) (only (c == 35) (rw isnt at over)))
    ]
  where
    only : (b : Bool) → (b || false) ≡ true → b ≡ true
    only true is = refl
    only false is = is

-- behind blanks the line ends, or a comment begins
past_end : (rest : List ℕ) → is_end rest ≡ true
    → (length (drop (blanks rest) rest) == 0 || begins_with 35 (drop (blanks rest) rest)) ≡ true
past_end [] over = refl
past_end (c ∷ cs) over =
    let parts = and_parts (is_blank c) (is_comment_or_blank cs) over in
    rw parts.0
    (ap (λ text. length text == 0 || begins_with 35 text) (past_one (blanks cs) c cs)
    ∙ past_blanks cs parts.1)

pub no_colon : (rest : List ℕ) → is_end rest ≡ true
    → begins_with 58 (drop (blanks rest) rest) ≡ false
no_colon rest over = none (drop (blanks rest) rest) (past_end rest over)
  where
    other : (c n : ℕ) → (suc n == 0 || c == 35) ≡ true → (c == 58) ≡ false
    other c n is = grind (arith, nat_tests)

    none : (text : List ℕ) → (length text == 0 || begins_with 35 text) ≡ true
        → begins_with 58 text ≡ false
    none [] is = refl
    none (c ∷ cs) is = other c (length cs) is

pub behind_text : (row : Row) (front rest : List ℕ) → row.text ≡ front ++ rest
    → (behind (length front) row).text ≡ drop (blanks rest) rest
unfolding behind
behind_text row front rest is =
    let dropped : drop (length front) row.text ≡ rest = ap (drop (length front)) is
    ∙ drop_at front rest (length front) refl in
    sym (drop-drop (blanks (drop (length front) row.text)) (length front) row.text)
    ∙ ap (λ text. drop (blanks text) text) dropped

closed_test : (row : Row) (front rest : List ℕ) → row.text ≡ front ++ rest → is_end rest ≡ true
    → is_closed (length front) row ≡ true
closed_test row front rest is over =
    let dropped : drop (length front) row.text ≡ rest = ap (drop (length front)) is
    ∙ drop_at front rest (length front) refl in
    ap (λ text. length text == 0 || ends_word false (drop (length front) row.text)
    && begins_with 35 text) (behind_text row front rest is)
    ∙ ap (λ text. length (drop (blanks rest) rest) == 0 || ends_word false text
    && begins_with 35 (drop (blanks rest) rest)) dropped
    ∙ ends rest over
  where
    ends : (rest : List ℕ) → is_end rest ≡ true
        → (length (drop (blanks rest) rest) == 0 || ends_word false rest
        && begins_with 35 (drop (blanks rest) rest)) ≡ true
    ends [] over = refl
    ends (c ∷ cs) over =
        let parts = and_parts (is_blank c) (is_comment_or_blank cs) over in
        ap (λ b. length (drop (blanks (c ∷ cs)) (c ∷ cs)) == 0 || b
        && begins_with 35 (drop (blanks (c ∷ cs)) (c ∷ cs))) parts.0 ∙ past_end (c ∷ cs) over

pub is_over : (row : Row) (front rest : List ℕ) → row.text ≡ front ++ rest → row.whole ≡ true
    → is_end rest ≡ true → closed (length front) row ≡ Ok tt
is_over row front rest is whole over = rw (closed_test row front rest is over, whole) refl

-- behind blanks stands none
blanks_past : (text : List ℕ) → blanks (drop (blanks text) text) ≡ 0
blanks_past [] = refl
blanks_past (c ∷ cs) = elim (cases_Bool (is_blank c)) [
  | inl blank ↦ rw blank (ap blanks (past_one (blanks cs) c cs) ∙ blanks_past cs)
  | inr isnt ↦ rw isnt (rw isnt refl)
]

begun_done : (row : Row) → blanks row.text ≡ 0 → is_bare row ≡ true → is_done row ≡ true
unfolding behind
begun_done row none bare =
    let nowhere : 0 + blanks row.text ≡ 0 = omega (arith, none) in
    or_left (length row.text == 0) (begins_with 35 row.text)
    (sym (ap (λ n. length (drop n row.text) == 0) nowhere)
    ∙ (and_parts (length (behind 0 row).text == 0) row.whole bare).0)

pub bare_done : (n : ℕ) (row : Row) → is_bare (behind n row) ≡ true
    → is_done (behind n row) ≡ true
unfolding behind
bare_done n row bare =
    begun_done (behind n row)
    (ap blanks (sym (drop-drop (blanks (drop n row.text)) n row.text))
    ∙ blanks_past (drop n row.text)) bare

-- ---- rows

clean_front : (line : List ℕ) → is_line (take (position_or_len is_control line) line) ≡ true
clean_front [] = refl
clean_front (c ∷ cs) =
    elim (cases_Bool (is_control c)) [
      | inl is ↦ rw is refl
      | inr isnt ↦
          let more : 1 + position_or_len is_control cs ≡ suc (position_or_len is_control cs) =
          omega arith in
          rw isnt (ap (λ n. is_line (take n (c ∷ cs))) more ∙ rw isnt (clean_front cs))
    ]

clean_behind : (n : ℕ) (text : List ℕ) → is_line text ≡ true → is_line (drop n text) ≡ true
clean_behind zero text clean = clean
clean_behind (suc n) [] clean = refl
clean_behind (suc n) (c ∷ cs) clean =
    clean_behind n cs (and_parts (not (is_control c)) (is_line cs) clean).1

row_clean : (number : ℕ) (line : List ℕ) → is_line (row_at number line).text ≡ true
unfolding row_at
row_clean number line =
    let read : List ℕ = take (position_or_len is_control line) line in
    clean_behind (position_or_len (λ c. not (c == 32)) read) read (clean_front line)

rows_clean : (number : ℕ) (lines : List (List ℕ))
    → list_all (λ row. is_line row.text) (rows_from number lines) ≡ true
rows_clean number [] = refl
rows_clean number (line ∷ []) = and_from _ _ (row_clean number line) refl
rows_clean number (line ∷ (next ∷ lines)) =
    and_from _ _ (row_clean number (without_return line)) (rows_clean (number + 1) (next ∷ lines))

pub rows_are_lines : RowsAreLines
rows_are_lines text = rows_clean 1 (slice_split (λ c. c == 10) (without_mark text))

-- ---- a text of one line

abbrev pub first_row : List ℕ → Row
first_row text = record { number = 1; column = 1; text = text; whole = true }

one_line : (text : List ℕ) → is_line text ≡ true → slice_split (λ c. c == 10) text ≡ text ∷ []
one_line [] clean = refl
one_line (c ∷ cs) clean =
    let parts = and_parts (not (is_control c)) (is_line cs) clean in
    rw (other c parts.0) (ap (onto_first c) (one_line cs parts.1))
  where
    other : (c : ℕ) → not (is_control c) ≡ true → (c == 10) ≡ false
    other c is = grind (arith, nat_tests)

all_read : (text : List ℕ) → is_line text ≡ true → position_or_len is_control text ≡ length text
all_read [] clean = refl
all_read (c ∷ cs) clean =
    let parts = and_parts (not (is_control c)) (is_line cs) clean in
    let here = parts.0 in
    rw here (let e = all_read cs parts.1 in omega (arith, e))

pub row_is : (c : ℕ) (cs : List ℕ) → (c == 0xfeff) ≡ false → (c == 32) ≡ false
    → is_line (c ∷ cs) ≡ true → rows_of (c ∷ cs) ≡ first_row (c ∷ cs) ∷ []
unfolding row_at
row_is c cs no_mark no_space clean =
    let text : List ℕ = c ∷ cs in
    let end : position_or_len is_control text ≡ length text = all_read text clean in
    let row : row_at 1 text ≡ indented 1 text true =
    ap (λ k. indented 1 (take k text) (k == length text)) end
    ∙ ap (λ xs. indented 1 xs (length text == length text))
    (take_all (length text) text (omega arith))
    ∙ ap (indented 1 text) (eq-eqb (length text) (length text) refl)
    in
    let front : indented 1 text true ≡ first_row text = rw no_space refl in
    rw no_mark (ap (rows_from 1) (one_line text clean) ∙ ap (λ r. r ∷ []) (row ∙ front))

-- a row that is read alone
pub alone : (file : FileKey) (row : Row) (made : Node) → is_empty row ≡ false
    → begins_with 9 row.text ≡ false → begins_with 37 row.text ≡ false → is_marker row ≡ false
    → nat_lt 0 row.column ≡ true → begun file 64 (inner file 64) 0 row (row ∷ []) ≡ Ok (made, [])
    → document file (row ∷ []) ≡ Ok made
unfolding document lead content node
alone file row made full no_tab no_directive no_marker column is =
    let no_start : is_start row ≡ false =
    and_left (is_word (codes "---") row) (is_empty (behind 3 row))
    (or_parts (is_word (codes "---") row) (is_word (codes "...") row) no_marker).0 in
    let stood : stands row ≡ Ok tt = rw (no_tab, no_marker) refl in
    let begun : begins row ≡ Ok tt =
    rw (and_right (row.column == 1) (begins_with 37 row.text) no_directive) stood in
    let led : lead (row ∷ []) ≡ Ok (row ∷ []) =
    ap (λ b. cond b (line_end row >>= λ _. lead []) (begins row >>= λ _. Ok (row ∷ [])))
    (or_from (is_empty row) (is_start row) full no_start)
    ∙ ap (λ r. r >>= λ _. Ok (row ∷ [])) begun
    in
    let held : content (row ∷ []) ≡ Ok (row ∷ []) =
    ap (λ b. cond b (line_end row >>= λ _. content []) (stands row >>= λ _. Ok (row ∷ []))) full
    ∙ ap (λ r. r >>= λ _. Ok (row ∷ [])) stood
    in
    let read : node file 64 whole_text (row ∷ []) ≡ Ok (made, []) =
    ap (λ r. r >>= node_in file 64 (inner file 64) whole_text) held ∙ rw column is
    in
    ap (λ r. r >>= λ left. node file 64 whole_text left >>= λ read. content read.1
    >>= λ rest. nothing_left rest >>= λ _. Ok read.0) led
    ∙ ap (λ r. r >>= λ read. content read.1 >>= λ rest. nothing_left rest >>= λ _. Ok read.0) read
