-- The rows of a printed text.
use Rattle.std.proofs.Common.{◌≡◌, ℕ, zero, suc, ◌+◌, ◌/◌, ◌%◌, ◌≤◌, Bool, true, false, not, ◌&&◌}
use Rattle.std.proofs.Common.{Option, Some, None, List, [], ◌∷◌, ◌++◌, length, drop, take}
use Rattle.std.proofs.Common.{replicate, codes, refl, ap, sym, ◌∙◌, append_assoc, rules, arith}
use Rattle.std.specs.Prelude.{◌==◌, nat_lt, flat_map}
use Rattle.std.specs.List.{list_all, slice_split, onto_first, position_or_len, last_or}
use Rattle.std.specs.List.{AllByRecursion}
use Rattle.std.proofs.lemmas.Bool.{and_parts, and_from, eq-eqb, ne_eqb}
use Rattle.std.proofs.lemmas.Bool.Decides.{nat_tests}
use Rattle.std.proofs.lemmas.List.{append-nil, take_all}
use Rattle.std.proofs.lemmas.List.Folds.{list_all-append}
use Rattle.pl_base.specs.declared.node.Node.{Node}
use Rattle.pl_base.specs.declared.node.NodePair.{NodePair}
use Rattle.pl_base.specs.declared.node.NodeBody.{the_lemmas}
use Rattle.pl_base.specs.declared.node.NodeBody.TheVariants.{Scalar, Seq, Map}
use Rattle.pl_line.specs.Rows.{Row, is_control, indented, row_at, rows_from, without_return}
use Rattle.pl_line.specs.Rows.{without_mark, is_return, rows_of}
use Rattle.pl_printing.specs.Printed.{Line, Written, inline, below, hex_digit, escaped, quoted}
use Rattle.pl_printing.specs.Printed.{lines_of, written, written_body, written_pair, sequence_of}
use Rattle.pl_printing.specs.Printed.{mapping_of, printed, entry, item_entry, pair_entry}
use Rattle.pl_printing.specs.Printed as printing
use Rattle.pl_printing.proofs.Nodes.{node_written, pair_written, sequence_written, mapping_written}
use Rattle.pl_printing.proofs.Nodes.{item_lines, sequence_lines, mapping_lines}
use Rattle.pl_round_trip.proofs.Quotes.{by_escape}
use Rattle.pl_round_trip.proofs.RowsTrees.{node_induction}

-- ---- characters that no line of a printed text lacks

-- no control character
abbrev pub is_clean : List ℕ → Bool
is_clean = list_all (λ c. not (nat_lt c 32))

clean_parts : (c : ℕ) (cs : List ℕ) → is_clean (c ∷ cs) ≡ true → (32 ≤ c) × (is_clean cs ≡ true)
clean_parts c cs clean = let parts = and_parts (not (nat_lt c 32)) (is_clean cs) clean in
    (high c parts.0, parts.1)
  where
    high : (c : ℕ) → not (nat_lt c 32) ≡ true → 32 ≤ c
    high c e = grind (arith, nat_tests)

pub clean_more : (c : ℕ) (cs : List ℕ) → 32 ≤ c → is_clean cs ≡ true → is_clean (c ∷ cs) ≡ true
clean_more c cs high clean = let here : not (nat_lt c 32) ≡ true = grind (arith, nat_tests) in
    and_from _ _ here clean

pub clean_append :
    (xs ys : List ℕ) → is_clean xs ≡ true → is_clean ys ≡ true → is_clean (xs ++ ys) ≡ true
clean_append xs ys first second = list_all-append _ xs ys ∙ and_from _ _ first second

digit_high : (n : ℕ) → 32 ≤ hex_digit n
digit_high n = grind (arith, nat_tests)

escaped_is_clean : (c : ℕ) → is_clean (escaped c) ≡ true
escaped_is_clean c =
    by_escape (λ c cs. is_clean cs ≡ true) refl refl refl refl refl
    (λ c small. clean_more (hex_digit (c / 16)) (hex_digit (c % 16) ∷ []) (digit_high (c / 16))
    (clean_more (hex_digit (c % 16)) [] (digit_high (c % 16)) refl))
    (λ c printable no_quote no_backslash. clean_more c [] printable refl)
    c

escapes_are_clean : (cs : List ℕ) → is_clean (flat_map escaped cs) ≡ true
escapes_are_clean [] = refl
escapes_are_clean (c ∷ cs) = clean_append (escaped c) (flat_map escaped cs) (escaped_is_clean c)
    (escapes_are_clean cs)

pub quoted_is_clean : (cs : List ℕ) → is_clean (quoted cs) ≡ true
quoted_is_clean cs = clean_append (flat_map escaped cs) (34 ∷ []) (escapes_are_clean cs) refl

-- ---- the row of a line

clean_is_read : (cs : List ℕ) → is_clean cs ≡ true → position_or_len is_control cs ≡ length cs
clean_is_read [] clean = refl
clean_is_read (c ∷ cs) clean =
    let parts = clean_parts c cs clean in
    let here : not (is_control c) ≡ true = test c parts.0 in
    rw here (let e = clean_is_read cs parts.1 in omega (arith, e))
  where
    test : (c : ℕ) → 32 ≤ c → not (is_control c) ≡ true
    test c high = grind (arith, nat_tests)

row_clean : (n : ℕ) (line : List ℕ) → is_clean line ≡ true → row_at n line ≡ indented n line true
unfolding row_at
row_clean n line clean =
    let end : position_or_len is_control line ≡ length line = clean_is_read line clean in
    ap (λ k. indented n (take k line) (k == length line)) end
    ∙ (ap (λ cs. indented n cs (length line == length line))
    (take_all (length line) line (omega arith))
    ∙ ap (indented n line) (eq-eqb (length line) (length line) refl))

-- so many spaces before another character
spaces_before :
    (k c : ℕ) (cs : List ℕ) → (c ≡ 32 → ⊥) →
    position_or_len (λ c. not (c == 32)) (replicate k 32 ++ c ∷ cs) ≡ k
spaces_before zero c cs other = rw (ne_eqb c 32 other) refl
spaces_before (suc k) c cs other = let e = spaces_before k c cs other in omega (arith, e)

behind_spaces : (k : ℕ) (cs : List ℕ) → drop k (replicate k 32 ++ cs) ≡ cs
behind_spaces zero cs = refl
behind_spaces (suc k) cs = behind_spaces k cs

spaces_are_clean :
    (k : ℕ) (cs : List ℕ) → is_clean cs ≡ true → is_clean (replicate k 32 ++ cs) ≡ true
spaces_are_clean zero cs clean = clean
spaces_are_clean (suc k) cs clean = spaces_are_clean k cs clean

pub row_of_line : (n k : ℕ) (c : ℕ) (cs : List ℕ) → (c ≡ 32 → ⊥) → is_clean (c ∷ cs) ≡ true
    → row_at n (replicate k 32 ++ c ∷ cs) ≡ record {
      number = n;
      column = k + 1;
      text = c ∷
          cs;
      whole = true;
    }
row_of_line n k c cs other clean =
    row_clean n (replicate k 32 ++ c ∷ cs) (spaces_are_clean k (c ∷ cs) clean)
    ∙ (ap (λ (j : ℕ). record {
      number = n;
      column = j + 1;
      text = drop j (replicate k 32 ++ c ∷ cs);
      whole = true;
    }) (spaces_before k c cs other)
    ∙ ap (λ (text : List ℕ). record { number = n; column = k + 1; text = text; whole = true })
    (behind_spaces k (c ∷ cs)))

two_more : (n : ℕ) → 1 + (1 + n) ≡ suc (suc n)
two_more n = omega arith

-- behind two spaces
indented_more : (n : ℕ) (text : List ℕ) (whole : Bool)
    → indented n (32 ∷ 32 ∷ text) whole ≡
    record {
      number = n;
      column = (indented n text whole).column + 2;
      text =
          (indented n text whole).text;
      whole = whole;
    }
indented_more n text whole =
    let j : ℕ = position_or_len (λ c. not (c == 32)) text in
    let behind : drop (1 + (1 + j)) (32 ∷ 32 ∷ text) ≡ drop j text =
    ap (λ k. drop k (32 ∷ 32 ∷ text)) (two_more j) in
    let column : 1 + (1 + j) + 1 ≡ j + 1 + 2 = omega arith in
    ap (λ (cs : List ℕ). record { number = n; column = 1 + (1 + j) + 1; text = cs; whole = whole })
    behind
    ∙ ap (λ (k : ℕ). record { number = n; column = k; text = drop j text; whole = whole }) column

pub row_indented : (n : ℕ) (line : List ℕ)
    → row_at n (32 ∷ 32 ∷ line) ≡ record {
      number = n;
      column = (row_at n line).column + 2;
      text =
          (row_at n line).text;
      whole = (row_at n line).whole;
    }
unfolding row_at
row_indented n line =
    let k : ℕ = position_or_len is_control line in
    ap (λ m. indented n (take m (32 ∷ 32 ∷ line)) (m == suc (suc (length line)))) (two_more k)
    ∙ (ap (indented n (32 ∷ 32 ∷ take k line)) (same k (length line)) ∙
    indented_more n (take k line) (k == length line))
  where
    same : (k m : ℕ) → (suc (suc k) == suc (suc m)) ≡ (k == m)
    same k m = grind (arith, nat_tests)

-- ---- the lines of a printed text

-- it has a character, the first is one of ASCII, and none is a control character
abbrev pub stands : Line → Bool
stands [] = false
stands (c ∷ cs) = nat_lt c 128 && is_clean (c ∷ cs)

abbrev pub all_stand : List Line → Bool
all_stand = list_all stands

stands_clean : (line : Line) → stands line ≡ true → is_clean line ≡ true
stands_clean [] ok = refl
stands_clean (c ∷ cs) ok = (and_parts (nat_lt c 128) (is_clean (c ∷ cs)) ok).1

-- a line that begins with a character of these
stands_from :
    (c : ℕ) (cs : List ℕ) → nat_lt c 128 ≡ true → is_clean (c ∷ cs) ≡ true → stands (c ∷ cs) ≡ true
stands_from c cs small clean = and_from (nat_lt c 128) (is_clean (c ∷ cs)) small clean

quoted_stands : (cs rest : List ℕ) → is_clean rest ≡ true → stands (quoted cs ++ rest) ≡ true
quoted_stands cs rest clean = clean_append (flat_map escaped cs ++ 34 ∷ []) rest
    (quoted_is_clean cs) clean

indented_stand :
    (lines : List Line) → all_stand lines ≡ true → all_stand (printing.indented lines) ≡ true
indented_stand [] all = refl
indented_stand (line ∷ lines) all =
    let parts = and_parts (stands line) (all_stand lines) all in
    and_from (is_clean line) (all_stand (printing.indented lines)) (stands_clean line parts.0)
    (indented_stand lines parts.1)

-- an entry, whose mark stands with anything behind it
entry_stands :
    (mark : Line) → ((rest : Line) → is_clean rest ≡ true → stands (mark ++ rest) ≡ true) →
    (node : Written)
    → all_stand (lines_of node) ≡ true → all_stand (entry mark node) ≡ true
entry_stands mark begins (inline text) all =
    let parts = and_parts (stands text) true all in
    and_from (stands (mark ++ 32 ∷ text)) true (begins (32 ∷ text) (stands_clean text parts.0)) refl
entry_stands mark begins (below lines) all =
    and_from (stands mark) (all_stand (printing.indented lines))
    (ap stands (sym (append-nil mark)) ∙ begins [] refl) (indented_stand lines all)

item_stands :
    (node : Written) → all_stand (lines_of node) ≡ true → all_stand (item_entry node) ≡ true
item_stands = entry_stands (codes "-") (λ rest clean. clean)

pair_stands :
    (key : List ℕ) (node : Written) → all_stand (lines_of node) ≡ true →
    all_stand (pair_entry key node) ≡ true
pair_stands key =
    entry_stands (quoted key ++ codes ":")
    (λ rest clean. ap stands (append_assoc (quoted key) (codes ":") rest) ∙
    quoted_stands key (58 ∷ rest) clean)

flat_stand :
    {X : Type 0} (lines : X → List Line) (xs : List X) →
    AllByRecursion (λ x. all_stand (lines x) ≡ true) xs → all_stand (flat_map lines xs) ≡ true
flat_stand lines [] all = refl
flat_stand lines (x ∷ xs) all =
    list_all-append stands (lines x) (flat_map lines xs) ∙ and_from (all_stand (lines x))
    (all_stand (flat_map lines xs)) all.0 (flat_stand lines xs all.1)

all_so :
    {X : Type 0} (P Q : X → Type 0) → ((x : X) → P x → Q x) → (xs : List X) → AllByRecursion P xs →
    AllByRecursion Q xs
all_so P Q step [] all = tt
all_so P Q step (x ∷ xs) all = (step x all.0, all_so P Q step xs all.1)

scalar_written : (text : List ℕ) → written_body (Scalar text) ≡ inline (quoted text)
scalar_written text = search (rules, the_lemmas)

scalar_stands : (text : List ℕ) → all_stand (lines_of (written_body (Scalar text))) ≡ true
scalar_stands text =
    ap (λ w. all_stand (lines_of w)) (scalar_written text)
    ∙ and_from (stands (quoted text)) true (quoted_is_clean text) refl

sequence_stands :
    (items : List Node) →
    AllByRecursion (λ item. all_stand (lines_of (written item)) ≡ true) items →
    all_stand (lines_of (written_body (Seq items))) ≡ true
sequence_stands [] all = ap (λ w. all_stand (lines_of w)) (sequence_written [])
sequence_stands (item ∷ items) all =
    ap (λ w. all_stand (lines_of w)) (sequence_written (item ∷ items))
    ∙ (ap all_stand (sequence_lines (item ∷ items) (λ none. omega (arith, ap length none)))
    ∙ flat_stand item_lines (item ∷ items) (all_so _ _ (λ node. item_stands (written node))
    (item ∷ items) all))

mapping_stands :
    (pairs : List NodePair) → AllByRecursion (λ pair. all_stand (written_pair pair) ≡ true) pairs →
    all_stand (lines_of (written_body (Map pairs))) ≡ true
mapping_stands [] all = ap (λ w. all_stand (lines_of w)) (mapping_written [])
mapping_stands (pair ∷ pairs) all =
    ap (λ w. all_stand (lines_of w)) (mapping_written (pair ∷ pairs))
    ∙ (ap all_stand (mapping_lines (pair ∷ pairs) (λ none. omega (arith, ap length none)))
    ∙ flat_stand written_pair (pair ∷ pairs) all)

pub written_stands : (node : Node) → all_stand (lines_of (written node)) ≡ true
written_stands =
    node_induction
    (λ body. all_stand (lines_of (written_body body)) ≡ true)
    (λ node. all_stand (lines_of (written node)) ≡ true)
    (λ pair. all_stand (written_pair pair) ≡ true)
    scalar_stands
    sequence_stands
    mapping_stands
    (λ place body all. ap (λ w. all_stand (lines_of w))
    (node_written (record { place = place; body = body })) ∙ all)
    (λ key key_place item all.
    ap all_stand (pair_written (record { key = key; key_place = key_place; item = item })) ∙
    pair_stands key (written item) all)

-- ---- its rows

-- lines one after the other, and behind the last line feed an empty line
abbrev pub rows_behind : ℕ → List (List ℕ) → List Row
rows_behind n [] = row_at n [] ∷ []
rows_behind n (line ∷ lines) = row_at n line ∷ rows_behind (n + 1) lines

-- a line's line feed
cut_line :
    (line rest : List ℕ) → is_clean line ≡ true →
    slice_split (λ c. c == 10) (line ++ 10 ∷ rest) ≡ line ∷ slice_split (λ c. c == 10) rest
cut_line [] rest clean = refl
cut_line (c ∷ cs) rest clean =
    let parts = clean_parts c cs clean in
    let other : (c == 10) ≡ false = grind (arith, nat_tests) in
    rw other (ap (onto_first c) (cut_line cs rest parts.1))

cut_lines : (lines : List Line) → all_stand lines ≡ true
    → slice_split (λ c. c == 10) (flat_map (λ line. line ++ 10 ∷ []) lines) ≡ lines ++ [] ∷ []
cut_lines [] all = refl
cut_lines (line ∷ lines) all =
    let parts = and_parts (stands line) (all_stand lines) all in
    let rest : List ℕ = flat_map (λ line. line ++ 10 ∷ []) lines in
    ap (slice_split (λ c. c == 10)) (append_assoc line (10 ∷ []) rest)
    ∙ (cut_line line rest (stands_clean line parts.0) ∙
    ap (λ more. line ∷ more) (cut_lines lines parts.1))

no_return :
    (last : Option ℕ) (cs : List ℕ) → is_return last ≡ false → is_clean cs ≡ true →
    is_return (last_or last cs) ≡ false
no_return last [] isnt clean = isnt
no_return last (c ∷ cs) isnt clean =
    let parts = clean_parts c cs clean in
    no_return (Some c) cs (other c parts.0) parts.1
  where
    other : (c : ℕ) → 32 ≤ c → (c == 13) ≡ false
    other c high = grind (arith, nat_tests)

whole_line : (line : List ℕ) → is_clean line ≡ true → without_return line ≡ line
whole_line line clean = rw (no_return None line refl clean) refl

lines_are_rows :
    (n : ℕ) (lines : List Line) → all_stand lines ≡ true →
    rows_from n (lines ++ [] ∷ []) ≡ rows_behind n lines
lines_are_rows n [] all = refl
lines_are_rows n (line ∷ []) all =
    let parts = and_parts (stands line) true all in
    ap (λ l. row_at n l ∷ row_at (n + 1) [] ∷ []) (whole_line line (stands_clean line parts.0))
lines_are_rows n (line ∷ (next ∷ lines)) all =
    let parts = and_parts (stands line) (all_stand (next ∷ lines)) all in
    ap (λ l. row_at n l ∷ rows_from (n + 1) (next ∷ lines ++ [] ∷ []))
    (whole_line line (stands_clean line parts.0))
    ∙ ap (λ rows. row_at n line ∷ rows) (lines_are_rows (n + 1) (next ∷ lines) parts.1)

-- no byte order mark stands before them
no_mark : (lines : List Line) → all_stand lines ≡ true
    → without_mark (flat_map (λ line. line ++ 10 ∷ []) lines) ≡ flat_map (λ line. line ++ 10 ∷ [])
    lines
no_mark [] all = refl
no_mark ([] ∷ lines) all = refl
no_mark ((c ∷ cs) ∷ lines) all =
    let parts = and_parts (stands (c ∷ cs)) (all_stand lines) all in
    let small = and_parts (nat_lt c 128) (is_clean (c ∷ cs)) parts.0 in
    let other : (c == 0xfeff) ≡ false = test c small.0 in
    rw other refl
  where
    test : (c : ℕ) → nat_lt c 128 ≡ true → (c == 0xfeff) ≡ false
    test c small = grind (arith, nat_tests)

pub rows_of_printed :
    (tree : Node) → rows_of (printed tree) ≡ rows_behind 1 (lines_of (written tree))
rows_of_printed tree =
    let lines : List Line = lines_of (written tree) in
    let all : all_stand lines ≡ true = written_stands tree in
    ap (λ cs. rows_from 1 (slice_split (λ c. c == 10) cs)) (no_mark lines all)
    ∙ (ap (rows_from 1) (cut_lines lines all) ∙ lines_are_rows 1 lines all)
