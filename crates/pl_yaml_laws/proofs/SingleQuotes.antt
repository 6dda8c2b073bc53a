-- Scalars in single quotes.
use Rattle.std.proofs.Common.{◌≡◌, ℕ, zero, suc, ◌+◌, ◌<◌, ◌≤◌, true, false, not, cond, Some, Ok}
use Rattle.std.proofs.Common.{List, [], ◌∷◌, ◌++◌, length, drop, refl, ap, sym, subst, ◌∙◌}
use Rattle.std.proofs.Common.{append_assoc, arith, inl, inr}
use Rattle.std.specs.Prelude.{◌==◌, flat_map, encode_utf8_all}
use Rattle.std.specs.Char.{encode_utf8}
use Rattle.std.proofs.lemmas.Bool.{cases_Bool, eqb-true, and_parts, and_from}
use Rattle.std.proofs.lemmas.Bool.Decides.{nat_tests}
use Rattle.std.proofs.lemmas.List.{append-nil, length-append, drop-drop, drop_at}
use Rattle.std.proofs.lemmas.List.Folds.{list_all-append}
use Rattle.pl_base.specs.declared.place.FileKey.{FileKey}
use Rattle.pl_base.specs.declared.node.Node.{Node}
use Rattle.pl_base.specs.declared.node.NodeBody.TheVariants.{Scalar}
use Rattle.pl_line.specs.Rows.{Row, is_control}
use Rattle.pl_reading.specs.Bytes.{is_blank, begins_with}
use Rattle.pl_line.specs.Left.{behind}
use Rattle.pl_reading.specs.Steps.{◌>>=◌}
use Rattle.pl_line.specs.Trees.{node_at}
use Rattle.pl_line.specs.Quoted.{single, spelled, piece, next_piece, pieces_of, quoted}
use Rattle.pl_line.proofs.Laws.Left.{empty_at}
use Rattle.pl_yaml.specs.Heads.{head_at}
use Rattle.pl_yaml.specs.Inline.{inline, inline_by, with_left, quoted_node}
use Rattle.pl_yaml.specs.Keys.{colon_at, is_colon, quoted_key, key_by}
use Rattle.pl_yaml.specs.Nodes.{begun, begun_quoted, inner, mapping}
use Rattle.pl_yaml.specs.Spells.{document, placed}
use Rattle.pl_yaml_laws.specs.Lines.{is_line, is_comment_or_blank, is_end}
use Rattle.pl_yaml_laws.specs.SingleQuotes.{doubled, single_quoted, QuotedReadsAsItsText}
use Rattle.pl_yaml_laws.specs.SingleQuotes.{QuotedValueIsItsText, QuotedKeyIsItsText}
use Rattle.pl_yaml_laws.specs.SingleQuotes.{QuotedTextIsItsText}
use Rattle.pl_yaml_laws.proofs.Lines.{blanks, behind_text, no_colon, is_over, first_row, row_is}
use Rattle.pl_yaml_laws.proofs.Lines.{alone}
use Rattle.pl_yaml_laws.proofs.Texts.{spelled_is}

-- a character is one piece
single_doubled : (c : ℕ) (rest : List ℕ)
    → single (doubled c ++ rest) ≡ spelled (length (doubled c)) (Some c)
unfolding single
single_doubled c rest =
    elim (cases_Bool (c == 39)) [
      | inl is ↦
          subst (λ d. single (doubled d ++ rest) ≡ spelled (length (doubled d)) (Some d))
          (sym (eqb-true c 39 is)) refl
      | inr isnt ↦ rw isnt (rw isnt refl)
    ]

-- piece by piece, from any place of the line on
pieces_read : (style : _) → ((cs : List ℕ) → piece style cs ≡ single cs)
    → (row : Row) (text rest before : List ℕ) (turns at : ℕ) → begins_with 39 rest ≡ false
    → drop at row.text ≡ flat_map doubled text ++ 39 ∷ rest → length text < turns
    → pieces_of style row turns before at
    ≡ Ok (before ++ encode_utf8_all text, at + (length (flat_map doubled text) + 1))
unfolding pieces_of single
pieces_read style same row text rest before zero at other left enough =
    absurd (omega (arith, enough))
pieces_read style same row [] rest before (suc turns) at other left enough =
    let last : single (39 ∷ rest) ≡ single (39 ∷ []) = rw other refl in
    ap (next_piece (pieces_of style row turns) row before at)
    (ap (piece style) left ∙ same (39 ∷ rest) ∙ last)
    ∙ ap (λ text. Ok (text, at + 1)) (sym (append-nil before))
pieces_read style same row (c ∷ cs) rest before (suc turns) at other left enough =
    let behind : List ℕ = flat_map doubled cs ++ 39 ∷ rest in
    let split : drop at row.text ≡ doubled c ++ behind = left
    ∙ append_assoc (doubled c) (flat_map doubled cs) (39 ∷ rest) in
    let first : piece style (drop at row.text) ≡ spelled (length (doubled c)) (Some c) =
    ap (piece style) split ∙ same (doubled c ++ behind) ∙ single_doubled c behind in
    let beyond : drop (at + length (doubled c)) row.text ≡ behind =
    sym (drop-drop (length (doubled c)) at row.text)
    ∙ (ap (drop (length (doubled c))) split
    ∙ drop_at (doubled c) behind (length (doubled c)) refl) in
    let taken : at + length (doubled c) + (length (flat_map doubled cs) + 1)
    ≡ at + (length (doubled c ++ flat_map doubled cs) + 1) =
    omega (arith, length-append (doubled c) (flat_map doubled cs)) in
    ap (next_piece (pieces_of style row turns) row before at) first
    ∙ (pieces_read style same row cs rest (before ++ encode_utf8 c) turns
    (at + length (doubled c)) other beyond (omega (arith, enough))
    ∙ (ap (λ text. Ok (text, at + length (doubled c) + (length (flat_map doubled cs) + 1)))
    (append_assoc before (encode_utf8 c) (encode_utf8_all cs))
    ∙ ap (λ n. Ok (before ++ encode_utf8_all (c ∷ cs), n)) taken))

-- each character takes one at least
as_many : (text : List ℕ) → length text ≤ length (flat_map doubled text)
as_many [] = omega arith
as_many (c ∷ cs) =
    omega (arith, length-append (doubled c) (flat_map doubled cs), some c, as_many cs)
  where
    some : (c : ℕ) → 1 ≤ length (doubled c)
    some c =
        elim (c == 39) as
        (λ b. 1 ≤ length (cond b (39 ∷ 39 ∷ []) (c ∷ []))) [
          | true ↦ omega arith
          | false ↦
              omega arith
        ]

pub quoted_reads : QuotedReadsAsItsText
unfolding quoted
quoted_reads row text rest is other =
    let inside : List ℕ = flat_map doubled text in
    let behind : row.text ≡ 39 ∷ (inside ++ 39 ∷ rest) = is
    ∙ ap (λ xs. 39 ∷ xs) (append_assoc inside (39 ∷ []) rest) in
    let quote : begins_with 39 row.text ≡ true = ap (begins_with 39) behind in
    let enough : length text < length row.text =
    omega (arith, as_many text, ap length behind, length-append inside (39 ∷ rest)) in
    let taken : 1 + (length inside + 1) ≡ length (single_quoted text) =
    omega (arith, length-append inside (39 ∷ [])) in
    rw quote (pieces_read _ (λ _. refl) row text rest [] (length row.text) 1 other
    (ap (drop 1) behind) enough ∙ ap (λ n. Ok (encode_utf8_all text, n)) taken)

-- a text in single quotes before what may end its line
begins_so : (text rest : List ℕ)
    → single_quoted text ++ rest ≡ 39 ∷ (flat_map doubled text ++ 39 ∷ rest)
begins_so text rest = ap (λ xs. 39 ∷ xs) (append_assoc (flat_map doubled text) (39 ∷ []) rest)

no_quote : (rest : List ℕ) → is_end rest ≡ true → begins_with 39 rest ≡ false
no_quote [] over = refl
no_quote (c ∷ cs) over = other c (and_parts (is_blank c) (is_comment_or_blank cs) over).0
  where
    other : (c : ℕ) → is_blank c ≡ true → (c == 39) ≡ false
    other c blank = grind (arith, nat_tests)

pub value_is : QuotedValueIsItsText
unfolding inline head_at
value_is file depth parent row rows text rest is whole over =
    ap (λ cs. inline_by file depth parent row (head_at row.whole cs) rows)
    (is ∙ begins_so text rest)
    ∙ ap (λ read. with_left rows (read >>= quoted_node file row))
    (quoted_reads row text rest is (no_quote rest over))
    ∙ ap (λ end. with_left rows
    (end >>= λ _. Ok (node_at file row (Scalar (encode_utf8_all text)))))
    (is_over row (single_quoted text) rest is whole over)

pub key_is : QuotedKeyIsItsText
unfolding head_at behind
key_is file depth row text rest is ends =
    let end : (behind (length (single_quoted text)) row).text ≡ 58 ∷ rest =
    behind_text row (single_quoted text) (58 ∷ rest) is in
    let colon : is_colon (behind (length (single_quoted text)) row) ≡ true =
    ap (colon_at row.whole) end ∙ ends in
    ap (λ cs. key_by file depth row (head_at row.whole cs)) (is ∙ begins_so text (58 ∷ rest))
    ∙ ap (λ read. read >>= quoted_key row) (quoted_reads row text (58 ∷ rest) is refl)
    ∙ rw colon refl

-- as a row alone
row_read : (file : FileKey) (text rest : List ℕ) → is_end rest ≡ true
    → document file (first_row (single_quoted text ++ rest) ∷ [])
    ≡ Ok (node_at file (first_row []) (Scalar (encode_utf8_all text)))
unfolding begun head_at behind
row_read file text rest over =
    let row : Row = first_row (single_quoted text ++ rest) in
    let made : Node = node_at file row (Scalar (encode_utf8_all text)) in
    let reads = quoted_reads row text rest refl (no_quote rest over) in
    let colon : is_colon (behind (length (single_quoted text)) row) ≡ false =
    ap (colon_at true) (behind_text row (single_quoted text) rest refl)
    ∙ no_key (drop (blanks rest) rest) (no_colon rest over)
    in
    let read : begun file 64 (inner file 64) 0 row (row ∷ []) ≡ Ok (made, []) =
    ap (λ read. read >>= begun_quoted file (inner file 64) row (row ∷ [])) reads
    ∙ ap (λ b. cond b (mapping file (inner file 64) row (row ∷ []))
    (with_left []
    (quoted_node file row (encode_utf8_all text, length (single_quoted text))))) colon
    ∙ ap (λ end. with_left [] (end >>= λ _. Ok made))
    (is_over row (single_quoted text) rest refl refl over)
    in
    alone file row made (sym (empty_at row 39 refl refl)) refl refl refl refl read
  where
    no_key : (cs : List ℕ) → begins_with 58 cs ≡ false → colon_at true cs ≡ false
    no_key [] isnt = refl
    no_key (c ∷ cs) isnt = rw isnt refl

doubled_clean : (text : List ℕ) → is_line text ≡ true → is_line (flat_map doubled text) ≡ true
doubled_clean [] clean = refl
doubled_clean (c ∷ cs) clean =
    let parts = and_parts (not (is_control c)) (is_line cs) clean in
    list_all-append (λ c. not (is_control c)) (doubled c) (flat_map doubled cs)
    ∙ and_from _ _ (one c parts.0) (doubled_clean cs parts.1)
  where
    one : (c : ℕ) → not (is_control c) ≡ true → is_line (doubled c) ≡ true
    one c clean =
        elim (c == 39) as
        (λ b. is_line (cond b (39 ∷ 39 ∷ []) (c ∷ [])) ≡ true) [
          | true ↦ refl
          | false ↦
              and_from _ _ clean refl
        ]

pub text_is : QuotedTextIsItsText
text_is file text rest clean after over is =
    let inside : List ℕ = flat_map doubled text in
    let whole : is_line (single_quoted text ++ rest) ≡ true =
    list_all-append (λ c. not (is_control c)) (inside ++ 39 ∷ []) rest
    ∙ and_from _ _
    (list_all-append (λ c. not (is_control c)) inside (39 ∷ [])
    ∙ and_from _ _ (doubled_clean text clean) refl) after
    in
    spelled_is file (single_quoted text ++ rest) is
    ∙ ap (λ rows. placed file (document file rows))
    (row_is 39 (inside ++ 39 ∷ [] ++ rest) refl refl whole)
    ∙ ap (placed file) (row_read file text rest over)
