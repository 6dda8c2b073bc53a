-- Plain scalars on one line.
use Rattle.std.proofs.Common.{◌≡◌, ℕ, suc, ◌+◌, Bool, true, false, not, ◌&&◌, ◌||◌, cond, ◌⊎◌, Ok}
use Rattle.std.proofs.Common.{List, [], ◌∷◌, ◌++◌, length, take, drop, refl, ap, sym, subst, ◌∙◌}
use Rattle.std.proofs.Common.{arith, inl, inr}
use Rattle.std.specs.Prelude.{◌==◌, encode_utf8_all}
use Rattle.std.proofs.lemmas.Bool.{cases_Bool, eqb-true, both_ways, and_parts, and_from, and_right}
use Rattle.std.proofs.lemmas.Bool.{or_parts, or_cases, not-true}
use Rattle.std.proofs.lemmas.Bool.Decides.{nat_tests}
use Rattle.std.proofs.lemmas.List.{append-nil, drop-drop, drop_at, take_at}
use Rattle.std.proofs.lemmas.List.Folds.{list_all-append}
use Rattle.pl_base.specs.declared.place.FileKey.{FileKey}
use Rattle.pl_base.specs.declared.node.Node.{Node}
use Rattle.pl_base.specs.declared.node.NodeBody.TheVariants.{Scalar}
use Rattle.pl_line.specs.Rows.{Row, is_control}
use Rattle.pl_reading.specs.Bytes.{is_blank, begins_with}
use Rattle.pl_line.specs.Left.{behind}
use Rattle.pl_reading.specs.Steps.{◌>>=◌}
use Rattle.pl_line.specs.Scanning.{ends_word, plain_len, content_len}
use Rattle.pl_line.specs.Trees.{node_at}
use Rattle.pl_line.proofs.Laws.Left.{empty_at}
use Rattle.pl_yaml.specs.Heads.{is_marker, head_at, head_from, plain_head}
use Rattle.pl_yaml.specs.Inline.{inline, inline_by}
use Rattle.pl_yaml.specs.Keys.{key_by}
use Rattle.pl_yaml.specs.Nodes.{holder, begun, begun_by, inner}
use Rattle.pl_yaml.specs.Plain.{part, further, behind_line, word}
use Rattle.pl_yaml.specs.Spells.{document, placed}
use Rattle.pl_yaml_laws.specs.Lines.{is_line, is_comment_or_blank, is_end}
use Rattle.pl_yaml_laws.specs.PlainTexts.{is_visible, is_indicator, begins_visible, may_begin}
use Rattle.pl_yaml_laws.specs.PlainTexts.{may_stand, may_follow, is_plain, PlainValueIsItself}
use Rattle.pl_yaml_laws.specs.PlainTexts.{PlainKeyIsItself, PlainTextIsItself}
use Rattle.pl_yaml_laws.proofs.Lines.{blanks, no_colon, first_row, row_is, alone}
use Rattle.pl_yaml_laws.proofs.Texts.{spelled_is}

-- ---- how far a plain text goes

visible_is : (c : ℕ) → is_visible c ≡ true → (is_blank c ≡ false) × (is_control c ≡ false)
    × ((c == 0xfeff) ≡ false)
visible_is c is =
    let parts = or_parts (is_blank c || is_control c) (c == 0xfeff) (not-true _ is) in
    let more = or_parts (is_blank c) (is_control c) parts.0 in
    (more.0, more.1, parts.1)

mark_no_blank : (c : ℕ) → (c == 35) ≡ true → is_blank c ≡ false
mark_no_blank c mark = grind (arith, nat_tests)

mark_no_colon : (c : ℕ) → (c == 35) ≡ true → (c == 58) ≡ false
mark_no_colon c mark = grind (arith, nat_tests)

colon_no_blank : (c : ℕ) → (c == 58) ≡ true → is_blank c ≡ false
colon_no_blank c colon = grind (arith, nat_tests)

-- no blank or line's end stands before a visible character
goes_on : (cs rest : List ℕ) → begins_visible cs ≡ true → ends_word true (cs ++ rest) ≡ false
goes_on [] rest is = absurd (both_ways false refl is)
goes_on (c ∷ cs) rest is = (visible_is c is).0

-- a character of it neither ends it nor begins a comment
stays : (blank : Bool) (c : ℕ) (cs rest : List ℕ) → (is_blank c || may_stand blank c cs) ≡ true
    → (c == 58 && ends_word true (cs ++ rest) || c == 35 && blank) ≡ false
stays blank c cs rest is =
    elim (cases_Bool (c == 35)) [
      | inl mark ↦
          rw (
            mark_no_colon c mark,
            mark,
            not-true blank (rw (mark_no_blank c mark, mark) at is),
          ) refl
      | inr no_mark ↦ elim (cases_Bool (c == 58)) [
        | inl colon ↦
            rw (
              no_mark,
              colon,
              goes_on cs rest (rw (colon_no_blank c colon, no_mark, colon) at is),
            ) refl
        | inr no_colon ↦ rw (no_mark, no_colon) refl
      ]
    ]

blank_other : (c : ℕ) → is_blank c ≡ true → ((c == 58) ≡ false) × ((c == 35) ≡ false)
blank_other c blank = (colon c blank, mark c blank)
  where
    colon : (c : ℕ) → is_blank c ≡ true → (c == 58) ≡ false
    colon c blank = grind (arith, nat_tests)

    mark : (c : ℕ) → is_blank c ≡ true → (c == 35) ≡ false
    mark c blank = grind (arith, nat_tests)

-- behind it, blanks belong to it at first
after_blank : (rest : List ℕ) → is_comment_or_blank rest ≡ true
    → plain_len true true rest ≡ blanks rest
after_blank [] over = refl
after_blank (c ∷ cs) over =
    elim (cases_Bool (is_blank c)) [
      | inl blank ↦
          let other = blank_other c blank in
          let colon = other.0 in
          let mark = other.1 in
          rw (colon, mark, blank) (ap (λ n. 1 + n) (after_blank cs (rw (mark, blank) at over)))
      | inr isnt ↦
          let mark : (c == 35) ≡ true = only (c == 35) (rw isnt at over) in
          rw (mark_no_colon c mark, mark, isnt) refl
    ]
  where
    only : (b : Bool) → (b || false) ≡ true → b ≡ true
    only true is = refl
    only false is = is

after_it : (rest : List ℕ) → is_end rest ≡ true → plain_len true false rest ≡ blanks rest
after_it [] over = refl
after_it (c ∷ cs) over =
    let parts = and_parts (is_blank c) (is_comment_or_blank cs) over in
    let other = blank_other c parts.0 in
    let colon = other.0 in
    let mark = other.1 in
    let blank = parts.0 in
    rw (colon, mark, blank) (ap (λ n. 1 + n) (after_blank cs parts.1))

plain_len_is : (blank : Bool) (text rest : List ℕ) → may_follow blank text ≡ true
    → is_end rest ≡ true → plain_len true blank (text ++ rest) ≡ length text + blanks rest
plain_len_is blank [] rest may over =
    let e = ap (λ b. plain_len true b rest) (not-true blank may) ∙ after_it rest over in
    omega (arith, e)
plain_len_is blank (c ∷ cs) rest may over =
    let parts = and_parts _ (may_follow (is_blank c) cs) may in
    let e = plain_len_is (is_blank c) cs rest parts.1 over in
    rw (stays blank c cs rest parts.0) (omega (arith, e))

-- of which the blanks are left out again
blanks_void : (rest : List ℕ) → content_len (take (blanks rest) rest) ≡ 0
blanks_void [] = refl
blanks_void (c ∷ cs) =
    elim (cases_Bool (is_blank c)) [
      | inl blank ↦
          let more : 1 + blanks cs ≡ suc (blanks cs) = omega arith in
          rw blank (ap (λ n. content_len (take n (c ∷ cs))) more ∙ rw (blank, blanks_void cs) refl)
      | inr isnt ↦ rw isnt refl
    ]

content_is : (blank : Bool) (text rest : List ℕ) → may_follow blank text ≡ true
    → content_len (text ++ take (blanks rest) rest) ≡ length text
content_is blank [] rest may = blanks_void rest
content_is blank (c ∷ cs) rest may =
    let parts = and_parts _ (may_follow (is_blank c) cs) may in
    let more = content_is (is_blank c) cs rest parts.1 in
    elim (cases_Bool (is_blank c)) [
      | inl is ↦ rw (is, more, some cs (ap (λ b. may_follow b cs) (sym is) ∙ parts.1)) (omega arith)
      | inr isnt ↦ rw isnt (omega (arith, more))
    ]
  where
    full : (n : ℕ) → (suc n == 0) ≡ false
    full n = grind (arith, nat_tests)

    some : (cs : List ℕ) → may_follow true cs ≡ true → (length cs == 0) ≡ false
    some [] may = absurd (both_ways false refl may)
    some (c ∷ cs) may = full (length cs)

taken : (front rest : List ℕ) (k : ℕ)
    → take (length front + k) (front ++ rest) ≡ front ++ take k rest
taken [] rest k = let e : 0 + k ≡ k = omega arith in ap (λ n. take n rest) e
taken (c ∷ cs) rest k =
    let e : length (c ∷ cs) + k ≡ suc (length cs + k) = omega arith in
    ap (λ n. take n (c ∷ (cs ++ rest))) e ∙ ap (λ xs. c ∷ xs) (taken cs rest k)

-- ---- a plain text is a word

-- it begins with no indicator, or with one before a visible character
begins : (c : ℕ) (cs : List ℕ) → may_begin c cs ≡ true → (is_indicator c ≡ false)
    ⊎ (((c == 45 || c == 63 || c == 58) ≡ true) × (begins_visible cs ≡ true))
begins c cs may =
    let parts = and_parts (is_visible c) _ may in
    elim (or_cases (not (is_indicator c)) _ parts.1) [
      | inl none ↦
          inl (not-true (is_indicator c) none)
      | inr both ↦
          inr (and_parts _ (begins_visible cs) both)
    ]

head_by_none : (c : ℕ) (more : List ℕ) → is_indicator c ≡ false
    → head_from true c more ≡ plain_head (c ∷ more) (plain_len true false (c ∷ more))
head_by_none c more none =
    let isnt = another c none in
    rw (
      isnt 45 refl,
      isnt 63 refl,
      isnt 38 refl,
      isnt 42 refl,
      isnt 33 refl,
      isnt 39 refl,
      isnt 34 refl,
      isnt 91 refl,
      isnt 123 refl,
      isnt 124 refl,
      isnt 62 refl,
      isnt 44 refl,
      isnt 93 refl,
      isnt 125 refl,
      isnt 35 refl,
      isnt 37 refl,
      isnt 64 refl,
      isnt 96 refl,
      isnt 58 refl,
    ) refl
  where
    another : (c : ℕ) → is_indicator c ≡ false → (d : ℕ) → is_indicator d ≡ true → (c == d) ≡ false
    another c none d indicator =
        elim (cases_Bool (c == d)) [
          | inl same ↦
              absurd (both_ways (is_indicator d)
              (ap is_indicator (sym (eqb-true c d same)) ∙ none) indicator)
          | inr isnt ↦ isnt
        ]

head_by_mark : (c : ℕ) (more : List ℕ) → (c == 45 || c == 63 || c == 58) ≡ true
    → ends_word true more ≡ false
    → head_from true c more ≡ plain_head (c ∷ more) (plain_len true false (c ∷ more))
head_by_mark c more is goes =
    elim (or_cases (c == 45 || c == 63) (c == 58) is) [
      | inl others ↦ elim (or_cases (c == 45) (c == 63) others) [
        | inl dash ↦ at c more 45 dash (rw goes refl)
        | inr question ↦ at c more 63 question (rw goes refl)
      ]
      | inr colon ↦ at c more 58 colon (rw goes refl)
    ]
  where
    at : (c : ℕ) (more : List ℕ) (d : ℕ) → (c == d) ≡ true
        → head_from true d more ≡ plain_head (d ∷ more) (plain_len true false (d ∷ more))
        → head_from true c more ≡ plain_head (c ∷ more) (plain_len true false (c ∷ more))
    at c more d same is =
        subst (λ e. head_from true e more ≡ plain_head (e ∷ more) (plain_len true false (e ∷ more)))
        (sym (eqb-true c d same)) is

module _ (c : ℕ) (cs rest : List ℕ) (plain : is_plain (c ∷ cs) ≡ true) where
  parts : (may_begin c cs ≡ true) × (may_follow false cs ≡ true)
  parts = and_parts (may_begin c cs) (may_follow false cs) plain

  first : (is_blank c ≡ false) × (is_control c ≡ false) × ((c == 0xfeff) ≡ false)
  first = visible_is c (and_parts (is_visible c) _ parts.0).0

  -- an indicator but those three isn't the first
  other_first : (d : ℕ) → is_indicator d ≡ true → (d == 45 || d == 63 || d == 58) ≡ false
      → (c == d) ≡ false
  other_first d indicator other =
      elim (cases_Bool (c == d)) [
        | inl same ↦ elim (begins c cs parts.0) [
          | inl none ↦
              absurd (both_ways (is_indicator d)
              (ap is_indicator (sym (eqb-true c d same)) ∙ none) indicator)
          | inr both ↦
              absurd (both_ways (d == 45 || d == 63 || d == 58) other
              (ap (λ e. e == 45 || e == 63 || e == 58) (sym (eqb-true c d same)) ∙ both.0))
        ]
        | inr isnt ↦ isnt
      ]

  first_stays : (c == 58 && ends_word true (cs ++ rest) || c == 35 && false) ≡ false
  first_stays =
      elim (cases_Bool (c == 58)) [
        | inl colon ↦ elim (begins c cs parts.0) [
          | inl none ↦
              absurd (both_ways (is_indicator c) none (ap is_indicator (eqb-true c 58 colon)))
          | inr both ↦ rw (colon, goes_on cs rest both.1) (and_right (c == 35) false refl)
        ]
        | inr no_colon ↦ rw no_colon (and_right (c == 35) false refl)
      ]

  head_found : head_at true (c ∷ cs ++ rest)
      ≡ plain_head (c ∷ cs ++ rest) (plain_len true false (c ∷ cs ++ rest))
  unfolding head_at
  head_found =
      elim (begins c cs parts.0) [
        | inl none ↦ head_by_none c (cs ++ rest) none
        | inr both ↦ head_by_mark c (cs ++ rest) both.0 (goes_on cs rest both.1)
      ]

module _ (c : ℕ) (cs rest : List ℕ) (plain : is_plain (c ∷ cs) ≡ true)
    (over : is_end rest ≡ true) where
  width : ℕ
  width = length (c ∷ cs) + blanks rest

  width_is : plain_len true false (c ∷ cs ++ rest) ≡ width
  unfolding width
  width_is =
      let blank = (first c cs rest plain).0 in
      let e = plain_len_is false cs rest (parts c cs rest plain).1 over in
      rw (first_stays c cs rest plain, blank) (omega (arith, e))

  part_is : (row : Row) → row.text ≡ c ∷ cs ++ rest → part width row ≡ c ∷ cs
  unfolding width
  part_is row is =
      let text : List ℕ = c ∷ cs ++ rest in
      let blank = (first c cs rest plain).0 in
      let e = content_is false cs rest (parts c cs rest plain).1 in
      let content : content_len (c ∷ cs ++ take (blanks rest) rest) ≡ length (c ∷ cs) =
      rw blank (omega (arith, e)) in
      ap (λ t. take (content_len (take width t)) t) is
      ∙ ap (λ t. take (content_len t) text) (taken (c ∷ cs) rest (blanks rest))
      ∙ ap (λ n. take n text) content
      ∙ take_at (c ∷ cs) rest (length (c ∷ cs)) refl

  head_is : head_at true (c ∷ cs ++ rest) ≡ plain_head (c ∷ cs ++ rest) width
  head_is = head_found c cs rest plain ∙ ap (plain_head (c ∷ cs ++ rest)) width_is

  no_key : begins_with 58 (drop width (c ∷ cs ++ rest)) ≡ false
  unfolding width
  no_key =
      ap (begins_with 58)
      (sym (drop-drop (blanks rest) (length (c ∷ cs)) (c ∷ cs ++ rest))
      ∙ ap (drop (blanks rest)) (drop_at (c ∷ cs) rest (length (c ∷ cs)) refl))
      ∙ no_colon rest over

  word_is : (file : FileKey) (parent : ℕ) (row : Row) (rows : List Row) → row.text ≡ c ∷ cs ++ rest
      → row.whole ≡ true → further parent row.number rows ≡ Ok ([], rows)
      → word file parent row width rows
      ≡ Ok (node_at file row (Scalar (encode_utf8_all (c ∷ cs))), rows)
  word_is file parent row rows is whole none =
      let behind : behind_line parent row width rows ≡ Ok ([], rows) =
      elim (length row.text == width) as
      (λ b. cond b (further parent row.number rows) (Ok ([], rows)) ≡ Ok ([], rows)) [
        | true ↦
            none
        | false ↦ refl
      ]
      in
      rw whole (ap
      (λ r. r >>= λ read. Ok
      (node_at file row (Scalar (encode_utf8_all (part width row ++ read.0))), read.1)) behind
      ∙ ap (λ text. Ok (node_at file row (Scalar (encode_utf8_all text)), rows))
      (append-nil (part width row) ∙ part_is row is))

pub value_is : PlainValueIsItself
unfolding inline
value_is file depth parent row rows [] rest is whole plain over none =
    absurd (both_ways false refl plain)
value_is file depth parent row rows (c ∷ cs) rest is whole plain over none =
    ap (λ t. inline_by file depth parent row (head_at row.whole t) rows) is
    ∙ ap (λ w. inline_by file depth parent row (head_at w (c ∷ cs ++ rest)) rows) whole
    ∙ ap (λ head. inline_by file depth parent row head rows) (head_is c cs rest plain over)
    ∙ rw (no_key c cs rest plain over)
    (word_is c cs rest plain over file parent row rows is whole none)

-- before a `:` that ends it
key_len : (blank : Bool) (text rest : List ℕ) → may_follow blank text ≡ true
    → ends_word true rest ≡ true → plain_len true blank (text ++ 58 ∷ rest) ≡ length text
key_len blank [] rest may ends = rw ends refl
key_len blank (c ∷ cs) rest may ends =
    let parts = and_parts _ (may_follow (is_blank c) cs) may in
    let e = key_len (is_blank c) cs rest parts.1 ends in
    rw (stays blank c cs (58 ∷ rest) parts.0) (omega (arith, e))

key_text : (c : ℕ) (cs rest : List ℕ) → is_plain (c ∷ cs) ≡ true → (row : Row)
    → row.text ≡ c ∷ cs ++ 58 ∷ rest → part (length (c ∷ cs)) row ≡ c ∷ cs
key_text c cs rest plain row is =
    let text : List ℕ = c ∷ cs ++ 58 ∷ rest in
    let blank = (first c cs (58 ∷ rest) plain).0 in
    let e = ap content_len (sym (append-nil cs))
    ∙ content_is false cs [] (parts c cs (58 ∷ rest) plain).1 in
    let content : content_len (c ∷ cs) ≡ length (c ∷ cs) = rw blank (omega (arith, e)) in
    ap (λ t. take (content_len (take (length (c ∷ cs)) t)) t) is
    ∙ ap (λ t. take (content_len t) text) (take_at (c ∷ cs) (58 ∷ rest) (length (c ∷ cs)) refl)
    ∙ ap (λ n. take n text) content
    ∙ take_at (c ∷ cs) (58 ∷ rest) (length (c ∷ cs)) refl

pub key_is : PlainKeyIsItself
key_is file depth row [] rest is whole plain ends = absurd (both_ways false refl plain)
key_is file depth row (c ∷ cs) rest is whole plain ends =
    let text : List ℕ = c ∷ cs ++ 58 ∷ rest in
    let blank = (first c cs (58 ∷ rest) plain).0 in
    let e = key_len false cs rest (parts c cs (58 ∷ rest) plain).1 ends in
    let width : plain_len true false text ≡ length (c ∷ cs) =
    rw (first_stays c cs (58 ∷ rest) plain, blank) (omega (arith, e)) in
    let colon : begins_with 58 (drop (length (c ∷ cs)) text) ≡ true =
    ap (begins_with 58) (drop_at (c ∷ cs) (58 ∷ rest) (length (c ∷ cs)) refl) in
    ap (λ t. key_by file depth row (head_at row.whole t)) is
    ∙ ap (λ w. key_by file depth row (head_at w text)) whole
    ∙ ap (key_by file depth row) (head_found c cs (58 ∷ rest) plain ∙ ap (plain_head text) width)
    ∙ rw colon
    (ap
    (λ t. Ok (record {
      start = row;
      text = encode_utf8_all t;
      left = behind (length (c ∷ cs) + 1) row;
    }))
    (key_text c cs rest plain row is))

clean_text : (blank : Bool) (text : List ℕ) → may_follow blank text ≡ true → is_line text ≡ true
clean_text blank [] may = refl
clean_text blank (c ∷ cs) may =
    let parts = and_parts _ (may_follow (is_blank c) cs) may in
    and_from _ _
    (elim (or_cases (is_blank c) _ parts.0) [
      | inl is ↦ blank_clean c is
      | inr stands ↦
          stands_clean blank c cs stands
    ]) (clean_text (is_blank c) cs parts.1)
  where
    blank_clean : (c : ℕ) → is_blank c ≡ true → not (is_control c) ≡ true
    blank_clean c is = grind (arith, nat_tests)

    mark_clean : (c : ℕ) → (c == 35) ≡ true → not (is_control c) ≡ true
    mark_clean c is = grind (arith, nat_tests)

    colon_clean : (c : ℕ) → (c == 58) ≡ true → not (is_control c) ≡ true
    colon_clean c is = grind (arith, nat_tests)

    stands_clean : (blank : Bool) (c : ℕ) (cs : List ℕ) → may_stand blank c cs ≡ true
        → not (is_control c) ≡ true
    stands_clean blank c cs stands =
        elim (cases_Bool (c == 35)) [
          | inl mark ↦ mark_clean c mark
          | inr no_mark ↦ elim (cases_Bool (c == 58)) [
            | inl colon ↦ colon_clean c colon
            | inr no_colon ↦ ap not (visible_is c (rw (no_mark, no_colon) at stands)).1
          ]
        ]

no_space : (c : ℕ) → is_blank c ≡ false → (c == 32) ≡ false
no_space c isnt = (or_parts (c == 32) (c == 9) isnt).0

no_tab : (c : ℕ) → is_blank c ≡ false → (c == 9) ≡ false
no_tab c isnt = (or_parts (c == 32) (c == 9) isnt).1

row_read : (file : FileKey) (c : ℕ) (cs rest : List ℕ) → is_plain (c ∷ cs) ≡ true
    → is_end rest ≡ true → is_marker (first_row (c ∷ cs ++ rest)) ≡ false
    → document file (first_row (c ∷ cs ++ rest) ∷ [])
    ≡ Ok (node_at file (first_row []) (Scalar (encode_utf8_all (c ∷ cs))))
unfolding begun further
row_read file c cs rest plain over no_marker =
    let row : Row = first_row (c ∷ cs ++ rest) in
    let made : Node = node_at file row (Scalar (encode_utf8_all (c ∷ cs))) in
    let blank = (first c cs rest plain).0 in
    let read : begun file 64 (inner file 64) 0 row (row ∷ []) ≡ Ok (made, []) =
    ap (λ head. begun_by (holder file 64 0) (inner file 64) row head (row ∷ []))
    (head_is c cs rest plain over)
    ∙ rw (no_key c cs rest plain over) (word_is c cs rest plain over file 0 row [] refl refl refl)
    in
    alone file row made
    (sym (empty_at row c refl blank) ∙ other_first c cs rest plain 35 refl refl)
    (no_tab c blank) (other_first c cs rest plain 37 refl refl)
    no_marker refl read

pub text_is : PlainTextIsItself
text_is file [] rest plain clean over no_marker is = absurd (both_ways false refl plain)
text_is file (c ∷ cs) rest plain clean over no_marker is =
    let parts = and_parts (may_begin c cs) (may_follow false cs) plain in
    let first = visible_is c (and_parts (is_visible c) _ parts.0).0 in
    let whole : is_line (c ∷ cs ++ rest) ≡ true =
    and_from _ _ (ap not first.1)
    (list_all-append (λ c. not (is_control c)) cs rest
    ∙ and_from _ _ (clean_text false cs parts.1) clean)
    in
    spelled_is file (c ∷ cs ++ rest) is
    ∙ ap (λ rows. placed file (document file rows))
    (row_is c (cs ++ rest) first.2 (no_space c first.0) whole)
    ∙ ap (placed file) (row_read file c cs rest plain over no_marker)
