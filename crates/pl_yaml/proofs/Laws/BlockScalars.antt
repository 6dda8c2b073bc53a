-- The lines of a block scalar, and their text.
use Rattle.std.proofs.Common.{◌≡◌, ℕ, zero, suc, ◌+◌, ◌-◌, Bool, true, ◌||◌, cond, List, [], ◌∷◌}
use Rattle.std.proofs.Common.{◌++◌, take, drop, length, Option, Ok, Err, refl, sym, ap, ap₂, ◌∙◌}
use Rattle.std.proofs.Common.{append_assoc, arith}
use Rattle.std.specs.Prelude.{encode_utf8_all}
use Rattle.std.proofs.lemmas.Str.{encodes-append}
use Rattle.pl_reading.specs.Steps.{◌>>=◌}
use Rattle.pl_line.specs.Left.{is_bare}
use Rattle.pl_yaml.specs.declared.header.Chomping.{Chomping}
use Rattle.pl_line.specs.Rows.{Row}
use Rattle.pl_yaml.specs.Reading.{Read, has_row}
use Rattle.pl_yaml.specs.BlockScalars.{TextLine, text_lines, line_from, lines, line_before, reaches}
use Rattle.pl_yaml.specs.BlockScalars.{inside, next_line, break_before, block_text}

-- lines read before others
abbrev pub prefixed : List TextLine → Read (List TextLine) → Read (List TextLine)
prefixed front read = read >>= λ r. Ok (front ++ r.0, r.1)

pub prefixed_none : (read : Read (List TextLine)) → prefixed [] read ≡ read
prefixed_none (Ok r) = refl
prefixed_none (Err fault) = refl

prefixed_more :
    (front : List TextLine) (line : TextLine) (more : Read (List TextLine)) →
    prefixed (front ++ line ∷ []) more ≡
    prefixed front (more >>= λ read. Ok (line ∷ read.0, read.1))
prefixed_more front line (Ok r) = ap (λ ls. Ok (ls, r.1)) (append_assoc front (line ∷ []) r.0)
prefixed_more front line (Err fault) = refl

-- two parts, added to a text
pub pushed :
    (old one two : List ℕ) (a b : List ℕ) → one ≡ old ++ encode_utf8_all a →
    two ≡ one ++ encode_utf8_all b → two ≡ old ++ encode_utf8_all (a ++ b)
pushed old one two a b first second = second ∙ ap (λ o. o ++ encode_utf8_all b) first ∙
    append_assoc old (encode_utf8_all a) (encode_utf8_all b) ∙
    ap (λ e. old ++ e) (sym (encodes-append a b))

pub pushed_along :
    (old one two a b more : List ℕ) → one ≡ old ++ encode_utf8_all a →
    two ≡ one ++ encode_utf8_all b →
    two ++ encode_utf8_all more ≡ old ++ encode_utf8_all (a ++ (b ++ more))
pushed_along old one two a b more first second =
    ap (λ t. t ++ encode_utf8_all more) (second ∙ ap (λ o. o ++ encode_utf8_all b) first)
    ∙ append_assoc (old ++ encode_utf8_all a) (encode_utf8_all b) (encode_utf8_all more)
    ∙ ap (λ e. (old ++ encode_utf8_all a) ++ e) (sym (encodes-append b more))
    ∙ append_assoc old (encode_utf8_all a) (encode_utf8_all (b ++ more))
    ∙ ap (λ e. old ++ e) (sym (encodes-append a (b ++ more)))

-- a line of a scalar, with its break, and the lines behind it
pub text_goes : (is_folded : Bool) (chomps : Chomping) (old one two end : List ℕ) (line : TextLine)
    (rest after : List TextLine) (next : Option TextLine)
    → rest ≡ line ∷ after → next ≡ next_line after → end ≡ break_before is_folded chomps line after
    next
    → one ≡ old ++ encode_utf8_all line.text → two ≡ one ++ encode_utf8_all end
    → two ++ encode_utf8_all (block_text is_folded chomps after) ≡ old ++
    encode_utf8_all (block_text is_folded chomps rest)
unfolding block_text
text_goes is_folded chomps old one two end line rest after next cut at is first second =
    let parts : end ≡ break_before is_folded chomps line after (next_line after) = is ∙
    ap (break_before is_folded chomps line after) at in
    pushed_along old one two line.text end (block_text is_folded chomps after) first second
    ∙ ap (λ e. old ++ encode_utf8_all (line.text ++ (e ++ block_text is_folded chomps after))) parts
    ∙ ap (λ ls. old ++ encode_utf8_all (block_text is_folded chomps ls)) (sym cut)

-- the first of the lines that are left, looked at and taken off
pub seen :
    (column : Option ℕ) (left : ℕ) (rows : List Row) (row : Row) (is_broken : Bool)
    (line : TextLine) →
    (left ≡ 0 → ⊥) → rows ≡ row ∷ drop 1 rows
    → is_broken ≡ has_row (drop 1 rows) → line ≡ line_from column row is_broken →
    take left (text_lines column rows) ≡ line ∷ drop 1 (take left (text_lines column rows))
seen column zero rows row is_broken line some is broken made = absurd (some refl)
seen column (suc left) rows row is_broken line some is broken made =
    let first : line_from column row (has_row (drop 1 rows)) ≡ line =
    sym (made ∙ ap (line_from column row) broken) in
    let cut : take (suc left) (text_lines column rows) ≡ line ∷
    take left (text_lines column (drop 1 rows)) =
    ap (λ rs. take (suc left) (text_lines column rs)) is ∙
    ap (λ l. l ∷ take left (text_lines column (drop 1 rows))) first
    in
    cut ∙ ap (λ ls. line ∷ ls) (sym (ap (drop 1) cut))

pub taken :
    (column : Option ℕ) (left : ℕ) (rows after : List Row) (row : Row) (is_broken : Bool)
    (line : TextLine) →
    (left ≡ 0 → ⊥) → rows ≡ row ∷ drop 1 rows → after ≡ drop 1 rows
    → is_broken ≡ has_row after → line ≡ line_from column row is_broken →
    take left (text_lines column rows) ≡ line ∷ take (left - 1) (text_lines column after)
taken column zero rows after row is_broken line some is behind broken made = absurd (some refl)
taken column (suc left) rows after row is_broken line some is behind broken made =
    let e : suc left - 1 ≡ left = omega arith in
    let first : line_from column row (has_row (drop 1 rows)) ≡ line =
    sym (made ∙ ap (line_from column row) (broken ∙ ap has_row behind)) in
    let others : take left (text_lines column (drop 1 rows)) ≡
    take (suc left - 1) (text_lines column after) =
    sym (ap (λ n. take n (text_lines column after)) e ∙ ap (λ rs. take left (text_lines column rs))
    behind)
    in
    ap (λ rs. take (suc left) (text_lines column rs)) is ∙ ap₂ (λ l ls. l ∷ ls) first others

-- one line more of those that were read
pub one_more :
    (column : Option ℕ) (n : ℕ) (rows others : List Row) (row : Row) → drop n rows ≡ row ∷ others
    → take (n + 1) (text_lines column rows) ≡ take n (text_lines column rows) ++
    line_from column row (has_row others) ∷ []
one_more column zero [] others row is = absurd (omega (arith, ap length is))
one_more column zero (r ∷ rows) others row is = ap (λ rs. take 1 (text_lines column rs)) is
one_more column (suc n) [] others row is = absurd (omega (arith, ap length is))
one_more column (suc n) (r ∷ rows) others row is =
    let e : suc n + 1 ≡ suc (n + 1) = omega arith in
    ap (λ m. take m (text_lines column (r ∷ rows))) e ∙
    ap (λ ls. line_from column r (has_row rows) ∷ ls) (one_more column n rows others row is)

-- a line that belongs to the scalar
more_lines :
    (column : Option ℕ) (row : Row) (others : List Row) →
    (is_bare row || reaches column row) ≡ true → inside row ≡ Ok tt
    → lines column (row ∷ others) ≡
    (lines column others >>= λ read. Ok (
      line_from column row (has_row others) ∷ read.0,
      read.1,
    ))
unfolding lines
more_lines column row others belongs clean =
    ap (λ b. cond b (line_before column row (lines column others) others) (Ok ([], row ∷ others)))
    belongs
    ∙ ap (λ r. r >>= λ _. lines column others >>=
    λ read. Ok (line_from column row (has_row others) ∷ read.0, read.1)) clean

pub line_read :
    (column : Option ℕ) (n : ℕ) (start rows after : List Row) (row : Row) →
    rows ≡ row ∷ drop 1 rows → rows ≡ drop n start → after ≡ drop 1 rows
    → (is_bare row || reaches column row) ≡ true → inside row ≡ Ok tt
    → prefixed (take (n + 1) (text_lines column start)) (lines column after) ≡
    prefixed (take n (text_lines column start)) (lines column rows)
line_read column n start rows after row is at behind belongs clean =
    ap (λ rs. prefixed (take (n + 1) (text_lines column start)) (lines column rs)) behind
    ∙ ap (λ ls. prefixed ls (lines column (drop 1 rows))) (one_more column n start (drop 1 rows) row
    (sym at ∙ is))
    ∙ prefixed_more (take n (text_lines column start))
    (line_from column row (has_row (drop 1 rows))) (lines column (drop 1 rows))
    ∙ ap (prefixed (take n (text_lines column start)))
    (sym (more_lines column row (drop 1 rows) belongs clean) ∙ ap (lines column) (sym is))
