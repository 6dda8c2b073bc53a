-- Lines that continue a plain scalar.
use Rattle.std.proofs.Common.{◌≡◌, ℕ, ◌-◌, ◌<◌, ◌≤◌, Bool, true, false, ◌==◌, nat_lt, cond, List}
use Rattle.std.proofs.Common.{[], ◌∷◌, ◌++◌, Ok, Err, length, refl, sym, ap, ◌∙◌, append_assoc}
use Rattle.std.proofs.Common.{append-nil, arith}
use Rattle.std.specs.Prelude.{encode_utf8_all}
use Rattle.std.proofs.lemmas.Bool.Decides.{nat_tests}
use Rattle.std.proofs.lemmas.Str.{encodes-append}
use Rattle.pl_base.specs.declared.place.FileKey.{FileKey}
use Rattle.pl_base.specs.declared.node.Node.{Node}
use Rattle.pl_base.specs.declared.node.NodeBody.TheVariants.{Scalar}
use Rattle.pl_line.specs.Rows.{Row}
use Rattle.pl_reading.specs.Steps.{◌>>=◌}
use Rattle.pl_line.specs.Left.{is_bare, is_comment, line_end}
use Rattle.pl_line.specs.Trees.{node_at}
use Rattle.pl_yaml.specs.Reading.{Read}
use Rattle.pl_yaml.specs.Content.{stands}
use Rattle.pl_yaml.specs.Plain.{part, folded, continued, further, behind_bytes, behind_line, word}

-- what is behind a line that continues a scalar
abbrev pub left_behind : ℕ → ℕ → Row → List Row → Read (List ℕ)
left_behind parent n row rows = cond (n == length row.text) (further parent row.number rows)
    (Ok ([], rows))

abbrev added : ℕ → ℕ → ℕ → Row → List Row → Read (List ℕ)
added parent last n row rows = left_behind parent n row rows >>=
    λ read. Ok (folded (row.number - last - 1) ++ (part n row ++ read.0), read.1)

abbrev if_deeper : Bool → ℕ → ℕ → Row → List Row → Read (List ℕ)
if_deeper b parent last row rows = cond b (continued row >>= λ n. added parent last n row rows)
    (Ok ([], row ∷ rows))

further_reads : (parent last n : ℕ) (row : Row) (rows : List Row)
    → is_bare row ≡ false → is_comment row ≡ false → stands row ≡ Ok tt → nat_lt parent row.column ≡
    true → continued row ≡ Ok n
    → further parent last (row ∷ rows) ≡ added parent last n row rows
unfolding further
further_reads parent last n row rows bare comment stood deeper is =
    ap (λ b. cond b (further parent last rows) (cond (is_comment row) (Ok ([], row ∷ rows))
    (stands row >>= λ _. if_deeper (nat_lt parent row.column) parent last row rows))) bare
    ∙ ap (λ b. cond b (Ok ([], row ∷ rows)) (stands row >>=
    λ _. if_deeper (nat_lt parent row.column) parent last row rows)) comment
    ∙ ap (λ r. r >>= λ _. if_deeper (nat_lt parent row.column) parent last row rows) stood
    ∙ ap (λ b. if_deeper b parent last row rows) deeper
    ∙ ap (λ r. r >>= λ n. added parent last n row rows) is

three :
    (bytes a b c : List ℕ) →
    (bytes ++ encode_utf8_all a) ++ encode_utf8_all b ++ encode_utf8_all c ≡ bytes ++
    encode_utf8_all (a ++ (b ++ c))
three bytes a b c =
    append_assoc (bytes ++ encode_utf8_all a) (encode_utf8_all b) (encode_utf8_all c)
    ∙ append_assoc bytes (encode_utf8_all a) (encode_utf8_all b ++ encode_utf8_all c)
    ∙ ap (λ e. bytes ++ (encode_utf8_all a ++ e)) (sym (encodes-append b c))
    ∙ ap (λ e. bytes ++ e) (sym (encodes-append a (b ++ c)))

behind_three : (bytes a b : List ℕ) (read : Read (List ℕ))
    → behind_bytes ((bytes ++ encode_utf8_all a) ++ encode_utf8_all b) read ≡
    behind_bytes bytes (read >>= λ r. Ok (a ++ (b ++ r.0), r.1))
behind_three bytes a b (Ok r) = ap (λ e. Ok (e, r.1)) (three bytes a b r.0)
behind_three bytes a b (Err fault) = refl

deeper_test : (n m : ℕ) → n < m → nat_lt n m ≡ true
deeper_test n m less = grind (arith, nat_tests)

short_test : (n m : ℕ) → n < m → (n == m) ≡ false
short_test n m less = grind (arith, nat_tests)

full_test : (n m : ℕ) → n ≤ m → m ≤ n → (n == m) ≡ true
full_test n m most least = grind (arith, nat_tests)

-- a line that continues the scalar, the first of the rows, and what was added to the text for it
module _ (bytes middle after : List ℕ) (parent last n : ℕ) (row : Row) (rows rest left : List Row)
    (first : rows ≡ row ∷ rest) (passed : left ≡ rest)
    (bare : is_bare row ≡ false) (comment : is_comment row ≡ false) (stood : stands row ≡ Ok tt)
    (deeper : parent < row.column) (is : continued row ≡ Ok n)
    (one : middle ≡ bytes ++ encode_utf8_all (folded (row.number - last - 1))) (two : after ≡
    middle ++ encode_utf8_all (part n row)) where
  further_goes : behind_bytes after (left_behind parent n row left) ≡
      behind_bytes bytes (further parent last rows)
  further_goes =
      ap (λ b. behind_bytes b (left_behind parent n row left))
      (two ∙ ap (λ m. m ++ encode_utf8_all (part n row)) one)
      ∙ behind_three bytes (folded (row.number - last - 1)) (part n row)
      (left_behind parent n row left)
      ∙ ap (λ r. behind_bytes bytes (added parent last n row r)) passed
      ∙ ap (behind_bytes bytes)
      (sym (further_reads parent last n row rest bare comment stood
      (deeper_test parent row.column deeper) is))
      ∙ ap (λ r. behind_bytes bytes (further parent last r)) (sym first)

  -- a comment stands behind it
  pub further_ends :
      n < length row.text → behind_bytes bytes (further parent last rows) ≡ Ok (after, left)
  further_ends short =
      sym further_goes
      ∙ ap (λ b. behind_bytes after (cond b (further parent row.number left) (Ok ([], left))))
      (short_test n (length row.text) short)
      ∙ ap (λ e. Ok (e, left)) (append-nil after)

  pub further_more :
      n ≤ length row.text → length row.text ≤ n →
      behind_bytes after (further parent row.number left) ≡
      behind_bytes bytes (further parent last rows)
  further_more most least =
      sym (ap (λ b. behind_bytes after (cond b (further parent row.number left) (Ok ([], left))))
      (full_test n (length row.text) most least))
      ∙ further_goes

-- the whole scalar
abbrev scalar_at : FileKey → Row → List ℕ × List Row → Read Node
scalar_at file row r = Ok (node_at file row (Scalar r.0), r.1)

abbrev whole_at : FileKey → Row → List ℕ → List ℕ × List Row → Read Node
whole_at file row cs r = Ok (node_at file row (Scalar (encode_utf8_all (cs ++ r.0))), r.1)

scalar_behind :
    (file : FileKey) (row : Row) (bytes cs : List ℕ) → bytes ≡ encode_utf8_all cs →
    (read : Read (List ℕ))
    → (read >>= whole_at file row cs)
    ≡ (behind_bytes bytes read >>= scalar_at file row)
scalar_behind file row bytes cs is (Ok r) =
    ap (λ e. Ok (node_at file row (Scalar e), r.1)) (encodes-append cs r.0 ∙
    ap (λ b. b ++ encode_utf8_all r.0) (sym is))
scalar_behind file row bytes cs is (Err fault) = refl

pub word_reads : (file : FileKey) (parent : ℕ) (row : Row) (n : ℕ) (rows left : List Row)
    (bytes whole : List ℕ) (made : Node)
    → line_end row ≡ Ok tt → bytes ≡ encode_utf8_all (part n row) →
    behind_bytes bytes (behind_line parent row n rows) ≡ Ok (whole, left)
    → made ≡ node_at file row (Scalar whole) → word file parent row n rows ≡ Ok (made, left)
word_reads file parent row n rows left bytes whole made ended first read is =
    ap (λ r. r >>= λ _. behind_line parent row n rows >>= whole_at file row (part n row)) ended
    ∙ scalar_behind file row bytes (part n row) first (behind_line parent row n rows)
    ∙ ap (λ r. r >>= scalar_at file row) read
    ∙ ap (λ m. Ok (m, left)) (sym is)
