-- The lines of a head: the empty lines at its front, its start line, a line a field, an empty line.
use Rattle.std.proofs.Common.{zero, ◌≡◌, ℕ, ◌+◌, ◌<◌, ◌≤◌, ◌⊎◌, inl, inr, Bool, true, false, List}
use Rattle.std.proofs.Common.{[], ◌∷◌, ◌++◌, length, take, drop, refl, sym, ap, ◌∙◌, subst, arith}
use Rattle.std.proofs.Common.{append_assoc, append-nil, suc, All}
use Rattle.std.proofs.lemmas.Grind.{common_steps}
use Rattle.std.proofs.lemmas.List.Elements.{All-head, All-tail, All-cons, All-nil}
use Rattle.std.specs.List.{flat_map}
use Rattle.httparse.specs.Grammar.{AllPass, LineEnd, crlf, lf, print_end, print_blank}
use Rattle.httparse.specs.Grammar.{print_version, Field, print_field, IsField, print_section}
use Rattle.httparse.specs.Grammar.{RequestHead, print_request, IsRequestHead, ReadsRequest}
use Rattle.httparse.specs.Grammar.{HasNoRequest, NeverHasRequest, MayBecomeRequest, EndsInTarget}
use Rattle.httparse.specs.Grammar.{is_token_byte, is_uri_byte, is_value_byte}
use Rattle.httparse.specs.Pieces.{is_newline, Stops}
use Rattle.httparse.specs.Spans.{RequestExceeds}
use Rattle.httparse.proofs.GrammarLemmas.{print_request-append, ReadsRequest-append}
use Rattle.httparse.proofs.PieceLemmas.{Stops_token, print_field-append}
use Rattle.pl_heads.specs.Lines.{feeds, skip_newlines, lines_behind}
use Rattle.pl_heads.proofs.LineLemmas.{feeds-append, feeds-AllPass, line_first, skip_newlines-Stops}
use Rattle.pl_heads.proofs.LineLemmas.{skip_newlines-append, lines_behind-append, lines_behind-le}
use Rattle.pl_heads.proofs.LineLemmas.{feed_behind}

-- what stands before a line feed at a line's end
abbrev pub before_feed : LineEnd → List ℕ
before_feed crlf = 13 ∷ []
before_feed lf = []

print_end-feed : (end : LineEnd) (rest : List ℕ) → print_end end ++ rest ≡ before_feed end ++ 10 ∷
    rest
print_end-feed crlf rest = refl
print_end-feed lf rest = refl

feeds-before_feed : (end : LineEnd) → feeds (before_feed end) ≡ 0
feeds-before_feed crlf = refl
feeds-before_feed lf = refl

pub token_no_feed : is_token_byte 10 ≡ false
unfolding is_token_byte
token_no_feed = refl

-- ---- the start line

-- all of a start line but its line feed
abbrev pub start_word : RequestHead → List ℕ
start_word h = h.method ++ 32 ∷ (h.target ++ 32 ∷ (print_version h.minor ++ before_feed h.line_end))

feeds-version : (minor : ℕ) → minor ≤ 1 → feeds (print_version minor) ≡ 0
feeds-version minor small = feed_behind (48 + minor) 0 (λ e. omega arith)

pub feeds-start_word : (h : RequestHead) → IsRequestHead h → feeds (start_word h) ≡ 0
feeds-start_word h is =
    let method : feeds h.method ≡ 0 = feeds-AllPass is_token_byte token_no_feed h.method
    is.method.1 in
    let target : feeds h.target ≡ 0 = feeds-AllPass is_uri_byte refl h.target is.target.1 in
    let version : feeds (print_version h.minor) ≡ 0 = feeds-version h.minor is.minor in
    let end : feeds (before_feed h.line_end) ≡ 0 = feeds-before_feed h.line_end in
    let last = feeds-append (print_version h.minor) (before_feed h.line_end) in
    let second = feeds-append h.target (32 ∷ (print_version h.minor ++ before_feed h.line_end)) in
    let first =
    feeds-append h.method
    (32 ∷ (h.target ++ 32 ∷ (print_version h.minor ++ before_feed h.line_end))) in
    omega (arith, first, second, last, method, target, version, end)

-- a head's bytes, line by line
pub request_lines : (h : RequestHead) (rest : List ℕ) → print_request h ++ rest
    ≡ print_blank h.blank ++
    (start_word h ++ 10 ∷ (flat_map print_field h.fields ++ (print_end h.last ++ rest)))
request_lines h rest =
    print_request-append h rest ∙ regroup (print_blank h.blank) h.method h.target
    (print_version h.minor) h.line_end
    (flat_map print_field h.fields) (print_end h.last) rest
  where
    regroup : (a m t v : List ℕ) (e : LineEnd) (fs l r : List ℕ)
        → a ++ (m ++ 32 ∷ (t ++ 32 ∷ (v ++ (print_end e ++ ((fs ++ l) ++ r)))))
        ≡ a ++ ((m ++ 32 ∷ (t ++ 32 ∷ (v ++ before_feed e))) ++ 10 ∷ (fs ++ (l ++ r)))
    regroup a m t v e fs l r = rw print_end-feed (simp append_assoc)

-- ---- field lines

-- all of a field's line but its line feed
abbrev pub field_word : Field → List ℕ
field_word f = f.name ++ 58 ∷ (f.raw ++ before_feed f.end)

pub feeds-field_word : (f : Field) → IsField f → feeds (field_word f) ≡ 0
feeds-field_word f is =
    let name : feeds f.name ≡ 0 = feeds-AllPass is_token_byte token_no_feed f.name is.name.1 in
    let raw : feeds f.raw ≡ 0 = feeds-AllPass is_value_byte refl f.raw is.raw in
    let end : feeds (before_feed f.end) ≡ 0 = feeds-before_feed f.end in
    let last = feeds-append f.raw (before_feed f.end) in
    let first = feeds-append f.name (58 ∷ (f.raw ++ before_feed f.end)) in
    omega (arith, first, last, name, raw, end)

field_line : (f : Field) (rest : List ℕ) → print_field f ++ rest ≡ field_word f ++ 10 ∷ rest
field_line f rest = print_field-append f rest ∙ regroup f.name f.raw f.end rest
  where
    regroup : (n r : List ℕ) (e : LineEnd) (rest : List ℕ)
        → n ++ 58 ∷ (r ++ (print_end e ++ rest)) ≡ (n ++ 58 ∷ (r ++ before_feed e)) ++ 10 ∷ rest
    regroup n r e rest = rw print_end-feed (simp append_assoc)

pub feeds-word : (word rest : List ℕ) → feeds word ≡ 0 → feeds (word ++ 10 ∷ rest) ≡ feeds rest + 1
feeds-word word rest none = omega (arith, feeds-append word (10 ∷ rest))

-- so many lines of a section are in a text that begins as it, or the whole section is
pub record HoldsLines (n : ℕ) (fields : List Field) (text : List ℕ) : Type 0 where
  pub enough : n ≤ length fields
  pub behind : List ℕ
  pub text_is : text ≡ flat_map print_field (take n fields) ++ behind

one_more :
    (f : Field) (fields : List Field) (last : LineEnd) (text t : List ℕ) (n : ℕ) →
    text ≡ print_field f ++ t
    → HoldsLines n fields t ⊎
    ((behind : List ℕ) × (t ≡ (flat_map print_field fields ++ print_end last) ++ behind))
    → HoldsLines (suc n) (f ∷ fields) text
    ⊎ ((behind : List ℕ) × (text ≡ (flat_map print_field (f ∷ fields) ++ print_end last) ++ behind))
one_more f fields last text t n text_is (inl lines) = inl (record {
  enough = omega (arith, lines.enough);
  behind = lines.behind;
  text_is =
      text_is ∙ ap (λ (xs : List ℕ). print_field f ++ xs) lines.text_is
      ∙ sym (append_assoc (print_field f) (flat_map print_field (take n fields)) lines.behind);
})
one_more f fields last text t n text_is (inr whole) = inr (
  whole.0,
  text_is ∙ ap (λ (xs : List ℕ). print_field f ++ xs) whole.1
      ∙ regroup (print_field f) (flat_map print_field fields) (print_end last) whole.0,
)
  where
    regroup : (a b c d : List ℕ) → a ++ ((b ++ c) ++ d) ≡ ((a ++ b) ++ c) ++ d
    regroup a b c d = simp append_assoc

pub section_lines :
    (n : ℕ) (fields : List Field) (last : LineEnd) (text more : List ℕ) → All IsField fields
    → flat_map print_field fields ++ print_end last ≡ text ++ more → n ≤ feeds text
    → HoldsLines n fields text ⊎
    ((behind : List ℕ) × (text ≡ (flat_map print_field fields ++ print_end last) ++ behind))
section_lines zero fields last text more is same enough =
    inl (record { enough = omega arith; behind = text; text_is = refl })
section_lines (suc n) [] last text more is same enough =
    let found = line_first (before_feed last) [] text more (feeds-before_feed last)
    (sym (print_end-feed last []) ∙ append-nil (print_end last) ∙ same) (omega arith) in
    inr (found.0, found.1 ∙ sym (print_end-feed last found.0))
section_lines (suc n) (f ∷ fields) last text more is same enough =
    let none : feeds (field_word f) ≡ 0 = feeds-field_word f (All-head IsField f fields is) in
    let split : (field_word f ++ 10 ∷ (flat_map print_field fields ++ print_end last)) ≡ text ++
    more =
    sym (field_line f (flat_map print_field fields ++ print_end last))
    ∙ sym (append_assoc (print_field f) (flat_map print_field fields) (print_end last)) ∙ same in
    let found = line_first (field_word f) (flat_map print_field fields ++ print_end last) text more
    none split (omega arith) in
    let count : feeds text ≡ feeds found.0 + 1 = ap feeds found.1 ∙
    feeds-word (field_word f) found.0 none in
    let text_is : text ≡ print_field f ++ found.0 = found.1 ∙ sym (field_line f found.0) in
    one_more f fields last text found.0 n text_is
    (section_lines n fields last found.0 more (All-tail IsField f fields is) found.2
    (omega (arith, count)))

pub feeds-print_end : (end : LineEnd) → feeds (print_end end) ≡ 1
feeds-print_end crlf = refl
feeds-print_end lf = refl

-- a line a field
pub feeds-fields : (fields : List Field) → All IsField fields →
    feeds (flat_map print_field fields) ≡ length fields
feeds-fields [] is = refl
feeds-fields (f ∷ fields) is =
    ap feeds (field_line f (flat_map print_field fields))
    ∙ feeds-word (field_word f) (flat_map print_field fields)
    (feeds-field_word f (All-head IsField f fields is))
    ∙ ap (λ (n : ℕ). n + 1) (feeds-fields fields (All-tail IsField f fields is)) ∙ omega arith
