-- Heads with more than 64 fields have at least 66 lines in front of the last one.
use Rattle.std.proofs.Common.{◌≡◌, ℕ, ◌+◌, ◌<◌, ◌≤◌, ◌⊎◌, inl, inr, Bool, true, false, List, []}
use Rattle.std.proofs.Common.{◌∷◌, ◌++◌, length, take, drop, refl, sym, ap, ◌∙◌, subst, arith}
use Rattle.std.proofs.Common.{append_assoc, append-nil, suc, All, length-append}
use Rattle.std.proofs.lemmas.Grind.{common_steps}
use Rattle.std.proofs.lemmas.List.{take-append-drop, take-append-le, length-take-le}
use Rattle.std.proofs.Math.Seq.{take-append_seam}
use Rattle.std.proofs.lemmas.List.Elements.{All-take}
use Rattle.std.specs.List.{flat_map}
use Rattle.httparse.specs.Grammar.{LineEnd, crlf, lf, print_end, print_blank, Field, print_field}
use Rattle.httparse.specs.Grammar.{IsField, RequestHead, print_request, IsRequestHead, ReadsRequest}
use Rattle.httparse.specs.Grammar.{HasNoRequest, NeverHasRequest, MayBecomeRequest, EndsInTarget}
use Rattle.httparse.specs.Grammar.{is_token_byte, is_uri_byte}
use Rattle.httparse.specs.Pieces.{is_newline, Stops}
use Rattle.httparse.specs.declared.spans.HeaderSpan.{HeaderSpan}
use Rattle.httparse.specs.declared.spans.RequestSpans.{RequestSpans}
use Rattle.httparse.specs.Spans.{RequestExceeds, IsRequestOf}
use Rattle.httparse.proofs.GrammarLemmas.{ReadsRequest-append}
use Rattle.httparse.proofs.PieceLemmas.{Stops_token}
use Rattle.pl_heads.specs.Heads.{field_limit}
use Rattle.pl_heads.specs.Lines.{feeds, skip_newlines, lines_behind, line_limit, IsCut}
use Rattle.pl_heads.proofs.LineLemmas.{feeds-append, feeds-AllPass, line_first, skip_newlines-Stops}
use Rattle.pl_heads.proofs.LineLemmas.{lines_behind-append, lines_behind-le, lines_behind-feeds}
use Rattle.pl_heads.proofs.HeadLemmas.{before_feed, start_word, feeds-start_word, request_lines}
use Rattle.pl_heads.proofs.HeadLemmas.{feeds-word, feeds-fields, feeds-print_end, HoldsLines}
use Rattle.pl_heads.proofs.HeadLemmas.{section_lines, token_no_feed}

-- ---- the front of a head

pub skip_blank :
    (ends : List LineEnd) (rest : List ℕ) →
    skip_newlines (print_blank ends ++ rest) ≡ skip_newlines rest
skip_blank [] rest = refl
skip_blank (crlf ∷ ends) rest = skip_blank ends rest
skip_blank (lf ∷ ends) rest = skip_blank ends rest

start_stops :
    (h : RequestHead) (rest : List ℕ) → IsRequestHead h → Stops is_newline (start_word h ++ rest)
start_stops h rest is =
    subst (Stops is_newline) (sym (append_assoc h.method _ rest))
    (Stops_token h.method _ is.method.0 is.method.1)

-- the lines of a head
pub lines_behind-request : (h : RequestHead) → IsRequestHead h → lines_behind (print_request h) ≡
    length h.fields + 2
lines_behind-request h is =
    let rest = flat_map print_field h.fields ++ (print_end h.last ++ []) in
    let bytes : print_request h ≡ print_blank h.blank ++ (start_word h ++ 10 ∷ rest) =
    sym (append-nil (print_request h)) ∙ request_lines h [] in
    let skipped : lines_behind (print_request h) ≡ feeds (start_word h ++ 10 ∷ rest) =
    ap lines_behind bytes ∙ ap feeds (skip_blank h.blank (start_word h ++ 10 ∷ rest)
    ∙ skip_newlines-Stops (start_word h ++ 10 ∷ rest) (start_stops h (10 ∷ rest) is)) in
    let start = feeds-word (start_word h) rest (feeds-start_word h is) in
    let fields = feeds-append (flat_map print_field h.fields) (print_end h.last ++ []) in
    let each = feeds-fields h.fields is.fields in
    let last : feeds (print_end h.last ++ []) ≡ 1 = ap feeds (append-nil (print_end h.last)) ∙
    feeds-print_end h.last in
    skipped ∙ omega (arith, start, fields, each, last)

-- a front that an empty line makes a head of over 64 fields has 66 lines
pub many_lines :
    (front : List ℕ) (h : RequestHead) → ReadsRequest (front ++ print_end lf) h [] →
    field_limit < length h.fields
    → line_limit ≤ lines_behind front
many_lines front h reads over =
    let bytes : front ++ 10 ∷ [] ≡ print_request h = reads.1 ∙ append-nil (print_request h) in
    let lines : lines_behind (front ++ 10 ∷ []) ≡ length h.fields + 2 =
    ap lines_behind bytes ∙ lines_behind-request h reads.0 in
    omega (arith, lines, lines_behind-le front (10 ∷ []))

pub exceeds_lines :
    (bytes : List ℕ) → RequestExceeds field_limit bytes → line_limit ≤ lines_behind bytes
exceeds_lines bytes (front, rest, bytes_are, h, reads, over) =
    let more : lines_behind front ≤ lines_behind bytes =
    subst (λ (b : List ℕ). lines_behind front ≤ lines_behind b) (sym bytes_are)
    (lines_behind-append front rest) in
    omega (arith, more, many_lines front h reads over)

-- more bytes have no fewer headers
pub exceeds-append : (bytes more : List ℕ) → RequestExceeds field_limit bytes →
    RequestExceeds field_limit (bytes ++ more)
exceeds-append bytes more (front, rest, bytes_are, h, reads, over) = (
  front,
  rest ++ more,
  ap (λ (b : List ℕ). b ++ more) bytes_are ∙ append_assoc front rest more,
  h,
  reads,
  over,
)

-- ---- bytes that begin a head

-- the empty lines at the front, where a line stands behind them
blank_first :
    (ends : List LineEnd) (rest bytes more : List ℕ) → print_blank ends ++ rest ≡ bytes ++ more →
    0 < lines_behind bytes
    → (b : List ℕ) × (bytes ≡ print_blank ends ++ b) × (rest ≡ b ++ more)
blank_first [] rest bytes more same some = (bytes, refl, same)
blank_first (crlf ∷ ends) rest [] more same some = absurd (omega arith)
blank_first (crlf ∷ ends) rest (x ∷ []) more same some =
    let first : x ≡ 13 = cc in
    let none : 0 < lines_behind (13 ∷ []) = subst (λ (v : ℕ). 0 < lines_behind (v ∷ [])) first
    some in
    absurd (omega arith)
blank_first (crlf ∷ ends) rest (x ∷ y ∷ bytes) more same some =
    let first : x ≡ 13 = cc in
    let second : y ≡ 10 = cc in
    let tail : print_blank ends ++ rest ≡ bytes ++ more = cc in
    let some_left : 0 < lines_behind bytes =
    subst (λ (v : ℕ). 0 < lines_behind (13 ∷ v ∷ bytes)) second
    (subst (λ (v : ℕ). 0 < lines_behind (v ∷ y ∷ bytes)) first some) in
    let found = blank_first ends rest bytes more tail some_left in
    (found.0, cc, found.2)
blank_first (lf ∷ ends) rest [] more same some = absurd (omega arith)
blank_first (lf ∷ ends) rest (x ∷ bytes) more same some =
    let first : x ≡ 10 = cc in
    let tail : print_blank ends ++ rest ≡ bytes ++ more = cc in
    let some_left : 0 < lines_behind bytes = subst (λ (v : ℕ). 0 < lines_behind (v ∷ bytes)) first
    some in
    let found = blank_first ends rest bytes more tail some_left in
    (found.0, cc, found.2)

-- behind the empty lines and the start line
pub record HoldsStart (h : RequestHead) (bytes more : List ℕ) : Type 0 where
  pub text : List ℕ
  pub bytes_are : bytes ≡ print_blank h.blank ++ (start_word h ++ 10 ∷ text)
  pub fields_are : flat_map print_field h.fields ++ print_end h.last ≡ text ++ more
  pub lines_are : lines_behind bytes ≡ feeds text + 1

pub start_first :
    (h : RequestHead) (bytes more : List ℕ) → ReadsRequest (bytes ++ more) h [] →
    0 < lines_behind bytes
    → HoldsStart h bytes more
start_first h bytes more reads some =
    let fields = flat_map print_field h.fields ++ print_end h.last in
    let line : start_word h ++ 10 ∷ (flat_map print_field h.fields ++ (print_end h.last ++ [])) ≡
    start_word h ++ 10 ∷ fields =
    ap (λ (xs : List ℕ). start_word h ++ 10 ∷ (flat_map print_field h.fields ++ xs))
    (append-nil (print_end h.last)) in
    let same : print_blank h.blank ++ (start_word h ++ 10 ∷ fields) ≡ bytes ++ more =
    sym (reads.1 ∙ request_lines h [] ∙ ap (λ (xs : List ℕ). print_blank h.blank ++ xs) line) in
    let b = blank_first h.blank (start_word h ++ 10 ∷ fields) bytes more same some in
    let lines : lines_behind bytes ≡ lines_behind b.0 = ap lines_behind b.1 ∙
    ap feeds (skip_blank h.blank b.0) in
    let none = feeds-start_word h reads.0 in
    let t = line_first (start_word h) fields b.0 more none b.2
    (omega (arith, lines, lines_behind-feeds b.0)) in
    let skipped : lines_behind b.0 ≡ feeds (start_word h ++ 10 ∷ t.0) =
    ap lines_behind t.1 ∙ ap feeds (skip_newlines-Stops _ (start_stops h (10 ∷ t.0) reads.0)) in
    record {
      text = t.0;
      bytes_are = b.1 ∙ ap (λ (xs : List ℕ). print_blank h.blank ++ xs) t.1;
      fields_are = t.2;
      lines_are = lines ∙ skipped ∙ feeds-word (start_word h) t.0 none;
    }

-- the first 65 fields of a head, and an empty line
abbrev pub cut_head : RequestHead → RequestHead
cut_head h = record h { fields = take 65 h.fields; last = lf }

cut_reads : (h : RequestHead) → IsRequestHead h
    → ReadsRequest
    ((print_blank h.blank ++ (start_word h ++ 10 ∷ flat_map print_field (take 65 h.fields))) ++
    print_end lf) (cut_head h) []
cut_reads h is = (
  record {
    method = is.method;
    target = is.target;
    target_text = is.target_text;
    minor = is.minor;
    fields = All-take IsField 65 h.fields is.fields;
  },
  regroup (print_blank h.blank) (start_word h) (flat_map print_field (take 65 h.fields))
      ∙ sym (request_lines (cut_head h) []),
)
  where
    regroup : (a b c : List ℕ) → (a ++ (b ++ 10 ∷ c)) ++ 10 ∷ [] ≡ a ++ (b ++ 10 ∷ (c ++ 10 ∷ []))
    regroup a b c = simp append_assoc

-- of bytes that begin a head, 66 lines hold 65 whole header lines, unless they hold the head
pub lines_exceed :
    (bytes more : List ℕ) (h : RequestHead) → HasNoRequest bytes → ReadsRequest (bytes ++ more) h []
    → line_limit ≤ lines_behind bytes → RequestExceeds field_limit bytes
lines_exceed bytes more h none reads many =
    let start = start_first h bytes more reads (omega arith) in
    go start (section_lines 65 h.fields h.last start.text more reads.0.fields start.fields_are
    (omega (arith, start.lines_are)))
  where
    go : (s : HoldsStart h bytes more)
        → HoldsLines 65 h.fields s.text ⊎
        ((behind : List ℕ) × (s.text ≡ (flat_map print_field h.fields ++ print_end h.last) ++
        behind))
        → RequestExceeds field_limit bytes
    go s (inl lines) = (
      print_blank h.blank ++ (start_word h ++ 10 ∷ flat_map print_field (take 65 h.fields)),
      lines.behind,
      s.bytes_are ∙ ap (λ (xs : List ℕ). print_blank h.blank ++ (start_word h ++ 10 ∷ xs))
          lines.text_is
          ∙ regroup (print_blank h.blank) (start_word h) (flat_map print_field (take 65 h.fields))
          lines.behind,
      cut_head h,
      cut_reads h reads.0,
      omega (arith, length-take-le 65 h.fields lines.enough),
    )
      where
        regroup : (a b c d : List ℕ) → a ++ (b ++ 10 ∷ (c ++ d)) ≡ (a ++ (b ++ 10 ∷ c)) ++ d
        regroup a b c d = simp append_assoc
    go s (inr whole) = absurd (none h whole.0 (
      reads.0,
      s.bytes_are ∙ ap (λ (xs : List ℕ). print_blank h.blank ++ (start_word h ++ 10 ∷ xs)) whole.1
          ∙ regroup (print_blank h.blank) (start_word h) (flat_map print_field h.fields)
          (print_end h.last) whole.0
          ∙ sym (request_lines h whole.0),
    ))
      where
        regroup :
            (a b c d e : List ℕ) →
            a ++ (b ++ 10 ∷ ((c ++ d) ++ e)) ≡ a ++ (b ++ 10 ∷ (c ++ (d ++ e)))
        regroup a b c d e = simp append_assoc

-- a front with 66 lines holds the head that it begins, or that head has 65 fields
pub whole_or_many :
    (front more : List ℕ) (h : RequestHead) → ReadsRequest (front ++ more) h [] →
    line_limit ≤ lines_behind front
    → (field_limit < length h.fields) ⊎ ((behind : List ℕ) × (front ≡ print_request h ++ behind))
whole_or_many front more h reads many =
    let start = start_first h front more reads (omega arith) in
    go start (section_lines 65 h.fields h.last start.text more reads.0.fields start.fields_are
    (omega (arith, start.lines_are)))
  where
    go : (s : HoldsStart h front more)
        → HoldsLines 65 h.fields s.text ⊎
        ((behind : List ℕ) × (s.text ≡ (flat_map print_field h.fields ++ print_end h.last) ++
        behind))
        → (field_limit < length h.fields) ⊎
        ((behind : List ℕ) × (front ≡ print_request h ++ behind))
    go s (inl lines) = inl (omega (arith, lines.enough))
    go s (inr whole) = inr (
      whole.0,
      s.bytes_are ∙ ap (λ (xs : List ℕ). print_blank h.blank ++ (start_word h ++ 10 ∷ xs)) whole.1
          ∙ regroup (print_blank h.blank) (start_word h) (flat_map print_field h.fields)
          (print_end h.last) whole.0
          ∙ sym (request_lines h whole.0),
    )
      where
        regroup :
            (a b c d e : List ℕ) →
            a ++ (b ++ 10 ∷ ((c ++ d) ++ e)) ≡ a ++ (b ++ 10 ∷ (c ++ (d ++ e)))
        regroup a b c d e = simp append_assoc

-- bytes that end in a target have no line behind the empty ones
pub target_lines : (bytes : List ℕ) → EndsInTarget bytes → lines_behind bytes ≡ 0
target_lines bytes (blank, method, target, is_token, is_uri, bytes_are) =
    ap lines_behind (bytes_are ∙ append_assoc (print_blank blank) method (32 ∷ target))
    ∙ ap feeds (skip_blank blank (method ++ 32 ∷ target))
    ∙ ap feeds (skip_newlines-Stops _ (Stops_token method _ is_token.0 is_token.1)) ∙ word
  where
    word : feeds (method ++ 32 ∷ target) ≡ 0
    word =
        let second = feeds-AllPass is_uri_byte refl target is_uri in
        let first = feeds-AllPass is_token_byte token_no_feed method is_token.1 in
        omega (arith, first, second, feeds-append method (32 ∷ target))

pub open_exceeds :
    (bytes : List ℕ) → HasNoRequest bytes → MayBecomeRequest bytes → line_limit ≤ lines_behind bytes
    → RequestExceeds field_limit bytes
open_exceeds bytes none (inl (more, h, reads)) many = lines_exceed bytes more h none reads many
open_exceeds bytes none (inr ends) many = absurd (omega (arith, target_lines bytes ends))

-- ---- the 66th line

pub few_lines :
    (bytes : List ℕ) → lines_behind bytes < line_limit → RequestExceeds field_limit bytes → ⊥
few_lines bytes few exceeds = omega (arith, exceeds_lines bytes exceeds)

cut_never_at :
    (bytes : List ℕ) (end : ℕ) → IsCut bytes end → NeverHasRequest (take end bytes) →
    RequestExceeds field_limit bytes → ⊥
cut_never_at bytes end cut never (front, rest, bytes_are, h, reads, over) =
    let front_is : take (length front) bytes ≡ front =
    ap (take (length front)) bytes_are ∙ take-append_seam front rest in
    let many : line_limit ≤ lines_behind (take (length front) bytes) =
    subst (λ (b : List ℕ). line_limit ≤ lines_behind b) (sym front_is)
    (many_lines front h reads over) in
    let longer : end ≤ length front = cut.first (length front) many in
    let begun : take end bytes ≡ take end front = ap (take end) bytes_are ∙
    take-append-le end front rest longer in
    let split : take end bytes ++ (drop end front ++ print_end lf) ≡ front ++ print_end lf =
    ap (λ (b : List ℕ). b ++ (drop end front ++ print_end lf)) begun
    ∙ sym (append_assoc (take end front) (drop end front) (print_end lf))
    ∙ ap (λ (b : List ℕ). b ++ print_end lf) (take-append-drop end front) in
    never (drop end front ++ print_end lf) h [] (subst (λ (b : List ℕ). ReadsRequest b h [])
    (sym split) reads)

module _ (bytes front : List ℕ) (end : ℕ) where
  -- what is never a head has none up to its 66th line
  pub cut_whole :
      front ≡ take end bytes → NeverHasRequest bytes →
      (headers : List HeaderSpan) (spans : RequestSpans)
      → IsRequestOf front headers spans → ⊥
  cut_whole is never headers spans (h, at) =
      let whole : ReadsRequest (take end bytes ++ drop end bytes) h (drop spans.len front ++
      drop end bytes) =
      subst (λ (b : List ℕ). ReadsRequest (b ++ drop end bytes) h (drop spans.len front ++
      drop end bytes)) is
      (ReadsRequest-append front h (drop spans.len front) (drop end bytes) at.reads) in
      never [] h (drop spans.len front ++ drop end bytes)
      (subst (λ (b : List ℕ). ReadsRequest b h (drop spans.len front ++ drop end bytes))
      (take-append-drop end bytes ∙ sym (append-nil bytes)) whole)

  pub cut_exceeds :
      front ≡ take end bytes → RequestExceeds field_limit front → RequestExceeds field_limit bytes
  cut_exceeds is exceeds =
      subst (RequestExceeds field_limit) (ap (λ (b : List ℕ). b ++ drop end bytes) is ∙
      take-append-drop end bytes)
      (exceeds-append front (drop end bytes) exceeds)

  pub cut_open :
      IsCut bytes end → front ≡ take end bytes → HasNoRequest front × MayBecomeRequest front →
      RequestExceeds field_limit bytes
  cut_open cut is begins =
      cut_exceeds is (open_exceeds front begins.0 begins.1
      (subst (λ (b : List ℕ). line_limit ≤ lines_behind b) (sym is) cut.enough))

  -- what shows at the 66th line that no head comes, has no 65th header line
  pub cut_never :
      IsCut bytes end → front ≡ take end bytes → NeverHasRequest front →
      RequestExceeds field_limit bytes → ⊥
  cut_never cut is never = cut_never_at bytes end cut (subst NeverHasRequest is never)
