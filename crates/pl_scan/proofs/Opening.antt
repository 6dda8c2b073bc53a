-- Bytes that end at a place of a head begin one.
use Rattle.std.proofs.Common.{◌≡◌, ℕ, ◌+◌, ◌<◌, ◌≤◌, inl, inr, true, List, [], ◌∷◌, ◌++◌, length}
use Rattle.std.proofs.Common.{take, drop, sym, ap, ◌∙◌, subst, arith, append_assoc, append-nil}
use Rattle.std.proofs.Common.{length-append, IsUtf8, refl}
use Rattle.std.proofs.lemmas.List.{take-append-drop, take_all}
use Rattle.std.proofs.lemmas.Str.{IsUtf8-from_ascii}
use Rattle.std.proofs.lemmas.Str.Ascii.{IsAscii-cons, IsAscii-nil}
use Rattle.std.specs.List.{flat_map}
use Rattle.httparse.specs.Grammar.{LineEnd, crlf, lf, print_end, print_blank, print_field}
use Rattle.httparse.specs.Grammar.{print_request, AllPass, IsToken, RequestHead, ReadsRequest}
use Rattle.httparse.specs.Grammar.{HasNoRequest, EndsInTarget, is_token_byte, is_uri_byte}
use Rattle.httparse.specs.Grammar.{is_value_byte}
use Rattle.httparse.proofs.GrammarLemmas.{print_request-append, ReadsRequest-append, request_unique}
use Rattle.pl_heads.specs.Heads.{IsOpen, IsPartialHead, below_limit}
use Rattle.pl_heads.specs.Lines.{feeds, skip_newlines, lines_behind, line_limit}
use Rattle.pl_heads.proofs.LineLemmas.{feeds-append, skip_newlines-append, lines_behind-append}
use Rattle.pl_heads.proofs.ManyLines.{few_lines, lines_behind-request, target_lines}
use Rattle.pl_scan.specs.declared.place.Place.{Place}
use Rattle.pl_scan.specs.declared.place.Place.TheVariants.{EmptyLines, EmptyLineReturn, Method}
use Rattle.pl_scan.specs.declared.place.Place.TheVariants.{Target, Version, StartLine}
use Rattle.pl_scan.specs.declared.place.Place.TheVariants.{StartLineReturn, Lines, LastReturn, Name}
use Rattle.pl_scan.specs.declared.place.Place.TheVariants.{Value, ValueReturn}
use Rattle.pl_scan.specs.declared.scanner.Scanner.{Scanner}
use Rattle.pl_scan.specs.Places.{EndsAt, IsBehindLines, Start, ToLine, version}
use Rattle.pl_scan.specs.Scans.{Follows}
use Rattle.pl_scan.proofs.Leading.{blank, to_version, to_line, one_byte, with_line}
use Rattle.pl_scan.proofs.Leading as lead

-- some bytes can follow that make the bytes a head, with fewer fields than 64 and their lines
pub record Opens (bytes : List ℕ) : Type 0 where
  pub more : List ℕ
  pub head : RequestHead
  pub reads : ReadsRequest (bytes ++ more) head []
  pub some : 0 < length more
  pub few : length head.fields < 64 + feeds more

-- what begins bytes that begin a head does too
less : (bytes mid : List ℕ) → Opens (bytes ++ mid) → Opens bytes
less bytes mid o = record {
  more = mid ++ o.more;
  head = o.head;
  reads = subst (λ (b : List ℕ). ReadsRequest b o.head []) (append_assoc bytes mid o.more) o.reads;
  some = omega (arith, length-append mid o.more, o.some);
  few = omega (arith, feeds-append mid o.more, o.few);
}

-- ---- what more bytes tell of the bytes

none_whole : (bytes : List ℕ) → Opens bytes → HasNoRequest bytes
none_whole bytes o h rest reads =
    let same = request_unique (bytes ++ o.more) h o.head (rest ++ o.more) []
    (ReadsRequest-append bytes h rest o.more reads) o.reads in
    let nothing : length (rest ++ o.more) ≡ 0 = ap length same.1 in
    omega (arith, length-append rest o.more, nothing, o.some)

-- line ends in more bytes count, unless only line ends stand before them
few_whole : (bytes : List ℕ) → Opens bytes → lines_behind bytes < line_limit
few_whole bytes o = elim (skip_newlines-append bytes o.more) [
  | inl none ↦ let zero : lines_behind bytes ≡ 0 = ap feeds none.0 in omega (arith, zero)
  | inr some ↦
      let all : lines_behind (bytes ++ o.more) ≡ length o.head.fields + 2 =
      ap lines_behind (o.reads.1 ∙ append-nil _) ∙ lines_behind-request o.head o.reads.0 in
      let sum : lines_behind (bytes ++ o.more) ≡ lines_behind bytes + feeds o.more =
      ap feeds some ∙ feeds-append (skip_newlines bytes) o.more in
      omega (arith, all, sum, o.few)
]

opens_open : (bytes : List ℕ) → Opens bytes → IsOpen bytes
opens_open bytes o = record {
  none = none_whole bytes o;
  unfinished = inl (o.more, o.head, o.reads);
  few = few_lines bytes (few_whole bytes o);
}

-- ---- the places

-- the header lines, and what is there of the last line's end
section_reads : (start : Start) (bytes rest more : List ℕ) (last : LineEnd)
    → ToLine start bytes rest → rest ++ more ≡ print_end last
    → (head : RequestHead) × ReadsRequest (bytes ++ more) head [] × (head.fields ≡ start.1)
section_reads start bytes rest more last x ends =
    let y = to_line.append start bytes rest more x in
    let line = y.1 in
    let digit = line.1 in
    let target = digit.1 in
    let method = target.1 in
    let section : y.0 ≡ (flat_map print_field start.1 ++ print_end last) ++ [] =
    y.2.1 ∙ ap (λ (t : List ℕ). flat_map print_field start.1 ++ t) ends ∙ sym (append-nil _) in (
      record {
        blank = start.0.0.0.0.0;
        method = start.0.0.0.0.1;
        target = start.0.0.0.1;
        minor = start.0.0.1;
        line_end = start.0.1;
        fields = start.1;
        last = last;
      },
      (
        record {
          method = (method.2.0, method.2.1);
          target = (target.2.0.0, target.2.0.1);
          target_text = target.2.1;
          minor = digit.2.0;
          fields = y.2.0;
        },
        rw print_request-append
            (cc (method.1, method.2.2, target.2.0.2, digit.2.1, line.2, section)),
      ),
      refl,
    )

section_opens : (n : ℕ) (bytes rest : List ℕ) (last : LineEnd) → IsBehindLines n rest bytes
    → rest ++ 10 ∷ [] ≡ print_end last → Opens bytes
section_opens n bytes rest last x ends =
    let r = section_reads x.0 bytes rest (10 ∷ []) last x.1 ends in
    let count : length r.0.fields ≡ n = ap length r.2 ∙ x.2 in
    record {
      more = 10 ∷ [];
      head = r.0;
      reads = r.1;
      some = omega arith;
      few = omega (arith, count, x.3);
    }

lines_open : (n : ℕ) (bytes : List ℕ) → EndsAt (Lines n) bytes → Opens bytes
lines_open n bytes x = section_opens n bytes [] lf x refl

-- what a line feed makes one header line more, and another one the head
line_opens : (n : ℕ) (bytes rest name raw : List ℕ) (end : LineEnd) → IsToken name
    → AllPass is_value_byte raw → IsBehindLines n rest bytes
    → rest ++ 10 ∷ [] ≡ name ++ 58 ∷ (raw ++ print_end end) → Opens bytes
line_opens n bytes rest name raw end token passes x is =
    let fed = to_line.append x.0 bytes rest (10 ∷ []) x.1 in
    let line = with_line x.0 (bytes ++ 10 ∷ []) name raw end token passes
    (subst (λ (t : List ℕ). ToLine x.0 (bytes ++ 10 ∷ []) t) is fed) in
    let r = section_reads _ (bytes ++ 10 ∷ []) [] (10 ∷ []) lf line refl in
    let count : length r.0.fields ≡ n + 1 =
    ap length r.2 ∙ length-append x.0.1 _ ∙ ap (λ (m : ℕ). m + 1) x.2 in
    record {
      more = 10 ∷ 10 ∷ [];
      head = r.0;
      reads =
          subst (λ (b : List ℕ). ReadsRequest b r.0 [])
          (append_assoc bytes (10 ∷ []) (10 ∷ [])) r.1;
      some = omega arith;
      few = omega (arith, count, x.3);
    }

value_opens : (n : ℕ) (bytes : List ℕ) → EndsAt (Value n) bytes → Opens bytes
value_opens n bytes x =
    line_opens n bytes _ x.0 x.1 lf x.2 x.3 x.4 (append_assoc x.0 (58 ∷ x.1) (10 ∷ []))

value_return_opens : (n : ℕ) (bytes : List ℕ) → EndsAt (ValueReturn n) bytes → Opens bytes
value_return_opens n bytes x = line_opens n bytes _ x.0 x.1 crlf x.2 x.3 x.4 (regroup x.0 x.1)
  where
    regroup : (a b : List ℕ)
        → (a ++ 58 ∷ (b ++ 13 ∷ [])) ++ 10 ∷ [] ≡ a ++ 58 ∷ (b ++ 13 ∷ 10 ∷ [])
    regroup a b = simp append_assoc

start_opens : (bytes : List ℕ) → EndsAt StartLine bytes → Opens bytes
start_opens bytes x = less bytes _ (lines_open 0 _ (lead.start_feed bytes x))

version_opens : (count : ℕ) (bytes : List ℕ) → EndsAt (Version count) bytes → Opens bytes
version_opens count bytes x =
    let more = drop count version ++ 48 ∷ [] in
    let whole : take count version ++ more ≡ version ++ 48 ∷ [] =
    sym (append_assoc (take count version) (drop count version) (48 ∷ []))
    ∙ ap (λ (t : List ℕ). t ++ 48 ∷ []) (take-append-drop count version) in
    less bytes more (start_opens (bytes ++ more) (
      (x.1.0, 0),
      (_, to_version.append x.1.0 bytes (take count version) more x.1.1, (omega arith, whole)),
    ))

slash_text : IsUtf8 (47 ∷ [])
slash_text = IsUtf8-from_ascii _ (IsAscii-cons 47 [] (omega arith) IsAscii-nil)

-- the shortest target is a slash
method_opens : (bytes : List ℕ) → EndsAt Method bytes → Opens bytes
method_opens bytes x =
    let more : List ℕ = 32 ∷ 47 ∷ 32 ∷ [] in
    less bytes more (version_opens 0 (bytes ++ more) (
      omega arith,
      (
        ((x.2.0, x.0), 47 ∷ []),
        (
          47 ∷ 32 ∷ [],
          (_, blank.append x.2.0 bytes x.0 more x.2.1, (x.1.0, x.1.1, refl)),
          ((omega arith, one_byte is_uri_byte 47 refl, refl), slash_text),
        ),
      ),
    ))

letter : is_token_byte 65 ≡ true
unfolding is_token_byte
letter = refl

empty_opens : (bytes : List ℕ) → EndsAt EmptyLines bytes → Opens bytes
empty_opens bytes x = less bytes _ (method_opens _ (lead.method_begun 65 letter bytes x))

-- a target waits for its end: no line is whole
target_open : (start : ℕ) (bytes : List ℕ) → EndsAt (Target start) bytes → IsOpen bytes
target_open start bytes x =
    let method = x.3.1.2 in
    let same : bytes ≡ print_blank x.3.0.0 ++ x.3.0.1 ++ 32 ∷ x.0 =
    x.3.1.1 ∙ ap (λ (t : List ℕ). print_blank x.3.0.0 ++ t) method.2
    ∙ sym (append_assoc (print_blank x.3.0.0) x.3.0.1 (32 ∷ x.0)) in
    let ends : EndsInTarget bytes =
    (x.3.0.0, x.3.0.1, x.0, (method.0, method.1), x.1, same) in
    let lines = target_lines bytes ends in
    record {
      none = λ h rest reads.
          let most : lines_behind (print_request h) ≤ lines_behind bytes =
          subst (λ (b : List ℕ). lines_behind (print_request h) ≤ lines_behind b)
          (sym reads.1) (lines_behind-append (print_request h) rest) in
          omega (arith, most, lines, lines_behind-request h reads.0);
      unfinished = inr ends;
      few = few_lines bytes (omega (arith, lines));
    }

ends_open : (at : Place) (bytes : List ℕ) → EndsAt at bytes → IsOpen bytes
ends_open EmptyLines bytes x = opens_open bytes (empty_opens bytes x)
ends_open EmptyLineReturn bytes x =
    opens_open bytes (less bytes _ (empty_opens _ (lead.empty_returned bytes x)))
ends_open Method bytes x = opens_open bytes (method_opens bytes x)
ends_open (Target start) bytes x = target_open start bytes x
ends_open (Version count) bytes x = opens_open bytes (version_opens count bytes x)
ends_open StartLine bytes x = opens_open bytes (start_opens bytes x)
ends_open StartLineReturn bytes x =
    opens_open bytes (less bytes _ (lines_open 0 _ (lead.start_returned bytes x)))
ends_open (Lines n) bytes x = opens_open bytes (lines_open n bytes x)
ends_open (LastReturn n) bytes x = opens_open bytes (section_opens n bytes _ crlf x refl)
ends_open (Name n) bytes x =
    opens_open bytes (less bytes _ (value_opens n _ (lead.name_ends n bytes x)))
ends_open (Value n) bytes x = opens_open bytes (value_opens n bytes x)
ends_open (ValueReturn n) bytes x = opens_open bytes (value_return_opens n bytes x)

-- A scanner that has seen all of at most 16,383 bytes has seen the beginning of a head.
pub followed : (scanner : Scanner) (bytes : List ℕ) → Follows scanner bytes
    → length bytes ≤ scanner.seen → length bytes ≤ below_limit → IsPartialHead bytes
followed scanner bytes follows all short = record {
  open_is =
      ends_open scanner.place bytes
      (subst (EndsAt scanner.place) (take_all scanner.seen bytes all) follows.ends);
  short = short;
}
