-- One byte more: from place to place.
use Rattle.std.proofs.Common.{◌≡◌, ℕ, ◌+◌, ◌<◌, ◌≤◌, true, Bool, List, [], ◌∷◌, ◌++◌, length, take}
use Rattle.std.proofs.Common.{drop, get_or, refl, sym, ap, ◌∙◌, subst, arith, append_assoc}
use Rattle.std.proofs.Common.{append-nil, length-append, IsUtf8}
use Rattle.std.proofs.Math.Seq.{drop-append_seam}
use Rattle.std.proofs.lemmas.List.{take_more}
use Rattle.std.proofs.lemmas.List.Elements.{All-nil, All-push}
use Rattle.httparse.specs.Grammar.{LineEnd, crlf, lf, print_end, print_blank, IsField, IsToken}
use Rattle.httparse.specs.Grammar.{AllPass, is_token_byte, is_uri_byte, is_value_byte}
use Rattle.httparse.specs.Pieces.{Piece, Then, BlankLines}
use Rattle.httparse.proofs.PieceLemmas.{front-append, Method_deterministic, Target_deterministic}
use Rattle.httparse.proofs.PieceLemmas.{Version_deterministic, Newline_deterministic}
use Rattle.httparse.proofs.PieceLemmas.{FieldLines-append, FieldLines_push}
use Rattle.httparse.proofs.ReadLemmas.{blank_more, FieldLine_done}
use Rattle.pl_scan.specs.declared.place.Place.{Place}
use Rattle.pl_scan.specs.declared.place.Place.TheVariants.{EmptyLines, EmptyLineReturn, Method}
use Rattle.pl_scan.specs.declared.place.Place.TheVariants.{Target, Version, StartLine}
use Rattle.pl_scan.specs.declared.place.Place.TheVariants.{StartLineReturn, Lines, LastReturn, Name}
use Rattle.pl_scan.specs.declared.place.Place.TheVariants.{Value, ValueReturn}
use Rattle.pl_scan.specs.Places.{EndsAt, IsBehindLines, Start, ToTarget, ToVersion, ToStartEnd}
use Rattle.pl_scan.specs.Places.{ToLine, version}
use Rattle.pl_scan.specs.Scans.{Leads}

pub byte_is : (from to : Place) (b c : ℕ) → b ≡ c → Leads from c to → Leads from b to
byte_is from to b c is leads = subst (λ (v : ℕ). Leads from v to) (sym is) leads

-- ---- more bytes behind a piece

pub record Extends {A : Type 0} (G : Piece A) : Type 0 where
  pub append : (a : A) (text rest more : List ℕ)
      → G a text rest → G a (text ++ more) (rest ++ more)

then : {A B : Type 0} {G : Piece A} {H : Piece B} → Extends G → Extends H → Extends (Then G H)
then g h = record {
  append = λ a text rest more x.
      (x.0 ++ more, g.append a.0 text x.0 more x.1, h.append a.1 x.0 rest more x.2);
}

pub blank : Extends BlankLines
blank = record { append = λ a text rest more x. front-append text (print_blank a) rest more x }

pub to_target : Extends ToTarget
to_target = then blank (record { append = Method_deterministic.append })

pub to_version : Extends ToVersion
to_version = then to_target (record { append = Target_deterministic.append })

pub to_start_end : Extends ToStartEnd
to_start_end = then to_version (record { append = Version_deterministic.append })

pub to_line : Extends ToLine
to_line =
    then (then to_start_end (record { append = Newline_deterministic.append }))
    (record { append = FieldLines-append })

lines_more : (n : ℕ) (rest bytes more : List ℕ) → IsBehindLines n rest bytes
    → IsBehindLines n (rest ++ more) (bytes ++ more)
lines_more n rest bytes more x = (x.0, to_line.append x.0 bytes rest more x.1, x.2, x.3)

-- ---- words

no_bytes : (test : ℕ → Bool) → AllPass test []
no_bytes test = All-nil (λ v. test v ≡ true)

more_bytes : (test : ℕ → Bool) (word : List ℕ) (b : ℕ) → AllPass test word → test b ≡ true
    → AllPass test (word ++ b ∷ [])
more_bytes test word b all passes = All-push (λ v. test v ≡ true) word b all passes

pub one_byte : (test : ℕ → Bool) (b : ℕ) → test b ≡ true → AllPass test (b ∷ [])
one_byte test b passes = more_bytes test [] b (no_bytes test) passes

one_token : (b : ℕ) → is_token_byte b ≡ true → IsToken (b ∷ [])
one_token b passes = (omega arith, one_byte is_token_byte b passes)

more_token : (word : List ℕ) (b : ℕ) → IsToken word → is_token_byte b ≡ true
    → IsToken (word ++ b ∷ [])
more_token word b token passes =
    (omega (arith, length-append word (b ∷ [])), more_bytes is_token_byte word b token.1 passes)

-- ---- the empty lines and the method

pub empty_line : Leads EmptyLines 10 EmptyLines
empty_line bytes x =
    (x.0 ++ lf ∷ [], blank_more x.0 lf _ _ [] (blank.append x.0 bytes [] (10 ∷ []) x.1) refl)

pub empty_return : Leads EmptyLines 13 EmptyLineReturn
empty_return bytes x = (x.0, blank.append x.0 bytes [] (13 ∷ []) x.1)

pub empty_returned : Leads EmptyLineReturn 10 EmptyLines
empty_returned bytes x =
    (x.0 ++ crlf ∷ [], blank_more x.0 crlf _ _ [] (blank.append x.0 bytes _ (10 ∷ []) x.1) refl)

pub method_begun : (b : ℕ) → is_token_byte b ≡ true → Leads EmptyLines b Method
method_begun b token bytes x =
    (b ∷ [], one_token b token, (x.0, blank.append x.0 bytes [] (b ∷ []) x.1))

pub method_more : (b : ℕ) → is_token_byte b ≡ true → Leads Method b Method
method_more b token bytes x = (
  x.0 ++ b ∷ [],
  more_token x.0 b x.1 token,
  (x.2.0, blank.append x.2.0 bytes x.0 (b ∷ []) x.2.1),
)

-- ---- the target

pub method_ends : (bytes : List ℕ) → EndsAt Method bytes
    → EndsAt (Target (length bytes + 1)) (bytes ++ 32 ∷ [])
method_ends bytes x = (
  [],
  no_bytes is_uri_byte,
  omega (arith, length-append bytes (32 ∷ [])),
  ((x.2.0, x.0), (_, blank.append x.2.0 bytes x.0 (32 ∷ []) x.2.1, (x.1.0, x.1.1, refl))),
)

pub target_more : (b start : ℕ) → is_uri_byte b ≡ true → Leads (Target start) b (Target start)
target_more b start passes bytes x = (
  x.0 ++ b ∷ [],
  more_bytes is_uri_byte x.0 b x.1 passes,
  omega (arith, length-append x.0 (b ∷ []), length-append bytes (b ∷ []), x.2),
  (x.3.0, to_target.append x.3.0 bytes x.0 (b ∷ []) x.3.1),
)

behind : (front word bytes : List ℕ) (start : ℕ) → bytes ≡ front ++ word
    → start + length word ≡ length bytes → drop start bytes ≡ word
behind front word bytes start is len =
    let whole : length bytes ≡ length front + length word =
    ap length is ∙ length-append front word in
    let at : start ≡ length front = omega arith in
    ap (λ (n : ℕ). drop n bytes) at ∙ ap (drop (length front)) is ∙ drop-append_seam front word

target_is : (bytes : List ℕ) (start : ℕ) (x : EndsAt (Target start) bytes)
    → drop start bytes ≡ x.0
target_is bytes start x =
    behind (print_blank x.3.0.0 ++ (x.3.0.1 ++ 32 ∷ [])) x.0 bytes start
    (x.3.1.1 ∙ ap (λ (t : List ℕ). print_blank x.3.0.0 ++ t) x.3.1.2.2
    ∙ regroup (print_blank x.3.0.0) x.3.0.1 x.0) x.2
  where
    regroup : (a b c : List ℕ) → a ++ (b ++ 32 ∷ c) ≡ (a ++ (b ++ 32 ∷ [])) ++ c
    regroup a b c = simp append_assoc

pub target_ends : (bytes : List ℕ) (start : ℕ) → EndsAt (Target start) bytes
    → (0 < length (drop start bytes)) × IsUtf8 (drop start bytes)
    → EndsAt (Version 0) (bytes ++ 32 ∷ [])
target_ends bytes start x text =
    let said = subst (λ (t : List ℕ). (0 < length t) × IsUtf8 t) (target_is bytes start x) text in (
      omega arith,
      (
        (x.3.0, x.0),
        (_, to_target.append x.3.0 bytes x.0 (32 ∷ []) x.3.1, ((said.0, x.1, refl), said.1)),
      ),
    )

-- ---- the version

pub version_more : (count b : ℕ) → count < 7 → b ≡ get_or version count 0
    → Leads (Version count) b (Version (count + 1))
version_more count b below is bytes x = (
  omega arith,
  (
    x.1.0,
    subst (λ (rest : List ℕ). ToVersion x.1.0 (bytes ++ b ∷ []) rest)
        (ap (λ (c : ℕ). take count version ++ c ∷ []) is ∙ sym (take_more version count 0 below))
        (to_version.append x.1.0 bytes (take count version) (b ∷ []) x.1.1),
  ),
)

pub version_ends : (minor : ℕ) → minor ≤ 1 → Leads (Version 7) (48 + minor) StartLine
version_ends minor small bytes x = (
  (x.1.0, minor),
  (_, to_version.append x.1.0 bytes version ((48 + minor) ∷ []) x.1.1, (small, refl)),
)

-- ---- the start line

pub start_feed : Leads StartLine 10 (Lines 0)
start_feed bytes x = (
  ((x.0, lf), []),
  ([], (_, to_start_end.append x.0 bytes [] (10 ∷ []) x.1, refl), (All-nil IsField, refl)),
  refl,
  omega arith,
)

pub start_return : Leads StartLine 13 StartLineReturn
start_return bytes x = (x.0, to_start_end.append x.0 bytes [] (13 ∷ []) x.1)

pub start_returned : Leads StartLineReturn 10 (Lines 0)
start_returned bytes x = (
  ((x.0, crlf), []),
  ([], (_, to_start_end.append x.0 bytes _ (10 ∷ []) x.1, refl), (All-nil IsField, refl)),
  refl,
  omega arith,
)

-- ---- the header lines

pub last_return : (n : ℕ) → Leads (Lines n) 13 (LastReturn n)
last_return n bytes x = lines_more n [] bytes (13 ∷ []) x

pub name_begun : (b n : ℕ) → is_token_byte b ≡ true → Leads (Lines n) b (Name n)
name_begun b n token bytes x = (b ∷ [], one_token b token, lines_more n [] bytes (b ∷ []) x)

pub name_more : (b n : ℕ) → is_token_byte b ≡ true → Leads (Name n) b (Name n)
name_more b n token bytes x =
    (x.0 ++ b ∷ [], more_token x.0 b x.1 token, lines_more n x.0 bytes (b ∷ []) x.2)

pub name_ends : (n : ℕ) → Leads (Name n) 58 (Value n)
name_ends n bytes x =
    (x.0, [], x.1, no_bytes is_value_byte, lines_more n x.0 bytes (58 ∷ []) x.2)

-- more of a line that is begun
line_more : (n : ℕ) (bytes name raw more : List ℕ) → IsBehindLines n (name ++ 58 ∷ raw) bytes
    → IsBehindLines n (name ++ 58 ∷ (raw ++ more)) (bytes ++ more)
line_more n bytes name raw more x =
    subst (λ (rest : List ℕ). IsBehindLines n rest (bytes ++ more))
    (append_assoc name (58 ∷ raw) more) (lines_more n _ bytes more x)

pub value_more : (b n : ℕ) → is_value_byte b ≡ true → Leads (Value n) b (Value n)
value_more b n passes bytes x = (
  x.0,
  x.1 ++ b ∷ [],
  x.2,
  more_bytes is_value_byte x.1 b x.3 passes,
  line_more n bytes x.0 x.1 (b ∷ []) x.4,
)

pub value_return : (n : ℕ) → Leads (Value n) 13 (ValueReturn n)
value_return n bytes x = (x.0, x.1, x.2, x.3, line_more n bytes x.0 x.1 (13 ∷ []) x.4)

-- one field line more
pub with_line : (start : Start) (bytes name raw : List ℕ) (end : LineEnd) → IsToken name
    → AllPass is_value_byte raw → ToLine start bytes (name ++ 58 ∷ (raw ++ print_end end))
    → ToLine (start.0, start.1 ++ record { name = name; raw = raw; end = end } ∷ []) bytes []
with_line start bytes name raw end token passes x = (
  x.0,
  x.1,
  FieldLines_push start.1 _ x.0 _ [] x.2
      (FieldLine_done name raw end _ _ [] (token.0, token.1, refl)
      (passes, ap (λ (t : List ℕ). raw ++ t) (sym (append-nil (print_end end))))),
)

line_ends : (n : ℕ) (bytes name raw : List ℕ) (end : LineEnd) → n < 64 → IsToken name
    → AllPass is_value_byte raw
    → IsBehindLines n (name ++ 58 ∷ (raw ++ print_end end)) bytes
    → IsBehindLines (n + 1) [] bytes
line_ends n bytes name raw end few token passes x = (
  _,
  with_line x.0 bytes name raw end token passes x.1,
  length-append x.0.1 _ ∙ ap (λ (m : ℕ). m + 1) x.2,
  omega arith,
)

pub value_feed : (n : ℕ) → n < 64 → Leads (Value n) 10 (Lines (n + 1))
value_feed n few bytes x =
    line_ends n _ x.0 x.1 lf few x.2 x.3 (line_more n bytes x.0 x.1 (10 ∷ []) x.4)

pub value_returned : (n : ℕ) → n < 64 → Leads (ValueReturn n) 10 (Lines (n + 1))
value_returned n few bytes x =
    line_ends n _ x.0 x.1 crlf few x.2 x.3
    (subst (λ (t : List ℕ). IsBehindLines n (x.0 ++ 58 ∷ t) (bytes ++ 10 ∷ []))
    (append_assoc x.1 (13 ∷ []) (10 ∷ [])) (line_more n bytes x.0 (x.1 ++ 13 ∷ []) (10 ∷ []) x.4))
