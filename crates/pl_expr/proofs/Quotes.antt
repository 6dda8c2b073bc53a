-- Quoted texts.
use Rattle.std.proofs.Common.{◌≡◌, ℕ, zero, suc, ◌+◌, ◌<◌, Bool, true, false, not, ◌==◌, Option}
use Rattle.std.proofs.Common.{Some, None, List, [], ◌∷◌, ◌++◌, length, get_or, drop, take, map}
use Rattle.std.proofs.Common.{if◌then◌else◌, refl, ap, sym, ◌∙◌, append_assoc, arith}
use Rattle.std.specs.List.{prefix_len, list_all}
use Rattle.std.proofs.lemmas.List.{drop_more, append-nil, take_all, take_more}
use Rattle.std.proofs.lemmas.List.{take-append-drop, map-append}
use Rattle.std.proofs.lemmas.List.Sums.{prefix_len_stops}
use Rattle.std.proofs.lemmas.Bool.{and_parts, false≢true, ne_eqb}
use Rattle.std.proofs.lemmas.Bool.Decides.{nat_tests}
use Rattle.pl_expr.specs.Grammar.{is_plain, unquoted, with_byte}
use Rattle.pl_reading.specs.Bytes.{begins_with}
use Rattle.pl_expr.specs.declared.expr.Expr.{Expr}
use Rattle.pl_expr.specs.Trees.{quoted, listed, printed}

-- ---- reading up to the closing quote

abbrev pub with_front : List ℕ → Option (List ℕ × List ℕ) → Option (List ℕ × List ℕ)
with_front front None = None
with_front front (Some read) = Some (front ++ read.0, read.1)

with_front_byte :
    (front : List ℕ) (byte : ℕ) (read : Option (List ℕ × List ℕ)) →
    with_front front (with_byte byte read) ≡ with_front (front ++ byte ∷ []) read
with_front_byte front byte None = refl
with_front_byte front byte (Some read) = ap (λ text. Some (text, read.1))
    (sym (append_assoc front (byte ∷ []) read.0))

with_front_front :
    (first second : List ℕ) (read : Option (List ℕ × List ℕ)) →
    with_front first (with_front second read) ≡ with_front (first ++ second) read
with_front_front first second None = refl
with_front_front first second (Some read) = ap (λ text. Some (text, read.1))
    (sym (append_assoc first second read.0))

with_byte_front :
    (byte : ℕ) (front : List ℕ) (read : Option (List ℕ × List ℕ)) →
    with_byte byte (with_front front read) ≡ with_front (byte ∷ front) read
with_byte_front byte front None = refl
with_byte_front byte front (Some read) = refl

pub unquoted_plain :
    (byte : ℕ) (bytes : List ℕ) → (byte == 39) ≡ false →
    unquoted (byte ∷ bytes) ≡ with_byte byte (unquoted bytes)
unfolding unquoted
unquoted_plain byte [] plain = rw plain refl
unquoted_plain byte (next ∷ bytes) plain = rw plain refl

pub unquoted_end :
    (bytes : List ℕ) → begins_with 39 bytes ≡ false → unquoted (39 ∷ bytes) ≡ Some ([], bytes)
unfolding unquoted
unquoted_end [] ends = refl
unquoted_end (next ∷ bytes) ends = rw ends refl

pub unquoted_double :
    (bytes : List ℕ) → begins_with 39 bytes ≡ true →
    unquoted (39 ∷ bytes) ≡ with_byte 39 (unquoted (drop 1 bytes))
unfolding unquoted
unquoted_double [] doubled = absurd (false≢true doubled)
unquoted_double (next ∷ bytes) doubled = rw doubled refl

unquoted_front :
    (front rest : List ℕ) → list_all is_plain front ≡ true →
    unquoted (front ++ rest) ≡ with_front front (unquoted rest)
unquoted_front [] rest all = by (unquoted rest)
  where
    by : (read : Option (List ℕ × List ℕ)) → read ≡ with_front [] read
    by None = refl
    by (Some read) = refl
unquoted_front (byte ∷ front) rest all =
    let parts = and_parts (is_plain byte) (list_all is_plain front) all in
    let plain : (byte == 39) ≡ false = not_true (byte == 39) parts.0 in
    unquoted_plain byte (front ++ rest) plain ∙
    (ap (with_byte byte) (unquoted_front front rest parts.1) ∙
    with_byte_front byte front (unquoted rest))
  where
    not_true : (b : Bool) → not b ≡ true → b ≡ false
    not_true false e = refl
    not_true true e = absurd (false≢true e)

all_plain : (bytes : List ℕ) → list_all is_plain (take (prefix_len is_plain bytes) bytes) ≡ true
all_plain [] = refl
all_plain (byte ∷ bytes) = by (all_plain bytes) (is_plain byte) refl
  where
    by :
        list_all is_plain (take (prefix_len is_plain bytes) bytes) ≡ true → (b : Bool) →
        is_plain byte ≡ b →
        list_all is_plain (take (prefix_len is_plain (byte ∷ bytes)) (byte ∷ bytes)) ≡ true
    by others true e =
        let n : 1 + prefix_len is_plain bytes ≡ suc (prefix_len is_plain bytes) = omega arith in
        rw e (rw n (rw e others))
    by others false e = rw e refl

-- no quote
pub unquoted_none :
    (bytes : List ℕ) → prefix_len is_plain bytes ≡ length bytes → unquoted bytes ≡ None
unfolding unquoted
unquoted_none bytes e =
    let whole : take (prefix_len is_plain bytes) bytes ≡ bytes = ap (λ n. take n bytes) e ∙
    take_all (length bytes) bytes (omega arith) in
    let plain : list_all is_plain bytes ≡ true = ap (list_all is_plain) (sym whole) ∙
    all_plain bytes in
    ap unquoted (sym (append-nil bytes)) ∙ unquoted_front bytes [] plain

-- the first quote and what stands behind it
quote_at :
    (bytes : List ℕ) → prefix_len is_plain bytes < length bytes →
    bytes ≡ take (prefix_len is_plain bytes) bytes ++ 39 ∷ drop (prefix_len is_plain bytes + 1)
    bytes
quote_at bytes within =
    let n = prefix_len is_plain bytes in
    let stops = prefix_len_stops is_plain bytes 0 within in
    let quote : get_or bytes n 0 ≡ 39 = grind (arith, nat_tests) in
    sym (take-append-drop n bytes) ∙ ap (λ rest. take n bytes ++ rest) (drop_more bytes n 0 within ∙
    ap (λ byte. byte ∷ drop (n + 1) bytes) quote)

pub unquoted_ends :
    (bytes front behind : List ℕ) → prefix_len is_plain bytes < length bytes →
    front ≡ take (prefix_len is_plain bytes) bytes →
    behind ≡ drop (prefix_len is_plain bytes + 1) bytes → begins_with 39 behind ≡ false →
    unquoted bytes ≡ Some (front, behind)
unquoted_ends bytes front behind within front_is behind_is ends =
    let cut : bytes ≡ front ++ 39 ∷ behind = quote_at bytes within ∙
    (ap (λ xs. xs ++ 39 ∷ drop (prefix_len is_plain bytes + 1) bytes) (sym front_is) ∙
    ap (λ xs. front ++ 39 ∷ xs) (sym behind_is)) in
    let plain : list_all is_plain front ≡ true = ap (list_all is_plain) front_is ∙
    all_plain bytes in
    ap unquoted cut ∙ (unquoted_front front (39 ∷ behind) plain ∙
    (ap (with_front front) (unquoted_end behind ends) ∙ ap (λ text. Some (text, behind))
    (append-nil front)))

pub unquoted_goes_on :
    (bytes front behind : List ℕ) → prefix_len is_plain bytes < length bytes →
    front ≡ take (prefix_len is_plain bytes) bytes →
    behind ≡ drop (prefix_len is_plain bytes + 1) bytes → begins_with 39 behind ≡ true →
    unquoted bytes ≡ with_front (front ++ 39 ∷ []) (unquoted (drop 1 behind))
unquoted_goes_on bytes front behind within front_is behind_is doubled =
    let cut : bytes ≡ front ++ 39 ∷ behind = quote_at bytes within ∙
    (ap (λ xs. xs ++ 39 ∷ drop (prefix_len is_plain bytes + 1) bytes) (sym front_is) ∙
    ap (λ xs. front ++ 39 ∷ xs) (sym behind_is)) in
    let plain : list_all is_plain front ≡ true = ap (list_all is_plain) front_is ∙
    all_plain bytes in
    ap unquoted cut ∙ (unquoted_front front (39 ∷ behind) plain ∙
    (ap (with_front front) (unquoted_double behind doubled) ∙
    with_front_byte front 39 (unquoted (drop 1 behind))))

-- the steps of the loop
pub reading_ends :
    (text rest content longer front behind : List ℕ) →
    with_front content (unquoted rest) ≡ unquoted text → prefix_len is_plain rest < length rest →
    front ≡ take (prefix_len is_plain rest) rest →
    behind ≡ drop (prefix_len is_plain rest + 1) rest → begins_with 39 behind ≡ false →
    longer ≡ content ++ front → Some (longer, behind) ≡ unquoted text
reading_ends text rest content longer front behind reading within front_is behind_is ends
    longer_is =
    ap (λ xs. Some (xs, behind)) longer_is ∙
    (sym (ap (with_front content) (unquoted_ends rest front behind within front_is behind_is
    ends)) ∙ reading)

pub reading_goes_on :
    (text rest content longer longest front behind more : List ℕ) →
    with_front content (unquoted rest) ≡ unquoted text → prefix_len is_plain rest < length rest →
    front ≡ take (prefix_len is_plain rest) rest →
    behind ≡ drop (prefix_len is_plain rest + 1) rest → begins_with 39 behind ≡ true →
    longer ≡ content ++ front → longest ≡ longer ++ 39 ∷ [] → more ≡ drop 1 behind →
    with_front longest (unquoted more) ≡ unquoted text
reading_goes_on text rest content longer longest front behind more reading within front_is behind_is
    doubled longer_is longest_is more_is =
    let grown : longest ≡ content ++ (front ++ 39 ∷ []) = longest_is ∙
    (ap (λ xs. xs ++ 39 ∷ []) longer_is ∙ append_assoc content front (39 ∷ [])) in
    ap (λ xs. with_front xs (unquoted more)) grown ∙
    (ap (λ xs. with_front (content ++ (front ++ 39 ∷ [])) (unquoted xs)) more_is ∙
    (sym (with_front_front content (front ++ 39 ∷ []) (unquoted (drop 1 behind))) ∙
    (sym (ap (with_front content) (unquoted_goes_on rest front behind within front_is behind_is
    doubled)) ∙ reading)))

-- ---- writing a text between quotes

quoted_front :
    (front rest : List ℕ) → list_all is_plain front ≡ true →
    quoted (front ++ rest) ≡ front ++ quoted rest
quoted_front [] rest all = refl
quoted_front (byte ∷ front) rest all =
    let parts = and_parts (is_plain byte) (list_all is_plain front) all in
    let plain : (byte == 39) ≡ false = not_true (byte == 39) parts.0 in
    rw plain (ap (λ xs. byte ∷ xs) (quoted_front front rest parts.1))
  where
    not_true : (b : Bool) → not b ≡ true → b ≡ false
    not_true false e = refl
    not_true true e = absurd (false≢true e)

pub quoted_plain :
    (bytes : List ℕ) → prefix_len is_plain bytes ≡ length bytes → quoted bytes ≡ bytes
quoted_plain bytes e =
    let whole : take (prefix_len is_plain bytes) bytes ≡ bytes = ap (λ n. take n bytes) e ∙
    take_all (length bytes) bytes (omega arith) in
    let plain : list_all is_plain bytes ≡ true = ap (list_all is_plain) (sym whole) ∙
    all_plain bytes in
    ap quoted (sym (append-nil bytes)) ∙ (quoted_front bytes [] plain ∙ append-nil bytes)

quoted_cut :
    (bytes front behind : List ℕ) → prefix_len is_plain bytes < length bytes →
    front ≡ take (prefix_len is_plain bytes) bytes →
    behind ≡ drop (prefix_len is_plain bytes + 1) bytes →
    quoted bytes ≡ front ++ 39 ∷ 39 ∷ quoted behind
quoted_cut bytes front behind within front_is behind_is =
    let cut : bytes ≡ front ++ 39 ∷ behind = quote_at bytes within ∙
    (ap (λ xs. xs ++ 39 ∷ drop (prefix_len is_plain bytes + 1) bytes) (sym front_is) ∙
    ap (λ xs. front ++ 39 ∷ xs) (sym behind_is)) in
    let plain : list_all is_plain front ≡ true = ap (list_all is_plain) front_is ∙
    all_plain bytes in
    ap quoted cut ∙ quoted_front front (39 ∷ behind) plain

pub writing_goes_on :
    (whole text rest longer longest front behind again : List ℕ) → text ++ quoted rest ≡ whole →
    prefix_len is_plain rest < length rest → front ≡ take (prefix_len is_plain rest) rest →
    behind ≡ drop (prefix_len is_plain rest + 1) rest → longer ≡ text ++ front →
    longest ≡ longer ++ 39 ∷ 39 ∷ [] → again ≡ behind → longest ++ quoted again ≡ whole
writing_goes_on whole text rest longer longest front behind again writing within front_is behind_is
    longer_is longest_is again_is =
    let cut = quoted_cut rest front behind within front_is behind_is in
    rw (longest_is, longer_is, again_is) (append_assoc (text ++ front) (39 ∷ 39 ∷ [])
    (quoted behind) ∙ (append_assoc text front (39 ∷ 39 ∷ quoted behind) ∙
    (ap (λ xs. text ++ xs) (sym cut) ∙ writing)))

-- ---- arguments, a comma and a space between each two

listed_push :
    (first : List ℕ) (texts : List (List ℕ)) (text : List ℕ) →
    listed (first ∷ texts ++ text ∷ []) ≡ listed (first ∷ texts) ++ (44 ∷ 32 ∷ text)
listed_push first [] text = refl
listed_push first (second ∷ texts) text =
    ap (λ xs. first ++ 44 ∷ 32 ∷ xs) (listed_push second texts text) ∙
    sym (append_assoc first (44 ∷ 32 ∷ listed (second ∷ texts)) (44 ∷ 32 ∷ text))

pub listed_more :
    (trees : List Expr) (i : ℕ) (d : Expr) → i < length trees →
    listed (map printed (take (i + 1) trees)) ≡ (listed (map printed (take i trees)) ++
    (if i == 0 then [] else 44 ∷ 32 ∷ [])) ++ printed (get_or trees i d)
listed_more [] i d within = absurd (omega (arith, within))
listed_more (first ∷ trees) zero d within = refl
listed_more (first ∷ trees) (suc i) d within =
    let e : take (suc i + 1) (first ∷ trees) ≡ first ∷ take i trees ++ get_or trees i d ∷ [] =
    ap (λ n. take n (first ∷ trees)) (let n : suc i + 1 ≡ suc (i + 1) = omega arith in n) ∙
    ap (λ xs. first ∷ xs) (take_more trees i d (omega arith)) in
    let m : map printed (first ∷ take i trees ++ get_or trees i d ∷ []) ≡ printed first ∷
    map printed (take i trees) ++ printed (get_or trees i d) ∷ [] =
    ap (λ xs. printed first ∷ xs) (map-append printed (take i trees) (get_or trees i d ∷ [])) in
    rw (ne_eqb (suc i) 0 (omega arith)) (ap (λ xs. listed (map printed xs)) e ∙
    (ap listed m ∙
    (listed_push (printed first) (map printed (take i trees)) (printed (get_or trees i d)) ∙
    sym (append_assoc (listed (printed first ∷ map printed (take i trees))) (44 ∷ 32 ∷ [])
    (printed (get_or trees i d))))))

pub arguments_written :
    (old before between after : List ℕ) (trees : List Expr) (i : ℕ) (argument : Expr) →
    i < length trees → argument ≡ get_or trees i argument →
    before ≡ old ++ listed (map printed (take i trees)) →
    between ≡ before ++ (if i == 0 then [] else 44 ∷ 32 ∷ []) →
    after ≡ between ++ printed argument → after ≡ old ++ listed (map printed (take (i + 1) trees))
arguments_written old before between after trees i argument within argument_is before_is between_is
    after_is =
    let separator = if i == 0 then [] else 44 ∷ 32 ∷ [] in
    after_is ∙
    (ap (λ xs. xs ++ printed argument) (between_is ∙ ap (λ xs. xs ++ separator) before_is) ∙
    (ap (λ xs. xs ++ printed argument) (append_assoc old (listed (map printed (take i trees)))
    separator) ∙ (append_assoc old (listed (map printed (take i trees)) ++ separator)
    (printed argument) ∙
    ap (λ xs. old ++ xs) (ap (λ tree. (listed (map printed (take i trees)) ++ separator) ++
    printed tree) argument_is ∙ sym (listed_more trees i argument within)))))
