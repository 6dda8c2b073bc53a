-- Texts between double quotes, as they are printed and as they are read.
use Rattle.std.proofs.Common.{◌≡◌, ℕ, zero, suc, ◌+◌, ◌*◌, ◌/◌, ◌%◌, ◌<◌, ◌≤◌, Bool, true, false}
use Rattle.std.proofs.Common.{Some, Ok, List, [], ◌∷◌, ◌++◌, length, drop, refl, ap, sym, subst}
use Rattle.std.proofs.Common.{◌∙◌, append_assoc, arith, inl, inr}
use Rattle.std.specs.Prelude.{◌==◌, ◌||◌, nat_lt, flat_map, encode_utf8_all}
use Rattle.std.specs.Char.{encode_utf8, digit_value}
use Rattle.std.proofs.Math.Nat.{div-add-mod, mod-lt}
use Rattle.std.proofs.lemmas.Bool.{cases_Bool, eqb-true}
use Rattle.std.proofs.lemmas.Bool.Decides.{nat_tests}
use Rattle.std.proofs.lemmas.List.{append-nil, length-append, drop-drop, drop_at}
use Rattle.pl_line.specs.Rows.{Row}
use Rattle.pl_line.specs.Quoted.{double, escape, named, numbered, spelled, scalar_only, hex_value}
use Rattle.pl_line.specs.Quoted.{piece, next_piece, pieces_of}
use Rattle.pl_line.specs.Quoted as reading
use Rattle.pl_printing.specs.Printed.{hex_digit, escaped, quoted}

-- ---- one character

-- A character is escaped by a letter or in hexadecimal, or it stands for itself.
pub by_escape : (P : ℕ → List ℕ → Type 0)
    → P 34 (92 ∷ 34 ∷ []) → P 92 (92 ∷ 92 ∷ []) → P 10 (92 ∷ 110 ∷ []) → P 13 (92 ∷ 114 ∷ []) →
    P 9 (92 ∷ 116 ∷ [])
    → ((c : ℕ) → c < 128 → P c (92 ∷ 120 ∷ hex_digit (c / 16) ∷ hex_digit (c % 16) ∷ []))
    → ((c : ℕ) → 32 ≤ c → (c == 34) ≡ false → (c == 92) ≡ false → P c (c ∷ []))
    → (c : ℕ) → P c (escaped c)
by_escape P quote backslash feed return tab coded plain c =
    elim (cases_Bool (c == 34)) [
      | inl is ↦ subst (λ d. P d (escaped d)) (sym (eqb-true c 34 is)) quote
      | inr no_quote ↦ elim (cases_Bool (c == 92)) [
        | inl is ↦ subst (λ d. P d (escaped d)) (sym (eqb-true c 92 is)) backslash
        | inr no_backslash ↦ elim (cases_Bool (c == 10)) [
          | inl is ↦ subst (λ d. P d (escaped d)) (sym (eqb-true c 10 is)) feed
          | inr no_feed ↦ elim (cases_Bool (c == 13)) [
            | inl is ↦ subst (λ d. P d (escaped d)) (sym (eqb-true c 13 is)) return
            | inr no_return ↦ elim (cases_Bool (c == 9)) [
              | inl is ↦ subst (λ d. P d (escaped d)) (sym (eqb-true c 9 is)) tab
              | inr no_tab ↦ elim (cases_Bool (nat_lt c 32 || c == 127)) [
                | inl is ↦ rw (no_quote, no_backslash, no_feed, no_return, no_tab, is)
                    (coded c (low c is))
                | inr isnt ↦ rw (no_quote, no_backslash, no_feed, no_return, no_tab, isnt)
                    (plain c (high c isnt) no_quote no_backslash)
              ]
            ]
          ]
        ]
      ]
    ]
  where
    low : (c : ℕ) → (nat_lt c 32 || c == 127) ≡ true → c < 128
    low c is = grind (arith, nat_tests)

    high : (c : ℕ) → (nat_lt c 32 || c == 127) ≡ false → 32 ≤ c
    high c isnt = grind (arith, nat_tests)

digit_of : (n : ℕ) → n < 16 → digit_value (hex_digit n) ≡ n
digit_of n less = grind (arith, nat_tests)

numbered_two :
    (a b : ℕ) (rest : List ℕ) →
    numbered 2 (a ∷ b ∷ rest) ≡ spelled 4 (scalar_only (hex_value 0 (a ∷ b ∷ [])))
unfolding numbered
numbered_two a b rest =
    let enough : nat_lt (suc (suc (length rest))) 2 ≡ false = grind (arith, nat_tests) in
    rw enough refl

scalar_small : (c : ℕ) → c < 128 → scalar_only (Some c) ≡ Some c
scalar_small c small = let less : nat_lt c 0xd800 ≡ true = grind (arith, nat_tests) in rw less refl

hex_more :
    (value n : ℕ) (cs : List ℕ) → n < 16 →
    hex_value value (hex_digit n ∷ cs) ≡ hex_value (16 * value + n) cs
hex_more value n cs less =
    let digit : nat_lt n 16 ≡ true = grind (arith, nat_tests) in
    rw (digit_of n less, digit) refl

hex_two : (c : ℕ) → c < 128 → hex_value 0 (hex_digit (c / 16) ∷ hex_digit (c % 16) ∷ []) ≡ Some c
hex_two c small =
    let whole : 16 * (c / 16) + c % 16 ≡ c = div-add-mod c 16 in
    let low : c % 16 < 16 = mod-lt c {m = 16} (omega arith) in
    let all : 16 * (16 * 0 + c / 16) + c % 16 ≡ c = omega (arith, whole) in
    hex_more 0 (c / 16) (hex_digit (c % 16) ∷ []) (omega (arith, whole))
    ∙ (hex_more (16 * 0 + c / 16) (c % 16) [] low ∙ ap Some all)

escape_two :
    (c : ℕ) (rest : List ℕ) → c < 128 →
    escape (120 ∷ hex_digit (c / 16) ∷ hex_digit (c % 16) ∷ rest) ≡ spelled 4 (Some c)
unfolding escape
escape_two c rest small =
    numbered_two (hex_digit (c / 16)) (hex_digit (c % 16)) rest
    ∙ ap (λ o. spelled 4 (scalar_only o)) (hex_two c small)
    ∙ ap (spelled 4) (scalar_small c small)

-- what is escaped is one piece
pub double_escaped :
    (c : ℕ) (rest : List ℕ) → double (escaped c ++ rest) ≡ spelled (length (escaped c)) (Some c)
unfolding double escape named
double_escaped c rest =
    by_escape (λ c cs. double (cs ++ rest) ≡ spelled (length cs) (Some c)) refl refl refl refl refl
    (λ c small. escape_two c rest small)
    (λ c printable no_quote no_backslash. rw (no_quote, no_backslash) refl)
    c

-- piece by piece, from any place of the line on
pieces_read :
    (style : _) → ((cs : List ℕ) → piece style cs ≡ double cs) →
    (row : Row) (cs rest before : List ℕ) (turns at : ℕ)
    → drop at row.text ≡ flat_map escaped cs ++ 34 ∷ rest → length cs < turns
    → pieces_of style row turns before at ≡
    Ok (before ++ encode_utf8_all cs, at + (length (flat_map escaped cs) + 1))
unfolding pieces_of double
pieces_read style is row cs rest before zero at left enough = absurd (omega (arith, enough))
pieces_read style is row [] rest before (suc turns) at left enough =
    ap (next_piece (pieces_of style row turns) row before at) (ap (piece style) left ∙
    is (34 ∷ rest))
    ∙ ap (λ text. Ok (text, at + 1)) (sym (append-nil before))
pieces_read style is row (c ∷ cs) rest before (suc turns) at left enough =
    let behind : List ℕ = flat_map escaped cs ++ 34 ∷ rest in
    let split : drop at row.text ≡ escaped c ++ behind = left ∙
    append_assoc (escaped c) (flat_map escaped cs) (34 ∷ rest) in
    let first : piece style (drop at row.text) ≡ spelled (length (escaped c)) (Some c) =
    ap (piece style) split ∙ (is (escaped c ++ behind) ∙ double_escaped c behind) in
    let beyond : drop (at + length (escaped c)) row.text ≡ behind =
    sym (drop-drop (length (escaped c)) at row.text) ∙ (ap (drop (length (escaped c))) split ∙
    drop_at (escaped c) behind (length (escaped c)) refl) in
    let taken : at + length (escaped c) + (length (flat_map escaped cs) + 1) ≡
    at + (length (escaped c ++ flat_map escaped cs) + 1) =
    omega (arith, length-append (escaped c) (flat_map escaped cs)) in
    ap (next_piece (pieces_of style row turns) row before at) first
    ∙ (pieces_read style is row cs rest (before ++ encode_utf8 c) turns (at + length (escaped c))
    beyond (omega (arith, enough))
    ∙ (ap (λ text. Ok (text, at + length (escaped c) + (length (flat_map escaped cs) + 1)))
    (append_assoc before (encode_utf8 c) (encode_utf8_all cs))
    ∙ ap (λ n. Ok (before ++ encode_utf8_all (c ∷ cs), n)) taken))

-- each character takes one at least
as_many : (cs : List ℕ) → length cs ≤ length (flat_map escaped cs)
as_many [] = omega arith
as_many (c ∷ cs) = omega (
  arith,
  length-append (escaped c) (flat_map escaped cs),
  some c,
  as_many cs,
)
  where
    some : (c : ℕ) → 1 ≤ length (escaped c)
    some c =
        by_escape (λ c cs. 1 ≤ length cs) (omega arith) (omega arith) (omega arith) (omega arith)
        (omega arith)
        (λ c small. omega arith) (λ c printable no_quote no_backslash. omega arith) c

pub quoted_reads : (number column : ℕ) (cs rest : List ℕ) (whole : Bool)
    → reading.quoted (record {
      number = number;
      column = column;
      text = quoted cs ++ rest;
      whole =
          whole;
    }) ≡ Ok (encode_utf8_all cs, length (quoted cs))
unfolding reading.quoted
quoted_reads number column cs rest whole =
    let inside : List ℕ = flat_map escaped cs in
    let behind : inside ++ 34 ∷ [] ++ rest ≡ inside ++ 34 ∷ rest = append_assoc inside (34 ∷ [])
    rest in
    let enough : length cs < length (quoted cs ++ rest) =
    omega (
      arith,
      as_many cs,
      length-append (inside ++ 34 ∷ []) rest,
      length-append inside (34 ∷ []),
    ) in
    let taken : 1 + (length inside + 1) ≡ length (quoted cs) =
    omega (arith, length-append inside (34 ∷ [])) in
    pieces_read _ (λ _. refl) (record {
      number = number;
      column = column;
      text = quoted cs ++
          rest;
      whole = whole;
    }) cs rest [] (length (quoted cs ++ rest)) 1 behind enough
    ∙ ap (λ n. Ok (encode_utf8_all cs, n)) taken

-- ---- behind them

pub quoted_spans : (cs rest : List ℕ) → drop (length (quoted cs)) (quoted cs ++ rest) ≡ rest
quoted_spans cs rest = drop_at (quoted cs) rest (length (quoted cs)) refl

-- the first of its characters is a quote
pub quoted_begins : (cs rest : List ℕ) → quoted cs ++ rest ≡ 34 ∷ (flat_map escaped cs ++ 34 ∷ rest)
quoted_begins cs rest = ap (λ xs. 34 ∷ xs) (append_assoc (flat_map escaped cs) (34 ∷ []) rest)
