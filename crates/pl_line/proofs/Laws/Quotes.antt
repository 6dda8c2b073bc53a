-- Quoted scalars, piece by piece.
use Rattle.std.proofs.Common.{◌≡◌, ℕ, zero, suc, ◌+◌, ◌-◌, ◌*◌, ◌^◌, ◌<◌, ◌≤◌, true, false, cond}
use Rattle.std.proofs.Common.{List, ◌∷◌, None, drop, refl, sym, ap, ◌∙◌, arith}
use Rattle.std.proofs.Math.Nat.{pow-suc, pow-le-pow_right}
use Rattle.pl_line.specs.declared.piece.Piece.{Piece}
use Rattle.pl_line.specs.declared.piece.Style.{Style}
use Rattle.pl_line.specs.Rows.{Row}
use Rattle.std.specs.Prelude.{nat_lt, ◌==◌}
use Rattle.std.specs.Char.{digit_value}
use Rattle.std.proofs.lemmas.Bool.Decides.{nat_tests}
use Rattle.pl_line.specs.declared.piece.Piece.TheVariants as pieces
use Rattle.pl_line.specs.declared.piece.Style.TheVariants as styles
use Rattle.pl_reading.specs.Bytes.{begins_with}
use Rattle.pl_line.specs.Quoted.{is_special, single, double, escape, piece, next_piece, pieces_of}
use Rattle.pl_line.specs.Quoted.{hex_value}

not_quote : (c : ℕ) → is_special c ≡ false → (c == 39) ≡ false
not_quote c is = grind (arith, nat_tests, is)

not_double : (c : ℕ) → is_special c ≡ false → (c == 34) ≡ false
not_double c is = grind (arith, nat_tests, is)

not_slash : (c : ℕ) → is_special c ≡ false → (c == 92) ≡ false
not_slash c is = grind (arith, nat_tests, is)

-- a digit more
pub hex_step : (i v d : ℕ) → v < 16 ^ i → d < 16 → 16 * v + d < 16 ^ (i + 1)
hex_step i v d less digit =
    let e : suc i ≡ i + 1 = omega arith in
    let p : 16 ^ (i + 1) ≡ 16 ^ i * 16 = ap (λ k. 16 ^ k) (sym e) ∙ pow-suc 16 i in
    omega (arith, p)

-- before the eighth digit
pub hex_fits : (i v : ℕ) → i < 8 → v < 16 ^ i → v < 268435456
hex_fits i v few less =
    let most : 16 ^ i ≤ 16 ^ 7 = pow-le-pow_right {n = 16} (omega arith) {i = i} {j = 7}
    (omega arith) in
    omega (arith, most)

pub hex_next :
    (c v d : ℕ) (text rest : List ℕ) → text ≡ c ∷ rest → digit_value c ≡ d → d < 16 →
    hex_value (16 * v + d) rest ≡ hex_value v text
hex_next c v d text rest taken is digit =
    let small : nat_lt (digit_value c) 16 ≡ true = grind (arith, nat_tests, is, digit) in
    ap (λ n. hex_value (16 * v + n) rest) (sym is)
    ∙ sym (ap (λ b. cond b (hex_value (16 * v + digit_value c) rest) None) small)
    ∙ ap (hex_value v) (sym taken)

-- a character that stands for itself
pub piece_itself :
    (style : Style) (c : ℕ) (text rest : List ℕ) → is_special c ≡ false → text ≡ c ∷ rest →
    pieces.Character c 1 ≡ piece style text
unfolding single double
piece_itself styles.Single c text rest plain is =
    let other : (c == 39) ≡ false = not_quote c plain in
    sym (ap single is ∙
    ap (λ b. cond b (cond (begins_with 39 rest) (pieces.Character 39 2) pieces.Close)
    (pieces.Character c 1)) other)
piece_itself styles.Double c text rest plain is =
    let quote : (c == 34) ≡ false = not_double c plain in
    let slash : (c == 92) ≡ false = not_slash c plain in
    sym (ap double is ∙
    ap (λ b. cond b pieces.Close (cond (c == 92) (escape rest) (pieces.Character c 1))) quote
    ∙ ap (λ b. cond b (escape rest) (pieces.Character c 1)) slash)

pub pieces_step : (style : Style) (row : Row) (turns : ℕ) (before : List ℕ) (at : ℕ) → 0 < turns
    → pieces_of style row turns before at ≡ next_piece (pieces_of style row (turns - 1)) row before
    at (piece style (drop at row.text))
unfolding pieces_of
pieces_step style row zero before at some = absurd (omega arith)
pieces_step style row (suc turns) before at some =
    let e : suc turns - 1 ≡ turns = omega arith in rw e refl

-- the same with the piece that was seen
pub pieces_seen :
    (style : Style) (row : Row) (turns : ℕ) (before : List ℕ) (at : ℕ) (rest : List ℕ)
    (seen : Piece) →
    0 < turns → rest ≡ drop at row.text → seen ≡ piece style rest
    → pieces_of style row turns before at ≡ next_piece (pieces_of style row (turns - 1)) row before
    at seen
pieces_seen style row turns before at rest seen some is was =
    pieces_step style row turns before at some ∙
    ap (next_piece (pieces_of style row (turns - 1)) row before at)
    (sym (was ∙ ap (piece style) is))
