-- Texts of ASCII's printable characters have no control character.
use Rattle.std.proofs.Common.{◌≡◌, ℕ, ◌<◌, true, false, ◌&&◌, ◌||◌, Bool, List, [], ◌∷◌, refl, ap}
use Rattle.std.proofs.Common.{sym, ◌∙◌, arith, All, true≢false}
use Rattle.std.specs.Char.{is_control}
use Rattle.std.specs.List.{list_all, list_any}
use Rattle.std.specs.Str.{chars}
use Rattle.std.proofs.lemmas.Bool.Decides.{nat_tests}
use Rattle.std.proofs.lemmas.List.Elements.{All-cons, All-nil}
use Rattle.std.proofs.lemmas.Str.{chars-IsAscii}
use Rattle.std.proofs.lemmas.Str.Ascii.{IsAscii-from_all}
use Rattle.pl_names.specs.Bytes.{is_printable}

first_of : (a b : Bool) → (a && b) ≡ true → a ≡ true
first_of true b e = refl
first_of false b e = e

rest_of : (a b : Bool) → (a && b) ≡ true → b ≡ true
rest_of true b e = e
rest_of false b e = absurd (true≢false (sym e))

short : (byte : ℕ) → is_printable byte ≡ true → byte < 128
short byte e = grind (arith, nat_tests)

shown : (byte : ℕ) → is_printable byte ≡ true → is_control byte ≡ false
shown byte e = grind (arith, nat_tests)

all_short : (bytes : List ℕ) → list_all is_printable bytes ≡ true → All (λ b. b < 128) bytes
all_short [] e = All-nil (λ b. b < 128)
all_short (byte ∷ bytes) e =
    All-cons (λ b. b < 128) byte bytes (short byte (first_of _ _ e))
    (all_short bytes (rest_of (is_printable byte) _ e))

none_among : (bytes : List ℕ) → list_all is_printable bytes ≡ true →
    list_any is_control bytes ≡ false
none_among [] e = refl
none_among (byte ∷ bytes) e =
    ap (λ b. b || list_any is_control bytes) (shown byte (first_of _ _ e))
    ∙ none_among bytes (rest_of (is_printable byte) _ e)

pub no_control :
    (bytes : List ℕ) (printable : Bool) → printable ≡ list_all is_printable bytes →
    printable ≡ true → false ≡ list_any is_control (chars bytes)
no_control bytes printable told is =
    let all : list_all is_printable bytes ≡ true = sym told ∙ is in
    sym (ap (list_any is_control)
    (chars-IsAscii bytes (IsAscii-from_all bytes (all_short bytes all))) ∙ none_among bytes all)
