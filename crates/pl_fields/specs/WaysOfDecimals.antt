-- Numbers as texts of decimal digits.
use Rattle.std.proofs.Common.{◌≡◌, ℕ, ◌^◌, ◌<◌, ◌≤◌, List, ◌++◌, length, refl, sym, ap, ◌∙◌, arith}
use Rattle.std.proofs.Common.{lit<}
use Rattle.std.specs.Fmt.{decimal}
use Rattle.std.proofs.lemmas.Fmt.{decimal_injective, length-decimal-le}
use Rattle.pl_fields.specs.Fields.{text, decimal_text, IsShort}
use Rattle.pl_fields.specs.Reading.{IsOneWay}
use Rattle.pl_fields.specs.WaysOfFields.{piece_one_way}
use Rattle.pl_fields.specs.declared.decimal.Decimal.{Decimal}

pub decimal_len : (n : ℕ) → n < 2 ^ 64 → length (decimal n) ≤ 20
decimal_len n small = length-decimal-le 20 n (omega arith) (omega arith) small

pub decimal_short : (n : ℕ) → n < 2 ^ 64 → IsShort (decimal n)
decimal_short n small = let len = decimal_len n small in omega arith

pub digits_one_way : IsOneWay decimal_text (λ n. n < 2 ^ 64)
digits_one_way m n r s small less e =
    let parts = piece_one_way (decimal m) (decimal n) r s (decimal_short m small)
    (decimal_short n less) e in
    (decimal_injective m n small less parts.0, parts.1)

pub decimal_one_way : IsOneWay (λ (told : Decimal). decimal_text told.number)
    (λ told. told.number < 2 ^ 64)
decimal_one_way x y r s small less e =
    let parts = digits_one_way x.number y.number r s small less e in
    (ap (λ (n : ℕ). let made : Decimal = record { number = n } in made) parts.0, parts.1)
