-- No spelling of a number, a flag or a text begins another one.
use Rattle.std.proofs.Common.{◌≡◌, ℕ, ◌^◌, ◌<◌, Bool, true, false, List, [], ◌∷◌, ◌++◌, length}
use Rattle.std.proofs.Common.{take, drop, refl, sym, ap, subst, ◌∙◌, append_assoc, length-append}
use Rattle.std.proofs.Common.{arith, ◌+◌}
use Rattle.std.specs.Int.{w32, w64, to_be_bytes, from_be_bytes}
use Rattle.std.proofs.lemmas.List.{take_at, drop_at}
use Rattle.std.proofs.lemmas.Nat.{from_be_bytes-to_be_bytes_4, from_be_bytes-to_be_bytes_8}
use Rattle.pl_fields.specs.Fields.{number, count, flag, text, IsShort, IsText}
use Rattle.pl_fields.specs.Reading.{IsOneWay}
use Rattle.pl_fields.specs.declared.texts.Raw.{Raw}

-- fronts of one length, before the same bytes or not, are one, and so is what stands behind them
pub same_parts : {X : Type 0} (a b r s : List X) → length a ≡ length b → a ++ r ≡ b ++ s → (a ≡ b) ×
    (r ≡ s)
same_parts a b r s len e = (
  sym (take_at a r (length b) len) ∙ (ap (take (length b)) e ∙ take_at b s (length b) refl),
  sym (drop_at a r (length b) len) ∙ (ap (drop (length b)) e ∙ drop_at b s (length b) refl),
)

pub head_is : (x y : ℕ) (a b : List ℕ) → x ∷ a ≡ y ∷ b → x ≡ y
head_is x y a b e = cc

pub tail_is : (x y : ℕ) (a b : List ℕ) → x ∷ a ≡ y ∷ b → a ≡ b
tail_is x y a b e = cc

pub number_len : (n : ℕ) → length (number n) ≡ 8
unfolding number
number_len n = refl

pub count_len : (n : ℕ) → length (count n) ≡ 4
unfolding count
count_len n = refl

pub same_number : (m n : ℕ) → m < 2 ^ 64 → n < 2 ^ 64 → number m ≡ number n → m ≡ n
unfolding number
same_number m n small less e =
    sym (from_be_bytes-to_be_bytes_8 m small) ∙
    (ap (from_be_bytes w64) e ∙ from_be_bytes-to_be_bytes_8 n less)

same_count : (m n : ℕ) → m < 2 ^ 32 → n < 2 ^ 32 → count m ≡ count n → m ≡ n
unfolding count
same_count m n small less e =
    sym (from_be_bytes-to_be_bytes_4 m small) ∙
    (ap (from_be_bytes w32) e ∙ from_be_bytes-to_be_bytes_4 n less)

pub number_one_way : IsOneWay number (λ n. n < 2 ^ 64)
number_one_way m n r s small less e =
    let parts = same_parts (number m) (number n) r s (number_len m ∙ sym (number_len n)) e in
    (same_number m n small less parts.0, parts.1)

pub small_one_way : IsOneWay number (λ n. n < 2 ^ 32)
small_one_way m n r s small less e = number_one_way m n r s (omega arith) (omega arith) e

pub count_one_way : IsOneWay count (λ n. n < 2 ^ 32)
count_one_way m n r s small less e =
    let parts = same_parts (count m) (count n) r s (count_len m ∙ sym (count_len n)) e in
    (same_count m n small less parts.0, parts.1)

pub flag_one_way : IsOneWay flag (λ _. Unit {0})
flag_one_way true true r s a b e = (refl, tail_is 1 1 r s e)
flag_one_way true false r s a b e = absurd cc
flag_one_way false true r s a b e = absurd cc
flag_one_way false false r s a b e = (refl, tail_is 0 0 r s e)

pub piece_one_way : IsOneWay text IsShort
unfolding text
piece_one_way x y r s short less e =
    let regrouped : count (length x) ++ (x ++ r) ≡ count (length y) ++ (y ++ s) =
    sym (append_assoc (count (length x)) x r) ∙ (e ∙ append_assoc (count (length y)) y s) in
    let counts = count_one_way (length x) (length y) (x ++ r) (y ++ s) short less regrouped in
    same_parts x y r s counts.0 counts.1

pub text_one_way : IsOneWay text IsText
text_one_way x y r s is_x is_y e = piece_one_way x y r s is_x.short is_y.short e

pub raw_one_way : IsOneWay (λ (raw : Raw). text raw.bytes) (λ raw. IsShort raw.bytes)
raw_one_way x y r s short less e =
    let parts = piece_one_way x.bytes y.bytes r s short less e in
    (ap (λ (bytes : List ℕ). let made : Raw = record { bytes = bytes } in made) parts.0, parts.1)

pub text_len : (bytes : List ℕ) → length (text bytes) ≡ 4 + length bytes
unfolding text
text_len bytes = omega (arith, length-append (count (length bytes)) bytes, count_len (length bytes))
