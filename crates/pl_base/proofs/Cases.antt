-- Texts that are equal in ASCII's lower case are those that are equal in its upper case.
use Rattle.std.proofs.Common.{◌≡◌, ◌↔◌, ◌∷◌, [], ℕ, List, map, refl, ap, sym, ◌∙◌, arith}
use Rattle.std.proofs.lemmas.Bool.Decides.{nat_tests}
use Rattle.std.proofs.lemmas.Str.Ascii.{lowercase-uppercase}
use Rattle.std.specs.Char.{to_ascii_uppercase, to_ascii_lowercase}
use Rattle.pl_base.specs.Folding.{folded}

lower_of_folded :
    (text : List ℕ) → map to_ascii_lowercase (folded text) ≡ map to_ascii_lowercase text
lower_of_folded [] = refl
lower_of_folded (byte ∷ text) = λ i. lowercase-uppercase byte i ∷ lower_of_folded text i

upper_of_lower : (byte : ℕ) → to_ascii_uppercase (to_ascii_lowercase byte) ≡ to_ascii_uppercase byte
upper_of_lower byte = grind (arith, nat_tests)

folded_of_lower : (text : List ℕ) → folded (map to_ascii_lowercase text) ≡ folded text
folded_of_lower [] = refl
folded_of_lower (byte ∷ text) = λ i. upper_of_lower byte i ∷ folded_of_lower text i

pub alike :
    (left right : List ℕ) →
    (map to_ascii_lowercase left ≡ map to_ascii_lowercase right) ↔ (folded left ≡ folded right)
alike left right = (
  (λ same. sym (folded_of_lower left) ∙ ap folded same ∙ folded_of_lower right),
  (λ same. sym (lower_of_folded left) ∙ ap (map to_ascii_lowercase) same ∙ lower_of_folded right),
)
