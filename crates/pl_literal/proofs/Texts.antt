-- Texts that are equal in ASCII's lower case, tested in its upper case.
use Rattle.std.proofs.Common.{◌≡◌, ◌↔◌, List, ℕ, Bool, map, refl}
use Rattle.std.specs.Prelude.{IsTrue, nat_eq}
use Rattle.std.specs.Char.{to_ascii_lowercase}
use Rattle.std.specs.Cmp.Lexicographic.{pointwise}
use Rattle.std.proofs.lemmas.Bool.Decides.{same_from_decides, Decides-eqb, Decides-like}
use Rattle.std.proofs.lemmas.Slice.Eq.{slice_eq-Decides}
use Rattle.pl_base.specs.Folding.{folded}
use Rattle.pl_base.proofs.Cases.{alike}

pub spelled :
    (left right : List ℕ) (r : Bool) →
    IsTrue r ↔ (map to_ascii_lowercase left ≡ map to_ascii_lowercase right) →
    r ≡ pointwise nat_eq (folded left) (folded right)
spelled left right r tells =
    same_from_decides r (pointwise nat_eq (folded left) (folded right))
    (Decides-like r (alike left right).0 (alike left right).1 tells)
    (slice_eq-Decides Decides-eqb (folded left) (folded right)
    (pointwise nat_eq (folded left) (folded right)) refl)
