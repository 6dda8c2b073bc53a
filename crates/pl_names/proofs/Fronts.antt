-- A `/` in front of a text.
use Rattle.std.proofs.Common.{inl, inr, ◌≡◌, ◌≢◌, ℕ, true, false, List, [], ◌∷◌, refl, ap, arith}
use Rattle.std.specs.Prelude.{◌==◌, ◌&&◌}
use Rattle.std.proofs.lemmas.Bool.Decides.{nat_tests}
use Rattle.std.proofs.lemmas.Bool.{cases_Bool}
use Rattle.pl_names.specs.Bytes.{slash}
use Rattle.pl_names.specs.Names.{are_segments, has_segments}

equal : (byte : ℕ) → (byte == slash) ≡ true → byte ≡ slash
equal byte here = grind (arith, nat_tests)

pub elsewhere :
    (text : List ℕ) → ((rest : List ℕ) → text ≢ slash ∷ rest) → has_segments text ≡ false
elsewhere [] none = refl
elsewhere (byte ∷ text) none =
    elim (cases_Bool (byte == slash)) [
      | inl here ↦ absurd (none text (ap (λ byte. byte ∷ text) (equal byte here)))
      | inr other ↦ ap (λ front. front && are_segments text) other
    ]

pub in_front : (text rest : List ℕ) → text ≡ slash ∷ rest → has_segments text ≡ are_segments rest
in_front text rest whole = ap has_segments whole
