-- Where bytes are cut.
use Rattle.std.specs.Prelude.{◌≡◌, ℕ, false, ◌==◌, List, ◌∷◌, ◌++◌, All, Option, MatchOption}
use Rattle.std.specs.Borrow.{Bor}

-- there is no such byte
abbrev pub Lacks : ℕ → List ℕ → Type 0
Lacks mark bytes = All (λ byte. (byte == mark) ≡ false) bytes

-- bytes are cut at the first such byte, and there is one
abbrev pub IsFirst : ℕ → List ℕ → List ℕ → List ℕ → Type 0
IsFirst mark bytes front back = (bytes ≡ front ++ mark ∷ back) × Lacks mark front

abbrev pub IsCut : ℕ → List ℕ → Option (Bor (List ℕ) × Bor (List ℕ)) → Type 0
IsCut mark bytes cut =
    MatchOption cut (Lacks mark bytes) (λ two. IsFirst mark bytes two.0.now two.1.now)
