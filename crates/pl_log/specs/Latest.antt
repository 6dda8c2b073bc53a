-- The latest item counts.
use Rattle.std.specs.Prelude.{ℕ, zero, suc, Bool, List, [], ◌∷◌, ◌++◌, Option, None, Some}
use Rattle.std.specs.Prelude.{if◌then◌else◌}
use Rattle.std.specs.Option.{option_or}

-- the latest item that passes a test: that of the later ones where there is one, else this one
abbrev pub latest : {X : Type 0} → (X → Bool) → List X → Option X
latest test [] = None
latest test (item ∷ later) = option_or (latest test later) (if test item then Some item else None)

-- the items that pass a test, the latest first
abbrev pub latest_first : {X : Type 0} → (X → Bool) → List X → List X
latest_first test [] = []
latest_first test (item ∷ later) =
    latest_first test later ++ (if test item then item ∷ [] else [])

-- a number behind one more item, which counts where none behind it does
abbrev pub behind_one : ℕ → Bool → ℕ
behind_one zero here = if here then 1 else 0
behind_one (suc n) here = suc (suc n)

-- the number of the latest item that passes, counted from 1, or 0 where none does
abbrev pub last_number : {X : Type 0} → (X → Bool) → List X → ℕ
last_number test [] = 0
last_number test (item ∷ later) = behind_one (last_number test later) (test item)
