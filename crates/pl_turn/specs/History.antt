-- Lists of entries, each of which names the number of a seat.
use Rattle.std.specs.Prelude.{◌≡◌, ◌⊎◌, ℕ, ◌-◌, ◌==◌, max, List, [], ◌∷◌, ◌++◌}
use Rattle.std.specs.Prelude.{length, filter, ltb, if◌then◌else◌}

-- by how much a seat's faults grow in a turn: as much as the count rose since the taking, and by
-- one at least where the count stands at its last value
abbrev pub faults_since : ℕ → ℕ → ℕ
faults_since taken count =
    if count == 18446744073709551615 then max 1 (count - taken) else count - taken

module _ {E : Type 0} where
  -- the entries that name a number, in their order
  abbrev pub entries_of : (E → ℕ) → ℕ → List E → List E
  entries_of names number history = filter (λ e. names e == number) history

  -- `after` is `before`, or it and one entry more, which names this number
  abbrev pub Adds : (E → ℕ) → ℕ → List E → List E → Type 0
  Adds names number before after =
      (after ≡ before)
      ⊎ ((entry : E) × (names entry ≡ number) × (after ≡ before ++ entry ∷ []))

  -- the longer of two lists, and the first where they are equally long
  abbrev pub longer : List E → List E → List E
  longer xs ys = if ltb (length xs) (length ys) then ys else xs
