-- Reading rows from left to right: a value and the rows behind it, or the first fault.
use Rattle.std.specs.Prelude.{◌≡◌, ℕ, zero, suc, Bool, true, false, List, [], ◌∷◌, ◌++◌, drop}
use Rattle.std.specs.Prelude.{Option, Some, None, Result, Ok}
use Rattle.pl_line.specs.declared.line_fault.Fault.{Fault}
use Rattle.pl_line.specs.Rows.{Row}
use Rattle.pl_reading.specs.Steps.{◌>>=◌}

-- a value, and the rows behind it
abbrev pub Read : Type 0 → Type 0
Read A = Result (A × List Row) Fault

abbrev pub IsFirst : Row → List Row → Type 0
IsFirst row rows = rows ≡ row ∷ drop 1 rows

-- whether a row is left
abbrev pub has_row : List Row → Bool
has_row [] = false
has_row (row ∷ rows) = true

-- One after the other, as long as there is one: `here` says what stands next, and `one` reads it,
-- knowing those before it. Each takes a part of the rows, so there are no more of them than lines
-- and characters, and the last turn finds none.
abbrev pub many_step :
    {X A : Type 0} → (List A → List Row → Read (List A)) → (List A → X → List Row → Read A) →
    List A → Option X → List Row → Read (List A)
many_step more one before None rows = Ok (before, rows)
many_step more one before (Some x) rows = one before x rows >>= λ next. more (before ++ next.0 ∷ [])
    next.1

unfoldable pub many :
    {X A : Type 0} → (List Row → Read (Option X)) → (List A → X → List Row → Read A) → ℕ → List A →
    List Row → Read (List A)
many here one zero before rows = Ok (before, rows)
many here one (suc turns) before rows = here rows >>= λ found. many_step (many here one turns) one
    before found.0 found.1
