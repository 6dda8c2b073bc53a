-- Going over rows.
use Rattle.std.proofs.Common.{◌≤◌, List, [], ◌∷◌, drop, arith}
use Rattle.pl_line.specs.Rows.{Row, size}

-- a row less
pub size_drop : (rows : List Row) → size (drop 1 rows) ≤ size rows
size_drop [] = omega arith
size_drop (row ∷ rows) = omega arith

pub ruleset passing = (size_drop)
