-- Counts of faults, which never fall.
use Rattle.std.specs.Prelude.{ℕ, ◌+◌, min}

-- the last value of a count
abbrev pub last_count : ℕ
last_count = 18446744073709551615

-- a count after one more; at its last value it stands still, and is read as risen
abbrev pub one_more : ℕ → ℕ
one_more count = min (count + 1) last_count
