-- How keys are spread over the numbers below 2 ^ 32.
use Rattle.std.specs.Prelude.{ℕ, ◌+◌, ◌*◌, ◌^◌, ◌/◌, ◌%◌, ◌==◌, Bool, List, [], ◌∷◌}
use Rattle.pl_base.specs.declared.place.FileKey.{FileKey}

-- each byte is added, and the sum multiplied
abbrev pub spread_by : ℕ → List ℕ → ℕ
spread_by start [] = start
spread_by start (byte ∷ bytes) =
    spread_by (((start + byte) % 4294967296) * 16777619 % 4294967296) bytes

-- a key's number
abbrev pub spread_of : FileKey → ℕ
spread_of key = spread_by (spread_by (spread_by 0 key.repo) key.git_ref) key.path

-- whether it has a bit
abbrev pub is_high : ℕ → ℕ → Bool
is_high bit spread = (spread / (2 ^ bit)) % 2 == 1
