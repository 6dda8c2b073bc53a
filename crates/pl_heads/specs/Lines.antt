-- Lines of bytes, counted by their line feeds behind the line ends at the front.
use Rattle.std.specs.Prelude.{ℕ, ◌≤◌, ◌<◌, ◌==◌, ◌+◌, List, [], ◌∷◌, length, take, if◌then◌else◌}
use Rattle.httparse.specs.Pieces.{is_newline}

-- how many line feeds there are
abbrev pub feeds : List ℕ → ℕ
feeds [] = 0
feeds (b ∷ bytes) = if b == 10 then feeds bytes + 1 else feeds bytes

-- the bytes from the first that is neither CR nor LF
abbrev pub skip_newlines : List ℕ → List ℕ
skip_newlines [] = []
skip_newlines (b ∷ bytes) = if is_newline b then skip_newlines bytes else b ∷ bytes

abbrev pub lines_behind : List ℕ → ℕ
lines_behind bytes = feeds (skip_newlines bytes)

-- a start line and 65 header lines
abbrev pub line_limit : ℕ
line_limit = 66

-- here the 66th line ends: this front has so many lines, and no shorter one has
pub record IsCut (bytes : List ℕ) (end : ℕ) : Type 0 where
  pub within : end ≤ length bytes
  pub enough : line_limit ≤ lines_behind (take end bytes)
  pub first : (k : ℕ) → line_limit ≤ lines_behind (take k bytes) → end ≤ k
