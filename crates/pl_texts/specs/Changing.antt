-- Texts with other bytes in the place of some.
use Rattle.std.specs.Prelude.{ℕ, zero, suc, ◌-◌, List, [], ◌∷◌, ◌++◌, length, map, if◌then◌else◌}
use Rattle.std.specs.Char.{to_ascii_lowercase, to_ascii_uppercase}
use Rattle.pl_texts.specs.Matching.{begins}

-- A to Z become a to z, and every other byte stays
abbrev pub lowered : List ℕ → List ℕ
lowered text = map to_ascii_lowercase text

-- a to z become A to Z, and every other byte stays
abbrev pub raised : List ℕ → List ℕ
raised text = map to_ascii_uppercase text

-- From left to right, once so many bytes were passed over: where the sought text stands, the new
-- one comes, and the bytes that stood there are passed over. Any other byte stays.
unfoldable pub replaced_behind : ℕ → List ℕ → List ℕ → List ℕ → List ℕ
replaced_behind passed sought new [] = []
replaced_behind (suc passed) sought new (byte ∷ text) = replaced_behind passed sought new text
replaced_behind zero sought new (byte ∷ text) =
    if begins (byte ∷ text) sought then new ++ replaced_behind (length sought - 1) sought new text
    else byte ∷ replaced_behind zero sought new text

-- the text with the new one in the place of each occurrence of the sought one, which has a byte
abbrev pub replaced : List ℕ → List ℕ → List ℕ → List ℕ
replaced text [] new = text
replaced text (byte ∷ sought) new = replaced_behind 0 (byte ∷ sought) new text
