-- What a user of paths believes.
use Rattle.std.specs.Prelude.{◌≡◌, ℕ, List, All, codes, Some}
use Rattle.pl_paths.specs.Paths.{segments_of, from_root, from_file}

-- a segment that leads on
abbrev pub IsName : List ℕ → Type 0
IsName segment = (¬ (segment ≡ codes ".")) × ¬ (segment ≡ codes "..")

-- where a path leads there is neither `.` nor `..`
abbrev pub HasNoDots : List ℕ → Type 0
HasNoDots path =
    (found : List ℕ) → from_root path ≡ Some found → All IsName (segments_of found)

-- a path that was resolved leads to itself, in whichever file it stands
abbrev pub IsResolved : List ℕ → List ℕ → Type 0
IsResolved file path =
    (found : List ℕ) → from_root path ≡ Some found → from_file file found ≡ Some found
