-- The paths of templates (Microsoft Learn, Azure Pipelines, "Templates": a path, and behind `@` the
-- alias of a repository; RFC 3986, sections 5.2.3 and 5.2.4: relative paths and dot segments).
use Rattle.std.specs.Prelude.{ℕ, Bool, false, List, [], ◌∷◌, ◌++◌, ◌==◌, flat_map, drop, codes}
use Rattle.std.specs.Prelude.{Option, Some, None, if◌then◌else◌}
use Rattle.std.specs.Option.{option_map, option_and_then, option_or}
use Rattle.std.specs.List.{slice_split}
use Rattle.pl_base.specs.Texts.{is}
use Rattle.pl_paths.specs.declared.cutting.TemplatePath.{TemplatePath}

-- `/` and `@`
abbrev pub slash : ℕ
slash = 47

abbrev pub at_sign : ℕ
at_sign = 64

-- ---- where a text is cut

-- what stands before the last such byte, and what stands behind it
abbrev pub ahead : ℕ → List ℕ × List ℕ → List ℕ × List ℕ
ahead byte two = (byte ∷ two.0, two.1)

abbrev pub last_cut : ℕ → List ℕ → Option (List ℕ × List ℕ)
last_cut mark [] = None
last_cut mark (byte ∷ text) =
    option_or (option_map (ahead byte) (last_cut mark text))
    (if byte == mark then Some ([], text) else None)

-- a path, and the alias behind its last `@`
abbrev pub cut_path_by : List ℕ → Option (List ℕ × List ℕ) → TemplatePath
cut_path_by text None = record { path = text; alias = None }
cut_path_by text (Some two) = record { path = two.0; alias = Some two.1 }

abbrev pub cut_path : List ℕ → TemplatePath
cut_path text = cut_path_by text (last_cut at_sign text)

-- ---- a path that a file holds

-- A path that begins with `/` stands for itself, any other one behind the folder of that file.
abbrev pub behind_folder : Option (List ℕ × List ℕ) → List ℕ → List ℕ
behind_folder None path = path
behind_folder (Some two) path = two.0 ++ slash ∷ path

abbrev pub is_absolute : List ℕ → Bool
is_absolute [] = false
is_absolute (byte ∷ path) = byte == slash

abbrev pub merged : List ℕ → List ℕ → List ℕ
merged file path =
    if is_absolute path then path else behind_folder (last_cut slash file) path

-- ---- segments, which `/` parts: one `/` in front of all is left out

abbrev pub inner : List ℕ → List ℕ
inner path = if is_absolute path then drop 1 path else path

abbrev pub parts : List ℕ → List (List ℕ)
parts path = slice_split (λ byte. byte == slash) path

abbrev pub segments_of : List ℕ → List (List ℕ)
segments_of path = parts (inner path)

-- the path of segments, from a repository's root
abbrev pub led : List (List ℕ) → List ℕ
led segments = flat_map (λ segment. slash ∷ segment) segments

abbrev pub path_of : List (List ℕ) → List ℕ
path_of [] = slash ∷ []
path_of (segment ∷ segments) = led (segment ∷ segments)

-- ---- `.` stays where it is, and `..` takes back the segment before it: out of the root there is
-- no path. Empty segments are like any other.

-- all but the last
abbrev pub parent : List (List ℕ) → Option (List (List ℕ))
parent [] = None
parent (segment ∷ []) = Some []
parent (segment ∷ next ∷ segments) =
    option_map (λ rest. segment ∷ rest) (parent (next ∷ segments))

abbrev pub walked : List (List ℕ) → List ℕ → Option (List (List ℕ))
walked before segment =
    if is segment (codes ".") then Some before
    else if is segment (codes "..") then parent before
    else Some (before ++ segment ∷ [])

abbrev pub walked_on : List (List ℕ) → List (List ℕ) → Option (List (List ℕ))
walked_on before [] = Some before
walked_on before (segment ∷ segments) =
    option_and_then (λ next. walked_on next segments) (walked before segment)

-- where a path leads from a repository's root
abbrev pub from_root : List ℕ → Option (List ℕ)
from_root path = option_map path_of (walked_on [] (segments_of path))

-- where a path leads that a file holds
abbrev pub from_file : List ℕ → List ℕ → Option (List ℕ)
from_file file path = from_root (merged file path)
