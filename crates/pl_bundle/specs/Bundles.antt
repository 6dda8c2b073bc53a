-- A bundle: files in one text, each behind a line that names it, the root file first.
use Rattle.std.specs.Prelude.{ℕ, nat_eq, Bool, ◌==◌, ◌&&◌, List, [], ◌∷◌, ◌++◌, codes}
use Rattle.std.specs.Prelude.{Option, Some, None, if◌then◌else◌}
use Rattle.std.specs.Cmp.Lexicographic.{pointwise}
use Rattle.std.specs.FinMap as map
use Rattle.std.specs.List.{slice_split}
use Rattle.std.specs.Option.{is_none, option_map}
use Rattle.std.specs.Str.{is_utf8}
use Rattle.pl_base.specs.Files.{file_cmp}
use Rattle.pl_base.specs.declared.place.FileKey.{FileKey}
use Rattle.pl_names.specs.Names.{is_key}
use Rattle.pl_bundle.specs.declared.bundle.Bundle.{Bundle}

-- ---- lines, each with its line feed; the last one may have none

abbrev pub line_feed : ℕ
line_feed = 10

abbrev pub is_line_feed : ℕ → Bool
is_line_feed byte = byte == line_feed

abbrev pub on_line : ℕ → List (List ℕ) → List (List ℕ)
on_line byte [] = (byte ∷ []) ∷ []
on_line byte (line ∷ lines) = (byte ∷ line) ∷ lines

abbrev pub behind : ℕ → List (List ℕ) → List (List ℕ)
behind byte lines = if is_line_feed byte then (byte ∷ []) ∷ lines else on_line byte lines

abbrev pub lines_of : List ℕ → List (List ℕ)
lines_of [] = []
lines_of (byte ∷ bytes) = behind byte (lines_of bytes)

-- ---- a line that names a file: `%%% REPO REF PATH`, parted by single spaces

abbrev pub is_space : ℕ → Bool
is_space byte = byte == 32

-- what stands before the line feed
abbrev pub content : List ℕ → List ℕ
content [] = []
content (byte ∷ line) = if is_line_feed byte then [] else byte ∷ content line

abbrev pub three : List (List ℕ) → Option FileKey
three (repo ∷ git_ref ∷ path ∷ []) =
    Some (record { repo = repo; git_ref = git_ref; path = path })
three _ = None

abbrev pub key_by : List (List ℕ) → Option FileKey
key_by [] = None
key_by (mark ∷ parts) = if pointwise nat_eq mark (codes "%%%") then three parts else None

abbrev pub key_of : List ℕ → Option FileKey
key_of line = key_by (slice_split is_space (content line))

-- ---- the files: each has the lines up to the next one's name

-- what stands before the first name, and the files behind it
abbrev pub Files : Type 0
Files = List ℕ × List (FileKey × List ℕ)

abbrev pub joined : List ℕ → Option FileKey → Files → Files
joined line None read = (line ++ read.0, read.1)
joined line (Some key) read = ([], (key, read.0) ∷ read.1)

abbrev pub files_in : List (List ℕ) → Files
files_in [] = ([], [])
files_in (line ∷ lines) = joined line (key_of line) (files_in lines)

-- ---- each file has a key that keeps the rules, and that no other one has

abbrev pub are_texts : FileKey → Bool
are_texts key = is_utf8 key.repo && (is_utf8 key.git_ref && is_utf8 key.path)

abbrev pub is_readable : FileKey → Bool
is_readable key = are_texts key && is_key key

abbrev pub readable_key : FileKey → Option FileKey
readable_key key = if is_readable key then Some key else None

abbrev pub Texts : Type 0
Texts = map.FinMap file_cmp (List ℕ)

abbrev pub may_stand : FileKey → Texts → Bool
may_stand key texts = is_readable key && is_none (map.get texts key)

abbrev pub placed : Texts → List (FileKey × List ℕ) → Option Texts
placed texts [] = Some texts
placed texts (file ∷ files) =
    if may_stand file.0 texts then placed (map.insert texts file.0 file.1) files else None

-- ---- a bundle: nothing stands before the first file, which is the root

abbrev pub of_files : List (FileKey × List ℕ) → Option Bundle
of_files [] = None
of_files (file ∷ files) =
    option_map (λ texts. record { root = file.0; files = texts }) (placed map.empty (file ∷ files))

abbrev pub of_read : Files → Option Bundle
of_read ([], files) = of_files files
of_read (_ ∷ _, _) = None

abbrev pub bundle_of : List ℕ → Option Bundle
bundle_of bytes = of_read (files_in (lines_of bytes))
