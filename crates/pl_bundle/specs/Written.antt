-- A bundle as a writer puts it: for each file a line that names it, and the file's text.
use Rattle.std.specs.Prelude.{◌≡◌, ℕ, List, [], ◌∷◌, ◌++◌, All, None, codes, flat_map}
use Rattle.pl_base.specs.declared.place.FileKey.{FileKey}
use Rattle.pl_bundle.specs.Bundles.{bundle_of, key_of, of_files}
use Rattle.pl_bundle.specs.Cuts.{Lacks}

-- `%%% REPO REF PATH`
abbrev pub name_of : FileKey → List ℕ
name_of key = codes "%%%" ++ 32 ∷ (key.repo ++ 32 ∷ (key.git_ref ++ 32 ∷ key.path))

abbrev pub with_feed : List ℕ → List ℕ
with_feed line = line ++ 10 ∷ []

abbrev pub written_file : FileKey × List ℕ → List ℕ
written_file file = with_feed (name_of file.0) ++ file.1

abbrev pub written : List (FileKey × List ℕ) → List ℕ
written files = flat_map written_file files

-- neither a space nor a line feed stands in it
abbrev pub IsPart : List ℕ → Type 0
IsPart part = Lacks 32 part × Lacks 10 part

-- a line that names no file
abbrev pub IsPlain : List ℕ → Type 0
IsPlain line = Lacks 10 line × (key_of line ≡ None)

-- A file that a bundle can hold: its key is three parts, and its text is whole lines, each ended by
-- a line feed, none of which names a file.
pub record CanStand (file : FileKey × List ℕ) : Type 0 where
  pub repo : IsPart file.0.repo
  pub git_ref : IsPart file.0.git_ref
  pub path : IsPart file.0.path
  pub lines : List (List ℕ)
  pub text_is : file.1 ≡ flat_map with_feed lines
  pub plain : All IsPlain lines

-- What is written of files that can stand in a bundle is read as these files: they are a bundle
-- where each key keeps the rules, and no other file has it.
abbrev pub WrittenIsRead : Type 0
WrittenIsRead =
    (files : List (FileKey × List ℕ)) → All CanStand files →
    bundle_of (written files) ≡ of_files files
