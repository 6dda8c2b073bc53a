-- The files of a bundle, one after another.
use Rattle.std.specs.Prelude.{◌≡◌, ◌<◌, ℕ, List, [], ◌∷◌, length, Option, MatchOption, ⊤}
use Rattle.std.specs.Borrow.{Bor}
use Rattle.std.specs.Option.{option_and_then}
use Rattle.pl_base.specs.declared.place.FileKey.{FileKey}
use Rattle.pl_bundle.specs.Bundles.{Texts, files_in, lines_of, placed}
use Rattle.pl_bundle.specs.Heads.{key_in}
use Rattle.pl_bundle.specs.declared.reading.Opened.{Opened}

abbrev pub file_in : Opened → FileKey × List ℕ
file_in opened = (key_in opened.head, opened.body.now)

-- bytes begin with that file, and behind it stands another one or nothing
abbrev pub IsOpened : List ℕ → Opened → Type 0
IsOpened bytes opened =
    (files_in (lines_of bytes) ≡ ([], file_in opened ∷ (files_in (lines_of opened.rest.now)).1))
    × (((files_in (lines_of opened.rest.now)).0 ≡ []) × (length opened.rest.now < length bytes))

-- a file is put, and the others behind it are yet to be; or there is no bundle
abbrev pub left_of : Texts → Option (Bor (List ℕ)) → Option Texts
left_of texts rest = option_and_then (λ rest. placed texts (files_in (lines_of rest.now)).1) rest

abbrev pub Takes : FileKey × List ℕ → List ℕ → Texts → Texts → Option (Bor (List ℕ)) → Type 0
Takes file behind before after rest =
    (placed before (file ∷ (files_in (lines_of behind)).1) ≡ left_of after rest)
    × MatchOption rest ⊤ (λ rest. rest.now ≡ behind)
