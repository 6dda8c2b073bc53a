-- Places of what is read of a file.
use Rattle.std.specs.Prelude.{◌≡◌, ℕ, List, IfOk}
use Rattle.std.specs.List.{AllByRecursion}
use Rattle.pl_base.specs.declared.place.FileKey.{FileKey}
use Rattle.pl_base.specs.declared.place.Place.{Place}
use Rattle.pl_yaml.specs.Spells.{spells}
use Rattle.pl_origins.specs.Places.{places_of}

-- a place in that file
abbrev pub NamesFile : FileKey → Place → Type 0
NamesFile file place = place.file ≡ file

-- Each place of what a file's text spells, of a node or of a key, is one in that file.
abbrev pub ReadersNameTheirFile : Type 0
ReadersNameTheirFile =
    (file : FileKey) (text : List ℕ) →
    IfOk (spells file text) (λ node. AllByRecursion (NamesFile file) (places_of node))
