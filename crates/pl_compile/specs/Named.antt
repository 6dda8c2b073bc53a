-- Places in files of texts.
use Rattle.std.specs.Prelude.{◌≡◌}
use Rattle.pl_base.specs.declared.place.FileKey.{FileKey}
use Rattle.pl_base.specs.declared.place.Place.{Place}
use Rattle.pl_step_origins.specs.Below.pl_provenance.specs.Written.{StandsInFile}
use Rattle.pl_compile.specs.Reading.{Texts, read_all}

-- A node or a key that stands in the file of a key, as its text is read, stands in that file by its
-- own place too.
abbrev pub PlacesNameTheirFile : Type 0
PlacesNameTheirFile =
    (texts : Texts) (key : FileKey) (place : Place) → StandsInFile (read_all texts) key place →
    place.file ≡ key
