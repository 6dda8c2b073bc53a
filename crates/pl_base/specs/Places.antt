-- Places in files.
use Rattle.std.specs.Prelude.{ℕ}
use Rattle.pl_base.specs.declared.place.FileKey.{FileKey}
use Rattle.pl_base.specs.declared.place.Place.{Place}

-- a place of a file: its line and its column, from 1
abbrev pub place_at : FileKey → ℕ → ℕ → Place
place_at file line col = record { file = file; line = line; col = col }
