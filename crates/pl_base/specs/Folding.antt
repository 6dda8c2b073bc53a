-- Texts without regard to the case of ASCII's letters.
use Rattle.std.specs.Prelude.{ℕ, List, map}
use Rattle.std.specs.Char.{to_ascii_uppercase}

-- the bytes of a text in upper case by ASCII: a to z become A to Z, and every other byte stays
abbrev pub folded : List ℕ → List ℕ
folded text = map to_ascii_uppercase text
