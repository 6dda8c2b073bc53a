-- Characters that are read from bytes (YAML 1.2.2, section 5.2).
use Rattle.std.specs.Prelude.{ℕ, List, take, chars}
use Rattle.pl_line.specs.declared.characters.Characters.{Characters}

-- the first so many of those that are left of a text
abbrev pub all_of : Characters → List ℕ
all_of characters = take characters.len (chars characters.text.now)
