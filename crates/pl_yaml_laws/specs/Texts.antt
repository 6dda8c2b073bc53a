-- Texts as characters (YAML 1.2.2, sections 5.1 and 5.2).
use Rattle.std.specs.Prelude.{◌≡◌, ℕ, ◌≤◌, true, List, length, Result, Ok, encode_utf8_all}
use Rattle.std.specs.Str.{all_scalars}
use Rattle.pl_base.specs.declared.place.FileKey.{FileKey}
use Rattle.pl_base.specs.declared.place.Place.{Place}
use Rattle.pl_base.specs.Places.{place_at}
use Rattle.pl_base.specs.declared.node.Node.{Node}
use Rattle.pl_base.specs.declared.node.NodeBody.TheVariants.{Scalar}
use Rattle.pl_line.specs.declared.code.YamlCode.{YamlCode}
use Rattle.pl_yaml.specs.Spells.{spells}

-- Unicode scalar values that take at most 262,144 bytes in UTF-8
abbrev pub IsText : List ℕ → Type 0
IsText characters = (all_scalars characters ≡ true) × (length (encode_utf8_all characters) ≤ 262144)

-- what a text of these characters spells
abbrev pub spelled : FileKey → List ℕ → Result Node (YamlCode × Place)
spelled file characters = spells file (encode_utf8_all characters)

-- a scalar of these characters at a text's start
abbrev pub scalar_alone : FileKey → List ℕ → Result Node (YamlCode × Place)
scalar_alone file characters =
    Ok (record { place = place_at file 1 1; body = Scalar (encode_utf8_all characters) })
