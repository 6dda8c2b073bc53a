-- Files that are read as YAML.
use Rattle.std.specs.Prelude.{ℕ, List, Result, Ok, Err}
use Rattle.pl_base.specs.declared.node.Node.{Node}
use Rattle.pl_base.specs.declared.place.FileKey.{FileKey}
use Rattle.pl_base.specs.declared.place.Place.{Place}
use Rattle.pl_line.specs.declared.code.YamlCode.{YamlCode}
use Rattle.pl_yaml.specs.Spells as yaml
use Rattle.pl_yaml.specs.declared.fault.YamlFault.TheVariants.{Refused}
use Rattle.pl_calls.specs.declared.files.Parsed.{Parsed}
use Rattle.pl_calls.specs.declared.files.Parsed.TheVariants.{Good, Bad}

-- what a text spells, or why it spells nothing
abbrev pub read_as : Result Node (YamlCode × Place) → Parsed
read_as (Ok node) = Good node
read_as (Err told) = Bad (Refused told.0 told.1)

abbrev pub parsed : FileKey → List ℕ → Parsed
parsed key text = read_as (yaml.spells key text)
