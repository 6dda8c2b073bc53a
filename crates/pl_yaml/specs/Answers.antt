-- What `read` answers, by what a text spells.
use Rattle.std.specs.Prelude.{◌≡◌, ℕ, List, Result, Ok, Err}
use Rattle.pl_base.specs.declared.place.FileKey.{FileKey}
use Rattle.pl_base.specs.declared.place.Place.{Place}
use Rattle.pl_base.specs.declared.node.Node.{Node}
use Rattle.pl_line.specs.declared.code.YamlCode.{YamlCode}
use Rattle.pl_yaml.specs.declared.fault.YamlFault.{YamlFault}
use Rattle.pl_yaml.specs.declared.fault.YamlFault.TheVariants as faults
use Rattle.pl_yaml.specs.Spells.{spells}

-- what is answered is that, or want of memory
abbrev pub Answers : Result Node YamlFault → Result Node (YamlCode × Place) → Type 0
Answers (Ok node) spelled = spelled ≡ Ok node
Answers (Err faults.Memory) spelled = Unit {0}
Answers (Err (faults.Refused code place)) spelled = spelled ≡ Err (code, place)

abbrev pub Reads : FileKey → List ℕ → Result Node YamlFault → Type 0
Reads file text result = Answers result (spells file text)
