-- Files of texts, as they are read.
use Rattle.std.specs.Prelude.{◌≡◌, ℕ, List, map, Some}
use Rattle.std.specs.FinMap as finite
use Rattle.pl_base.specs.Files.{file_cmp}
use Rattle.pl_base.specs.declared.expanded.Argument.{Argument}
use Rattle.pl_base.specs.declared.expanded.Expanded.{Expanded}
use Rattle.pl_base.specs.declared.place.FileKey.{FileKey}
use Rattle.pl_step_origins.specs.Below.pl_calls.specs.declared.files.Parsed.{Parsed}
use Rattle.pl_directives.specs.declared.fault.ExpandFault.{ExpandFault}
use Rattle.pl_step_origins.specs.Below.pl_expand.specs.Below.pl_root.specs.Reading.{parsed}
use Rattle.pl_step_origins.specs.Below.pl_expand.specs.Tree.{expansion}
use Rattle.std.specs.Prelude.{Result}

abbrev pub Texts : Type 0
Texts = finite.FinMap file_cmp (List ℕ)

abbrev pub Read : Type 0
Read = finite.FinMap file_cmp Parsed

-- a file's text, read as YAML
abbrev pub read_one : FileKey × List ℕ → FileKey × Parsed
read_one file = (file.0, parsed file.0 file.1)

abbrev pub read_all : Texts → Read
read_all texts = finite.from_entries (map read_one (finite.entries texts))

-- what was read by now is what these texts spell
abbrev pub AreOf : Texts → Read → Type 0
AreOf texts read =
    (key : FileKey) → (file : Parsed) → finite.get read key ≡ Some file →
    finite.get (read_all texts) key ≡ Some file

-- a root file of a set of texts, with run arguments, expanded
abbrev pub tree_of : Texts → FileKey → List Argument → Result Expanded ExpandFault
tree_of texts root arguments = expansion (read_all texts) root arguments
