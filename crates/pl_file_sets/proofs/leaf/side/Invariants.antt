use Rattle.std.proofs.Common.{◌≡◌, take}
use Rattle.std.specs.List.{filter}
use Rattle.pl_file_sets.specs.Tries.{is_on_side}
use Rattle.pl_file_sets.proofs.leaf.side.Given as goal

abbrev pub invariant-loop-file : goal.invariant-loop-file
invariant-loop-file l =
    l.list ≡ filter (λ file. is_on_side l.high l.bit file.key) (take l.file-index l.files)
