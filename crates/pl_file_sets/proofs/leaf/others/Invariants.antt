use Rattle.std.proofs.Common.{◌≡◌, not, take}
use Rattle.std.specs.List.{filter}
use Rattle.pl_file_sets.specs.Tries.{is_key}
use Rattle.pl_file_sets.proofs.leaf.others.Given as goal

abbrev pub invariant-loop-file : goal.invariant-loop-file
invariant-loop-file l =
    l.others ≡ filter (λ file. not (is_key l.key file.key)) (take l.file-index l.files)
