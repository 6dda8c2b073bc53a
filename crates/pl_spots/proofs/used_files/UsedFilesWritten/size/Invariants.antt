use Rattle.std.proofs.Common.{◌≡◌, ◌+◌, length, take}
use Rattle.std.specs.List.{flat_map}
use Rattle.pl_fields.specs.Fields.{told_size}
use Rattle.pl_keeper.specs.Parts.{kept_file}
use Rattle.pl_kept.specs.Told.{used_file}
use Rattle.pl_spots.proofs.used_files.UsedFilesWritten.size.Given as goal

abbrev pub invariant-loop-file : goal.invariant-loop-file
invariant-loop-file l = l.size ≡ told_size (4 +
    length (flat_map (λ pair. kept_file (used_file pair)) (take l.file-index l.file-items)))
