use Rattle.std.proofs.Common.{take}
use Rattle.std.specs.List.{AllByRecursion}
use Rattle.pl_keeper.specs.Parts.{IsShortKeptFile}
use Rattle.pl_kept.specs.Told.{used_file}
use Rattle.pl_spots.proofs.used_files.UsedFilesShort.is_short.Given as goal

abbrev pub invariant-loop-file : goal.invariant-loop-file
invariant-loop-file l = AllByRecursion (λ pair. IsShortKeptFile (used_file pair))
    (take l.file-index l.file-items)
