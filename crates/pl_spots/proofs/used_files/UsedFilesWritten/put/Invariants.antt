use Rattle.std.proofs.Common.{◌≡◌, ◌++◌, length, take}
use Rattle.std.specs.List.{flat_map, AllByRecursion}
use Rattle.pl_fields.specs.Fields.{count}
use Rattle.pl_keeper.specs.Parts.{kept_file, IsKeptFile}
use Rattle.pl_kept.specs.Told.{used_file}
use Rattle.pl_spots.proofs.used_files.UsedFilesWritten.put.Given as goal

abbrev pub invariant-loop-file : goal.invariant-loop-file
invariant-loop-file l = record {
  written : l.out.items ≡ (l.fn.out.items ++ count (length l.file-items)) ++
      flat_map (λ pair. kept_file (used_file pair)) (take l.file-index l.file-items);
  each : AllByRecursion (λ pair. IsKeptFile (used_file pair)) (take l.file-index l.file-items);
}
