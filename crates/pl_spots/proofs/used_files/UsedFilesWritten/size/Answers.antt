use Rattle.pl_fields.proofs.Misses.{list_size}
use Rattle.pl_keeper.specs.Parts.{kept_file, IsKeptFile}
use Rattle.pl_kept.specs.Told.{used_file}
use Rattle.pl_spots.proofs.used_files.UsedFilesWritten.size.Goals as goal

pub returns : goal.returns
returns c = list_size (λ pair. kept_file (used_file pair)) (λ pair. IsKeptFile (used_file pair))
    c.args.self.now.files.now c.as_slice-file-items.result.now c.loop-file.size
    c.loop-file.file-index c.loop-file.invariant c.loop-file-test.false
    c.as_slice-file-items.ensures
