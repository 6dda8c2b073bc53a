use Rattle.std.proofs.Common.{◌≡◌, true}
use Rattle.pl_keeper.specs.Parts.{IsShortKeptFile}
use Rattle.pl_kept.specs.Told.{used_file}
use Rattle.pl_spots.proofs.Mapped.{each_next, told_on}
use Rattle.pl_spots.proofs.used_files.UsedFilesShort.is_short.Goals as goal

pub loop-file-preserved : goal.loop-file-preserved
loop-file-preserved c =
    let on : c.is_short.result ≡ true = search (c.if-not-is_short.false, told_on) in
    each_next (λ pair. IsShortKeptFile (used_file pair)) c.as_slice-file-items.result.now
    c.loop-file.file-index c.file-item.result c.loop-file-test.true c.file-item.is
    c.loop-file.invariant (c.is_short.ensures on)
