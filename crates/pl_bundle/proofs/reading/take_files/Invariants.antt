use Rattle.std.proofs.Common.{◌≡◌, [], length}
use Rattle.pl_bundle.specs.Bundles.{files_in, lines_of, placed}
use Rattle.pl_bundle.proofs.reading.take_files.Given as goal

abbrev pub invariant-loop-rest : goal.invariant-loop-rest
invariant-loop-rest l =
    ((files_in (lines_of l.rest)).0 ≡ [])
    × (placed l.initial.texts (files_in (lines_of l.bytes)).1
    ≡ placed l.texts (files_in (lines_of l.rest)).1)

abbrev pub decreases-loop-rest : goal.decreases-loop-rest
decreases-loop-rest l = length l.rest
