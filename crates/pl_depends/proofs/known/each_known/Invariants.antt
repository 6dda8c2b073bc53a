use Rattle.std.proofs.Common.{◌≡◌, drop}
use Rattle.pl_depends.specs.Gives.{each_passes}
use Rattle.pl_depends.specs.Known.{known}
use Rattle.pl_depends.specs.Places.{under}
use Rattle.pl_depends.proofs.known.each_known.Given as goal

abbrev pub invariant-loop-depend : goal.invariant-loop-depend
invariant-loop-depend l = each_passes (known (under l.places)) l.depends ≡ each_passes
    (known (under l.places)) (drop l.depend-index l.depends)
