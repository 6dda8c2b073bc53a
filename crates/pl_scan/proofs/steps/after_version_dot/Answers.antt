use Rattle.std.proofs.Common.{arith}
use Rattle.pl_scan.specs.declared.place.Place.TheVariants as place
use Rattle.pl_scan.proofs.Leading.{byte_is, version_ends}
use Rattle.pl_scan.proofs.steps.after_version_dot.Goals as goal

pub returns-in-48 : goal.returns-in-48
returns-in-48 c =
    byte_is (place.Version 7) place.StartLine _ 48 c.in-48.is (version_ends 0 (omega arith))

pub returns-in-49 : goal.returns-in-49
returns-in-49 c =
    byte_is (place.Version 7) place.StartLine _ 49 c.in-49.is (version_ends 1 (omega arith))
