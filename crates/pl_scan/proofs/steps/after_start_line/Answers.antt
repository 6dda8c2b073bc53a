use Rattle.pl_scan.specs.declared.place.Place.TheVariants as place
use Rattle.pl_scan.proofs.Leading.{byte_is, start_feed, start_return}
use Rattle.pl_scan.proofs.steps.after_start_line.Goals as goal

pub returns-in-10 : goal.returns-in-10
returns-in-10 c =
    byte_is place.StartLine (place.Lines 0) _ 10 c.in-10.is start_feed

pub returns-in-13 : goal.returns-in-13
returns-in-13 c =
    byte_is place.StartLine place.StartLineReturn _ 13 c.in-13.is start_return
