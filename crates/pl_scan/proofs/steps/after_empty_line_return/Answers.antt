use Rattle.pl_scan.specs.declared.place.Place.TheVariants as place
use Rattle.pl_scan.proofs.Leading.{byte_is, empty_returned}
use Rattle.pl_scan.proofs.steps.after_empty_line_return.Goals as goal

pub returns-in-10 : goal.returns-in-10
returns-in-10 c =
    byte_is place.EmptyLineReturn place.EmptyLines _ 10 c.in-10.is empty_returned
