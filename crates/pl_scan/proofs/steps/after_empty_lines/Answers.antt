use Rattle.pl_scan.specs.declared.place.Place.TheVariants as place
use Rattle.pl_scan.proofs.Leading.{byte_is, empty_line, empty_return, method_begun}
use Rattle.pl_scan.proofs.steps.after_empty_lines.Goals as goal

pub returns-in-10 : goal.returns-in-10
returns-in-10 c =
    byte_is place.EmptyLines place.EmptyLines _ 10 c.in-10.is empty_line

pub returns-in-13 : goal.returns-in-13
returns-in-13 c =
    byte_is place.EmptyLines place.EmptyLineReturn _ 13 c.in-13.is empty_return

pub returns-in_default : goal.returns-in_default
returns-in_default c = method_begun c.args.byte (cc)
