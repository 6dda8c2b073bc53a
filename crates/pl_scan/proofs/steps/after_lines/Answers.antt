use Rattle.pl_scan.specs.declared.place.Place.TheVariants as place
use Rattle.pl_scan.proofs.Leading.{byte_is, last_return, name_begun}
use Rattle.pl_scan.proofs.steps.after_lines.Goals as goal

pub returns-in-13 : goal.returns-in-13
returns-in-13 c =
    byte_is (place.Lines c.args.fields) (place.LastReturn c.args.fields) _ 13 c.in-13.is
    (last_return c.args.fields)

pub returns-in_default : goal.returns-in_default
returns-in_default c = name_begun c.args.byte c.args.fields (cc)
