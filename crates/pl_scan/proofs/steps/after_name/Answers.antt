use Rattle.pl_scan.specs.declared.place.Place.TheVariants as place
use Rattle.pl_scan.proofs.Leading.{byte_is, name_ends, name_more}
use Rattle.pl_scan.proofs.steps.after_name.Goals as goal

pub returns-in-58 : goal.returns-in-58
returns-in-58 c =
    byte_is (place.Name c.args.fields) (place.Value c.args.fields) _ 58 c.in-58.is
    (name_ends c.args.fields)

pub returns-in_default : goal.returns-in_default
returns-in_default c = name_more c.args.byte c.args.fields (cc)
