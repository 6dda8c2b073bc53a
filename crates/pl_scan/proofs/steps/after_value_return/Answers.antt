use Rattle.std.proofs.Common.{◌+◌}
use Rattle.pl_scan.specs.declared.place.Place.TheVariants as place
use Rattle.pl_scan.proofs.Leading.{byte_is, value_returned}
use Rattle.pl_scan.proofs.steps.after_value_return.Goals as goal

pub returns-in-10 : goal.returns-in-10
returns-in-10 c =
    byte_is (place.ValueReturn c.args.fields) (place.Lines (c.args.fields + 1)) _ 10 c.in-10.is
    (value_returned c.args.fields c.if-fields-lt-FIELD_LIMIT.true)
