use Rattle.std.proofs.Common.{◌+◌}
use Rattle.pl_scan.specs.declared.place.Place.TheVariants as place
use Rattle.pl_scan.proofs.Leading.{byte_is, value_feed, value_return, value_more}
use Rattle.pl_scan.proofs.steps.after_value.Goals as goal

pub returns-in-10 : goal.returns-in-10
returns-in-10 c =
    byte_is (place.Value c.args.fields) (place.Lines (c.args.fields + 1)) _ 10 c.in-10.is
    (value_feed c.args.fields c.if-fields-lt-FIELD_LIMIT.true)

pub returns-in-13 : goal.returns-in-13
returns-in-13 c =
    byte_is (place.Value c.args.fields) (place.ValueReturn c.args.fields) _ 13 c.in-13.is
    (value_return c.args.fields)

pub returns-in_default : goal.returns-in_default
returns-in_default c = value_more c.args.byte c.args.fields (cc)
