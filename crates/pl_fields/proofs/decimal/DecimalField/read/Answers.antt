use Rattle.std.proofs.Common.{◌<◌, ◌^◌, sym, ◌∙◌}
use Rattle.std.specs.Fmt.{decimal}
use Rattle.pl_fields.specs.WaysOfFields.{piece_one_way}
use Rattle.pl_fields.specs.WaysOfDecimals.{decimal_short}
use Rattle.pl_fields.proofs.decimal.DecimalField.read.Goals as goal

pub returns-in_default : goal.returns-in_default
returns-in_default c = λ value rest begins.
    let small : value.number < 2 ^ 64 = begins.does_fit in
    c.in_default.ensures (decimal value.number) rest (decimal_short value.number small) begins.parts

pub returns-in-None : goal.returns-in-None
returns-in-None c = λ value rest begins.
    let small : value.number < 2 ^ 64 = begins.does_fit in
    let same = piece_one_way (decimal value.number) c.in-Some.text.now rest c.in-Some.rest.now
    (decimal_short value.number small) c.in-Some.ensures.0
    (sym begins.parts ∙ c.in-Some.ensures.1) in
    c.in-None.ensures value.number small (sym same.0)
