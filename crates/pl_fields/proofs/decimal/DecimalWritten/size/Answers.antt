use Rattle.std.proofs.Common.{length, ap, arith}
use Rattle.std.specs.Fmt.{decimal}
use Rattle.pl_fields.specs.WaysOfFields.{text_len}
use Rattle.pl_fields.proofs.decimal.DecimalWritten.size.Goals as goal

pub returns : goal.returns
returns c = omega (
  arith,
  ap length c.format.ensures.text,
  text_len (decimal c.args.self.now.number),
  c.format.ensures.short,
)
