use Rattle.pl_expr.proofs.Bytes.{digits_are_ascii}
use Rattle.pl_expr.proofs.numerals.skip_digits.Goals as goal

pub split_ascii-requires-clause-ascii : goal.split_ascii-requires-clause-ascii
split_ascii-requires-clause-ascii c = digits_are_ascii c.args.text.now _ (cc)
