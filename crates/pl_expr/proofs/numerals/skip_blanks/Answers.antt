use Rattle.pl_expr.proofs.Bytes.{blanks_are_ascii}
use Rattle.pl_expr.proofs.numerals.skip_blanks.Goals as goal

pub split_ascii-requires-clause-ascii : goal.split_ascii-requires-clause-ascii
split_ascii-requires-clause-ascii c = blanks_are_ascii c.args.text.now _ (cc)
