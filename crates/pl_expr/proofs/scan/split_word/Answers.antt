use Rattle.pl_expr.proofs.Bytes.{name_bytes_are_ascii}
use Rattle.pl_expr.proofs.scan.split_word.Goals as goal

pub split_ascii-requires-clause-ascii : goal.split_ascii-requires-clause-ascii
split_ascii-requires-clause-ascii c = name_bytes_are_ascii c.args.text.now _ (cc)
