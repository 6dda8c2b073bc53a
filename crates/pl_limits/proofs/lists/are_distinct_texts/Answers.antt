use Rattle.pl_limits.proofs.Texts.{rising_by_length}
use Rattle.pl_limits.proofs.lists.are_distinct_texts.Goals as goal

pub returns-then-rise_by_length : goal.returns-then-rise_by_length
returns-then-rise_by_length c =
    rising_by_length c.args.texts.now c.rise_by_length.result c.rise_by_length.ensures
    c.if-rise_by_length.true
