use Rattle.pl_keeper.proofs.KeyOrder.{rows_sort}
use Rattle.pl_keeper.proofs.OneRow.{one_record}
use Rattle.pl_keeper.proofs.Short.{kept_is_short}
use Rattle.pl_keeper.proofs.laws.record_laws.Goals as goal

pub returns : goal.returns
returns c = record { one = one_record; sorted = rows_sort; short = kept_is_short }
