use Rattle.pl_rows.proofs.Entry.{all_fit, overlooks_nothing}
use Rattle.pl_rows.proofs.Keeping.{kept_behind, no_rows, nothing_kept, stand_apart}
use Rattle.pl_rows.proofs.OneList.{one_list}
use Rattle.pl_rows.proofs.laws.rows_laws.Goals as goal

pub returns : goal.returns
returns c = record {
  one = one_list;
  entry = overlooks_nothing;
  kept = kept_behind;
  apart = stand_apart;
  none = no_rows;
  blank = nothing_kept;
  fit = all_fit;
}
