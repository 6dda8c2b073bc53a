use Rattle.std.proofs.Common.{Option, ap}
use Rattle.std.specs.Option.{option_map}
use Rattle.pl_kept.specs.Below.pl_keeper.specs.Rows.{row_of}
use Rattle.pl_kept.specs.Below.pl_keeper.specs.declared.records.Record.{Record}
use Rattle.pl_touched.proofs.Staying.{all_stay}
use Rattle.pl_touched.proofs.laws.touching_laws.Goals as goal

pub returns : goal.returns
returns c = λ facts added place new off.
    ap (λ (kept : Option Record). option_map row_of kept) (all_stay added facts place new off)
