use Rattle.std.proofs.Common.{take}
use Rattle.std.specs.List.{AllZip}
use Rattle.pl_sqlkeeper.specs.Stored.{Stores}
use Rattle.pl_sqlkeeper.proofs.rows.all_kept.Given as goal

abbrev pub invariant-loop-row : goal.invariant-loop-row
invariant-loop-row l = AllZip Stores (take l.row-index l.stored) l.rows.items
