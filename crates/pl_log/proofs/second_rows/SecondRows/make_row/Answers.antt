use Rattle.std.proofs.Common.{refl}
use Rattle.pl_log.specs.Keys.{Token}
use Rattle.pl_log.proofs.second_rows.SecondRows.make_row.Goals as goal

pub returns-in-Token-clause-same : goal.returns-in-Token-clause-same
returns-in-Token-clause-same c (Token token) = c.make_row.ensures.same token
returns-in-Token-clause-same c _ = refl
