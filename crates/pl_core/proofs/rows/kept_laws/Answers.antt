use Rattle.pl_core.proofs.Rowed.{kept_with, new_kept_rows}
use Rattle.pl_core.proofs.rows.kept_laws.Goals as goal

pub returns-clause-new : goal.returns-clause-new
returns-clause-new c = new_kept_rows

pub returns-clause-kept : goal.returns-clause-kept
returns-clause-kept c = λ state entry changes rows orderly legal follows are were.
    kept_with state entry changes rows
    (c.entry_laws.ensures.fresh state.opening state.entries entry orderly legal follows) are were
