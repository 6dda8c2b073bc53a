-- Where nothing is added, nothing changes among the kept rows.
use Rattle.std.proofs.Common.{◌≡◌, ℕ, List, [], sym, subst}
use Rattle.pl_facts.specs.declared.fact.Fact.{Fact}
use Rattle.pl_journal.specs.Log.{Log}
use Rattle.pl_row_changes.specs.Changing.{AreOfEntry}
use Rattle.pl_step.specs.declared.stepped.Entered.{Entered}

pub none_changed : (change : ℕ) (entered : Entered) (log : Log) → entered.stepped.added ≡ [] →
    ((one : Log) → AreOfEntry change entered.rows.next one [] entered.rows.changes) →
    AreOfEntry change entered.rows.next log entered.stepped.added entered.rows.changes
none_changed change entered log none rows =
    subst (λ (facts : List Fact). AreOfEntry change entered.rows.next log facts
    entered.rows.changes) (sym none) (rows log)
