use Rattle.std.proofs.Common.{List, [], sym, subst}
use Rattle.pl_base.specs.declared.row.Change.{Change}
use Rattle.pl_row_changes.specs.Changing.{AreOfEntry}
use Rattle.pl_row_changes.proofs.OfEntry.{of_none}
use Rattle.pl_row_changes.proofs.changing.EntryChanges.none.Goals as goal

pub returns : goal.returns
returns c = λ log. subst (λ (changes : List Change).
    AreOfEntry c.args.change c.args.change log [] changes) (sym c.new.ensures)
    (of_none c.args.change log)
