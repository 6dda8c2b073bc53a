use Rattle.std.proofs.Common.{◌∷◌, ◌∙◌, Some, ap, sym}
use Rattle.pl_sqlkeeper.proofs.Running.{changed_to}
use Rattle.pl_sqlkeeper.proofs.changes.change_one.Goals as goal

pub returns-in-Some-clause-ran : goal.returns-in-Some-clause-ran
returns-in-Some-clause-ran g c = λ clean inside.
    changed_to g.S.Store c.args.change.now c.as_slice-in-Some.result.now
    c.as_slice-in-Some-2.result.now c.args.tx.now.conn.now c.replace_row.new.tx.conn.now
    c.replace_row.result
    (c.as_slice-in-Some.ensures.value ∙ (c.in_ok-place.ensures ∙
    ap (λ key. c.args.change.now.table ∷ key) c.as_slice.ensures))
    (c.in-Some.is ∙ ap Some (sym c.as_slice-in-Some-2.ensures))
    (c.replace_row.ensures.ran clean inside)
