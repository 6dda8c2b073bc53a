use Rattle.std.proofs.Common.{◌≡◌, ◌++◌, [], IfOk, ap, subst, ◌∙◌}
use Rattle.pl_changes.specs.Differing.{differing, Joins}
use Rattle.pl_journal.specs.Log.{Log}
use Rattle.pl_rows.specs.Entry.{with_added}
use Rattle.pl_rows.specs.Below.pl_touched.specs.Touched.{rows_at, touched_by, FitAt}
use Rattle.pl_row_changes.specs.Changing.{installed}
use Rattle.pl_row_changes.specs.Looking.{numbers}
use Rattle.pl_row_changes.proofs.Behind.{on_err, whole}
use Rattle.pl_row_changes.proofs.OfEntry.{of_looked}
use Rattle.pl_row_changes.proofs.changing.looked_changes.Goals as goal

pub returns-in_err-behind-clause-err : goal.returns-in_err-behind-clause-err
returns-in_err-behind-clause-err c = on_err c.from_residual.result _ (
  c.args.added.now,
  whole c.args.journal.now c.args.added.now c.requires,
)

pub returns-clause-changes : goal.returns-clause-changes
returns-clause-changes c =
    let added = c.args.added.now in
    let log = installed c.args.journal.now in
    let rows = c.in_ok-behind.behind.items in
    let looked = c.in_ok-looked.looked in
    let here : c.journal.result.now ≡ with_added log added =
    c.journal.ensures ∙ whole c.args.journal.now added c.requires in
    let later : c.journal-2.result.now ≡ with_added log added =
    c.journal-2.ensures ∙ c.in_ok-push_copies.ensures.ok
    ∙ ap (λ (l : Log). with_added l added) c.look_before.ensures.journal in
    of_looked c.args.change log added rows looked c.in_ok-looked.ensures.looked
    c.in_ok-behind.ensures.apart
    (subst (λ (l : Log). Joins [] (rows_at (touched_by added) l.facts) rows) here
    c.in_ok-behind.ensures.rows)
    (subst (λ (l : Log). FitAt (touched_by added) l.facts) here c.in_ok-behind.ensures.fits)
    c.changes_behind.result c.changes_behind.ensures.next
    (subst (λ (l : Log). IfOk c.changes_behind.result (λ told. told.changes ≡
    differing looked.old.items (numbers looked.next l ++ looked.behind.items))) later
    c.changes_behind.ensures.changes)
