use Rattle.std.proofs.Common.{◌≡◌, ◌+◌, ◌++◌, [], length, refl, subst, ◌∙◌}
use Rattle.pl_changes.specs.Differing.{differing, Joins}
use Rattle.pl_journal.specs.Log.{Log}
use Rattle.pl_rows.specs.Below.pl_touched.specs.Touched.{rows_at, touched_by}
use Rattle.pl_row_changes.specs.Changing.{installed}
use Rattle.pl_row_changes.specs.Looking.{numbers}
use Rattle.pl_row_changes.proofs.looked.look_before.Goals as goal

pub returns-clause-looked : goal.returns-clause-looked
returns-clause-looked c =
    let log = installed c.args.journal.now in
    let rows = c.in_ok-before.before.items in
    let here : c.journal.result.now ≡ log = c.journal.ensures ∙ c.back_to_installed.ensures in
    let later : c.journal-2.result.now ≡ log = c.journal-2.ensures ∙ c.back_to_installed.ensures in
    record {
      seen = record {
        touched = rows;
        apart = c.in_ok-before.ensures.apart;
        joins = subst (λ (l : Log). Joins [] (rows_at (touched_by c.args.added.now) l.facts) rows)
            here c.in_ok-before.ensures.rows;
        whole = subst (λ (l : Log). c.in_ok-old.old.items ≡ numbers c.args.change l ++ rows) later
            c.in_ok-old.ensures;
      };
      behind_is = refl;
      next_is = c.in_ok-next.ensures ∙ (λ i. c.args.change
          + length (differing (c.as_slice.ensures.value i) (c.as_slice-2.ensures.value i)));
    }
