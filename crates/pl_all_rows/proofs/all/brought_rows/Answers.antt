use Rattle.std.proofs.Common.{◌<◌, [], take, subst}
use Rattle.pl_all_rows.specs.Brought.{brought_at, brought_by}
use Rattle.pl_row_changes.specs.Below.pl_touching.proofs.Following.{fit_all}
use Rattle.pl_all_rows.proofs.Pushed.{brought_next, push_all}
use Rattle.pl_all_rows.proofs.all.brought_rows.Goals as goal

pub loop-at-preserved : goal.loop-at-preserved
loop-at-preserved c =
    let facts = c.args.journal.now.facts in
    let at = c.loop-at.at in
    let are = brought_next facts at
    (subst (λ n. at < n) c.len-at-end.ensures c.loop-at-test.true) in
    let one = brought_by (take at facts) in
    let two = brought_at at facts in
    record {
      rows = push_all facts one two _ are [] c.loop-at.rows.items c.push_fact.new.rows.items
          c.loop-at.invariant.rows c.in_ok-push_fact.ensures.rows;
      fits = fit_all facts one two _ are c.loop-at.invariant.fits c.in_ok-push_fact.ensures.fits;
    }
