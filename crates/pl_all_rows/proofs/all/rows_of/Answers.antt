use Rattle.std.proofs.Common.{◌∙◌}
use Rattle.pl_all_rows.proofs.Ordered.{all_fit, are_rows}
use Rattle.pl_all_rows.proofs.all.rows_of.Goals as goal

pub returns-clause-rows : goal.returns-clause-rows
returns-clause-rows c =
    are_rows c.args.change c.args.journal.now c.in_ok-rows.rows.items c.put_apart.new.rows.items _
    c.in_ok-rows.ensures.rows c.in_ok-rows.ensures.fits c.put_apart.ensures.ascend
    c.put_apart.ensures.from c.put_apart.ensures.each (c.from_vec.ensures ∙ c.in_ok-all.ensures)

pub returns-clause-fits : goal.returns-clause-fits
returns-clause-fits c = all_fit c.args.journal.now.facts c.in_ok-rows.ensures.fits
