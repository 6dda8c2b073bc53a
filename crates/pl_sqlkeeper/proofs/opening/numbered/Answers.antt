use Rattle.pl_sqlkeeper.proofs.Told.{ours_tested}
use Rattle.pl_sqlkeeper.proofs.opening.numbered.Goals as goal

pub returns-clause-ours : goal.returns-clause-ours
returns-clause-ours g c =
    ours_tested g.S.Store c.args.conn.now c.stored_numbers.new.conn
    c.in_ok-numbers.numbers.items c.tested.result c.requires.schema
    c.stored_numbers.ensures.schema c.in_ok-numbers.ensures.apart
    (rw c.as_slice.ensures.value at c.tested.ensures.apart)
