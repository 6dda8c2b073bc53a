use Rattle.sqlite.specs.Held.{state}
use Rattle.pl_sqlkeeper.proofs.Surviving.{keeps_inside, ran_inside}
use Rattle.pl_sqlkeeper.proofs.changes.put_row.Goals as goal

pub returns-clause-kept : goal.returns-clause-kept
returns-clause-kept g c = λ clean inside.
    keeps_inside _ _ (state g.S.Store c.args.tx.now.conn.now)
    (state g.S.Store c.execute.new.self.conn.now) c.execute.result
    (c.execute.ensures.runs clean inside)

pub returns-clause-ran : goal.returns-clause-ran
returns-clause-ran g c = λ clean inside.
    ran_inside g.S.Store _ _ c.args.tx.now.conn.now c.execute.new.self.conn.now c.execute.result
    (rw (c.params-to_sql.ensures, c.params-to_sql-2.ensures) at
    (c.execute.ensures.runs clean inside))
