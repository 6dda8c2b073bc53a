use Rattle.sqlite.specs.Held.{state}
use Rattle.pl_sqlkeeper.proofs.Surviving.{survives_any}
use Rattle.pl_sqlkeeper.proofs.opening.prepare.Goals as goal

pub returns-clause-crash : goal.returns-clause-crash
returns-clause-crash g c =
    survives_any (state g.S.Store c.args.conn.now) (state g.S.Store c.judge.new.conn) _
    c.judge.ensures.survives
