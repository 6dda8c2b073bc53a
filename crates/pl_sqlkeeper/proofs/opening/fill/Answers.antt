use Rattle.sqlite.specs.Held.{state}
use Rattle.sqlite.proofs.StateLemmas.{survives_then}
use Rattle.pl_sqlkeeper.proofs.opening.fill.Goals as goal

pub returns-clause-crash : goal.returns-clause-crash
returns-clause-crash g c =
    survives_then (state g.S.Store c.args.conn.now) (state g.S.Store c.make_table.new.conn)
    (state g.S.Store c.judge.new.conn) _ _ _ (λ _ db made. made) (λ _ db none. absurd none)
    c.make_table.ensures.crash c.judge.ensures.survives
