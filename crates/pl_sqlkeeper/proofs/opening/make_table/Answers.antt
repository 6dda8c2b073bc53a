use Rattle.sqlite.specs.Held.{state}
use Rattle.pl_sqlkeeper.proofs.Making.{blank_after, made_blank, made_ours}
use Rattle.pl_sqlkeeper.proofs.Queries.{open_clean}
use Rattle.pl_sqlkeeper.proofs.opening.make_table.Goals as goal

pub returns-clause-crash : goal.returns-clause-crash
returns-clause-crash g c =
    made_blank (state g.S.Store c.args.conn.now) (state g.S.Store c.execute.new.self) c.requires
    c.execute.ensures.survives

pub returns-clause-blank : goal.returns-clause-blank
returns-clause-blank g c =
    let new = c.execute.new.self in
    blank_after (state g.S.Store c.args.conn.now) (state g.S.Store new) c.execute.result
    (open_clean g.S.Store g.met.S.Store.shut_if_dirty new) c.requires c.execute.ensures.runs

pub returns-clause-made : goal.returns-clause-made
returns-clause-made g c =
    let new = c.execute.new.self in
    made_ours (state g.S.Store c.args.conn.now) (state g.S.Store new) c.execute.result
    (open_clean g.S.Store g.met.S.Store.shut_if_dirty new) c.requires c.execute.ensures.runs
