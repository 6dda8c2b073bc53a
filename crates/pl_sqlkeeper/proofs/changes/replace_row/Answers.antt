use Rattle.std.proofs.Common.{arith}
use Rattle.sqlite.specs.State.{HasCleanDisk}
use Rattle.sqlite.specs.Held.{state}
use Rattle.sqlite.proofs.StateLemmas.{survives_then}
use Rattle.pl_sqlkeeper.proofs.Surviving.{keeps_then, replaced}
use Rattle.pl_sqlkeeper.proofs.changes.replace_row.Goals as goal

pub returns-clause-survives : goal.returns-clause-survives
returns-clause-survives g c =
    survives_then (state g.S.Store c.args.tx.now.conn.now)
    (state g.S.Store c.take_row.new.tx.conn.now) (state g.S.Store c.put_row.new.tx.conn.now)
    _ _ (λ _. ⊥) (λ _ db none. none) (λ _ db none. none)
    c.take_row.ensures.survives c.put_row.ensures.survives

pub returns-clause-kept : goal.returns-clause-kept
returns-clause-kept g c = λ clean inside.
    let mid = c.take_row.new.tx.conn.now in
    let early : HasCleanDisk (state g.S.Store mid) =
    omega (arith, c.put_row.ensures.survives.clean) in
    keeps_then (state g.S.Store c.args.tx.now.conn.now) (state g.S.Store mid)
    (state g.S.Store c.put_row.new.tx.conn.now)
    (c.take_row.ensures.kept early inside)
    (c.put_row.ensures.kept clean (c.in_ok-take_row.ensures.ran early inside).shown.mode)

pub returns-clause-ran : goal.returns-clause-ran
returns-clause-ran g c = λ clean inside.
    let mid = c.take_row.new.tx.conn.now in
    let early : HasCleanDisk (state g.S.Store mid) =
    omega (arith, c.put_row.ensures.survives.clean) in
    let taken = c.in_ok-take_row.ensures.ran early inside in
    replaced g.S.Store c.args.place.now c.args.body.now c.args.tx.now.conn.now mid
    c.put_row.new.tx.conn.now c.put_row.result taken (c.put_row.ensures.ran clean taken.shown.mode)
