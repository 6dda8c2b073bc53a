use Rattle.std.proofs.Common.{◌≡◌, [], arith, subst, rules}
use Rattle.sqlite.specs.State.{HasCleanDisk, Survives}
use Rattle.sqlite.specs.Held.{state}
use Rattle.pl_sqlkeeper.specs.Statements.{IsUndone}
use Rattle.pl_sqlkeeper.proofs.Committing.{back_to, broken_off}
use Rattle.pl_sqlkeeper.proofs.Queries.{keeps_query, looks}
use Rattle.pl_sqlkeeper.proofs.looking.look.Goals as goal

pub returns-clause-survives : goal.returns-clause-survives
returns-clause-survives g c =
    let old = c.args.conn.now in
    let end = c.drop-tx.new.self.0 in
    let same : end ≡ c.conn-1.given.0 = search rules in
    subst (λ h. Survives (state g.S.Store old) (state g.S.Store h) (λ _. ⊥)) same
    (broken_off g.S.Store [] old c.transaction-tx.result.conn.now
    c.query_all.new.self.conn.now end c.transaction-tx.ensures.begun c.query_all.ensures.survives
    (λ clean inside. keeps_query (λ rows. rows.items) _ _ _ _ c.query_all.result
    (c.query_all.ensures.ok clean) (c.query_all.ensures.err clean) inside)
    (λ _. ⊥) c.drop-tx.ensures.survives)

pub returns-clause-undone : goal.returns-clause-undone
returns-clause-undone g c =
    let old = c.args.conn.now in
    let end = c.drop-tx.new.self.0 in
    let same : end ≡ c.conn-1.given.0 = search rules in
    subst (λ h. HasCleanDisk (state g.S.Store h) →
    IsUndone (state g.S.Store old) (state g.S.Store h)) same
    (λ clean. back_to g.S.Store [] old c.transaction-tx.result.conn.now
    c.query_all.new.self.conn.now end c.transaction-tx.ensures.begun c.query_all.ensures.survives
    (λ clean inside. keeps_query (λ rows. rows.items) _ _ _ _ c.query_all.result
    (c.query_all.ensures.ok clean) (c.query_all.ensures.err clean) inside)
    clean c.drop-tx.ensures.survives (c.drop-tx.ensures.undone clean))

pub returns-clause-looked : goal.returns-clause-looked
returns-clause-looked g c =
    let old = c.args.conn.now in
    let end = c.drop-tx.new.self.0 in
    let same : end ≡ c.conn-1.given.0 = search rules in
    let early : HasCleanDisk (state g.S.Store end) →
    HasCleanDisk (state g.S.Store c.query_all.new.self.conn.now) =
    λ clean. omega (arith, c.drop-tx.ensures.survives.clean) in
    looks g.S.Store (λ rows. rows.items) _ old c.transaction-tx.result.conn.now
    c.query_all.new.self.conn.now c.conn-1.given.0 c.query_all.result c.transaction-tx.ensures.begun
    (subst (λ h. HasCleanDisk (state g.S.Store h) →
    HasCleanDisk (state g.S.Store c.query_all.new.self.conn.now)) same early)
    c.query_all.ensures.ok
