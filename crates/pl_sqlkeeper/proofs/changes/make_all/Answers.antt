use Rattle.std.proofs.Common.{◌≡◌, subst, rules}
use Rattle.sqlite.specs.Tree.{Trees}
use Rattle.sqlite.specs.State.{HasCleanDisk, Survives}
use Rattle.sqlite.specs.Held.{state}
use Rattle.pl_sqlkeeper.specs.Statements.{IsMade, IsUndone, Makes}
use Rattle.pl_sqlkeeper.proofs.Surviving.{after_error}
use Rattle.pl_sqlkeeper.proofs.Committing.{back_to, broken_off, crashes, is_made, lasts}
use Rattle.pl_sqlkeeper.proofs.Committing.{not_committed}
use Rattle.pl_sqlkeeper.proofs.changes.make_all.Goals as goal

pub returns-clause-crash : goal.returns-clause-crash
returns-clause-crash g c =
    let all = c.args.changes.now in
    let old = c.args.conn.now in
    let end = c.commit.new.self.0 in
    let same : end ≡ c.conn-2-1.given.0 = search rules in
    subst (λ h. Survives (state g.S.Store old) (state g.S.Store h) (Makes g.S.Store all old)) same
    (crashes g.S.Store all old c.transaction-tx.result.conn.now c.change_all.new.tx.conn.now end
    c.transaction-tx.ensures.begun c.change_all.ensures.survives c.change_all.ensures.kept
    (rw c.as_slice.ensures at c.in_ok-change_all.ensures.ran) c.commit.ensures.survives)

pub returns-clause-made : goal.returns-clause-made
returns-clause-made g c =
    let all = c.args.changes.now in
    let old = c.args.conn.now in
    let end = c.commit.new.self.0 in
    let same : end ≡ c.conn-2-1.given.0 = search rules in
    subst (λ h. HasCleanDisk (state g.S.Store h) → IsMade g.S.Store all old h) same
    (λ clean. is_made g.S.Store all old c.transaction-tx.result.conn.now
    c.change_all.new.tx.conn.now end c.transaction-tx.ensures.begun c.change_all.ensures.survives
    c.change_all.ensures.kept (rw c.as_slice.ensures at c.in_ok-change_all.ensures.ran)
    c.commit.ensures.survives clean (c.in_ok-commit.ensures.ok clean).1)

pub returns-clause-lasting : goal.returns-clause-lasting
returns-clause-lasting g c =
    let all = c.args.changes.now in
    let old = c.args.conn.now in
    let end = c.commit.new.self.0 in
    let same : end ≡ c.conn-2-1.given.0 = search rules in
    subst (λ h. HasCleanDisk (state g.S.Store h) → (db : Trees) →
    (state g.S.Store h).may_leave db → Makes g.S.Store all old db) same
    (λ clean. lasts g.S.Store all old end g.met.S.Store.settled
    (is_made g.S.Store all old c.transaction-tx.result.conn.now
    c.change_all.new.tx.conn.now end c.transaction-tx.ensures.begun c.change_all.ensures.survives
    c.change_all.ensures.kept (rw c.as_slice.ensures at c.in_ok-change_all.ensures.ran)
    c.commit.ensures.survives clean (c.in_ok-commit.ensures.ok clean).1))

pub returns-in_err-commit-clause-crash : goal.returns-in_err-commit-clause-crash
returns-in_err-commit-clause-crash g c =
    let all = c.args.changes.now in
    let old = c.args.conn.now in
    let end = c.commit.new.self.0 in
    let same : end ≡ c.conn-2-1.given.0 = search rules in
    subst (λ h. Survives (state g.S.Store old) (state g.S.Store h) (Makes g.S.Store all old)) same
    (crashes g.S.Store all old c.transaction-tx.result.conn.now c.change_all.new.tx.conn.now end
    c.transaction-tx.ensures.begun c.change_all.ensures.survives c.change_all.ensures.kept
    (rw c.as_slice.ensures at c.in_ok-change_all.ensures.ran) c.commit.ensures.survives)

pub returns-in_err-commit-clause-none : goal.returns-in_err-commit-clause-none
returns-in_err-commit-clause-none g c =
    let all = c.args.changes.now in
    let old = c.args.conn.now in
    let end = c.commit.new.self.0 in
    let same : end ≡ c.conn-2-1.given.0 = search rules in
    after_error c.from_residual-in_err-commit.result
    (subst (λ h. HasCleanDisk (state g.S.Store h) →
    IsUndone (state g.S.Store old) (state g.S.Store h)) same
    (λ clean. not_committed g.S.Store all old c.transaction-tx.result.conn.now
    c.change_all.new.tx.conn.now end c.transaction-tx.ensures.begun c.change_all.ensures.survives
    c.change_all.ensures.kept (rw c.as_slice.ensures at c.in_ok-change_all.ensures.ran)
    c.commit.ensures.survives _ clean (c.in_err-commit.ensures.err clean)))

pub returns-in_err-change_all-clause-crash : goal.returns-in_err-change_all-clause-crash
returns-in_err-change_all-clause-crash g c =
    let all = c.args.changes.now in
    let old = c.args.conn.now in
    let end = c.drop-tx.new.self.0 in
    let same : end ≡ c.conn-1.given.0 = search rules in
    subst (λ h. Survives (state g.S.Store old) (state g.S.Store h) (Makes g.S.Store all old)) same
    (broken_off g.S.Store all old c.transaction-tx.result.conn.now c.change_all.new.tx.conn.now end
    c.transaction-tx.ensures.begun c.change_all.ensures.survives c.change_all.ensures.kept
    (Makes g.S.Store all old) c.drop-tx.ensures.survives)

pub returns-in_err-change_all-clause-none : goal.returns-in_err-change_all-clause-none
returns-in_err-change_all-clause-none g c =
    let all = c.args.changes.now in
    let old = c.args.conn.now in
    let end = c.drop-tx.new.self.0 in
    let same : end ≡ c.conn-1.given.0 = search rules in
    after_error c.from_residual.result
    (subst (λ h. HasCleanDisk (state g.S.Store h) →
    IsUndone (state g.S.Store old) (state g.S.Store h)) same
    (λ clean. back_to g.S.Store all old c.transaction-tx.result.conn.now
    c.change_all.new.tx.conn.now end c.transaction-tx.ensures.begun c.change_all.ensures.survives
    c.change_all.ensures.kept clean c.drop-tx.ensures.survives (c.drop-tx.ensures.undone clean)))
