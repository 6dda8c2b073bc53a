use Rattle.std.proofs.Common.{◌≡◌, drop, IsTrue}
use Rattle.sqlite.specs.State.{HasCleanDisk, KeepsCommit, Survives}
use Rattle.sqlite.specs.Held.{Held, state}
use Rattle.pl_sqlkeeper.specs.Statements.{RanAll}
use Rattle.pl_sqlkeeper.proofs.changes.change_all.Given as goal

abbrev pub invariant-loop-change : goal.invariant-loop-change
invariant-loop-change g l = record {
  same_reference : l.tx.conn.ghost_name ≡ l.fn.tx.conn.ghost_name;
  survives : Survives (state g.S.Store l.fn.tx.conn.now) (state g.S.Store l.tx.conn.now) (λ _. ⊥);
  kept : HasCleanDisk (state g.S.Store l.tx.conn.now) → IsTrue l.fn.tx.conn.now.in_transaction →
      KeepsCommit (state g.S.Store l.fn.tx.conn.now) (state g.S.Store l.tx.conn.now);
  inside : HasCleanDisk (state g.S.Store l.tx.conn.now) →
      IsTrue l.fn.tx.conn.now.in_transaction → IsTrue l.tx.conn.now.in_transaction;
  ran : HasCleanDisk (state g.S.Store l.tx.conn.now) →
      IsTrue l.fn.tx.conn.now.in_transaction → (last : Held _) →
      RanAll g.S.Store (drop l.change-index l.changes) l.tx.conn.now last →
      RanAll g.S.Store l.changes l.fn.tx.conn.now last;
}
