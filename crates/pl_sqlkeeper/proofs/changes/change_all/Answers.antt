use Rattle.std.proofs.Common.{◌∙◌, arith}
use Rattle.sqlite.specs.State.{HasCleanDisk}
use Rattle.sqlite.specs.Held.{state}
use Rattle.sqlite.proofs.StateLemmas.{survives_then}
use Rattle.pl_sqlkeeper.proofs.Surviving.{keeps_then}
use Rattle.pl_sqlkeeper.proofs.Running.{ran_more, replaced_inside}
use Rattle.pl_sqlkeeper.proofs.changes.change_all.Goals as goal

pub loop-change-preserved : goal.loop-change-preserved
loop-change-preserved g c =
    let first = c.args.tx.now.conn.now in
    let now = c.loop-change.tx.conn.now in
    let next = c.change_one.new.tx.conn.now in
    let kept = c.loop-change.invariant in
    let early = λ (clean : HasCleanDisk (state g.S.Store next)).
    let before : HasCleanDisk (state g.S.Store now) =
    omega (arith, c.change_one.ensures.survives.clean) in before in record {
      same_reference = c.change_one.ensures.same_reference ∙ kept.same_reference;
      survives = survives_then (state g.S.Store first) (state g.S.Store now) (state g.S.Store next)
          _ _ (λ _. ⊥) (λ _ db none. none) (λ _ db none. none) kept.survives
          c.change_one.ensures.survives;
      kept = λ clean was. keeps_then (state g.S.Store first) (state g.S.Store now)
          (state g.S.Store next) (kept.kept (early clean) was)
          (c.change_one.ensures.kept clean (kept.inside (early clean) was));
      inside = λ clean was.
          replaced_inside g.S.Store _ c.change-item.result.body now next
          (c.in_ok-change_one.ensures.ran clean (kept.inside (early clean) was));
      ran = λ clean was last rest. ran_more g.S.Store c.args.changes.now
          c.loop-change.change-index c.change-item.result first now next last
          (omega (arith, c.loop-change-test.true)) c.change-item.is
          (c.in_ok-change_one.ensures.ran clean (kept.inside (early clean) was))
          (kept.ran (early clean) was last) rest;
    }
