use Rattle.std.proofs.Common.{None, refl, subst, sym}
use Rattle.std.proofs.lemmas.List.{drop_all}
use Rattle.pl_granting.specs.Locked.{FirstHeld}
use Rattle.pl_granting.proofs.InList.{key_held, key_unheld}
use Rattle.pl_granting.proofs.locked.held_by.Goals as goal

pub loop-key-init : goal.loop-key-init
loop-key-init c = λ found first. first

pub returns-in-Some : goal.returns-in-Some
returns-in-Some c =
    key_held c.args.holders.now c.args.keys.now c.loop-key.key-index c.key-item.result
    c.loop-key-test.true c.key-item.is c.loop-key.invariant c.in-Some.stage.now (c.in-Some.ensures)

pub loop-key-preserved : goal.loop-key-preserved
loop-key-preserved c =
    key_unheld c.args.holders.now c.args.keys.now c.loop-key.key-index c.key-item.result
    c.loop-key-test.true c.key-item.is c.loop-key.invariant c.in_default.ensures

pub returns : goal.returns
returns c = c.loop-key.invariant None (subst (λ left. FirstHeld c.args.holders.now left None)
    (sym (drop_all c.loop-key.key-index c.args.keys.now c.loop-key-test.false)) refl)
