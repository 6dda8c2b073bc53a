use Rattle.std.proofs.Common.{◌-◌, arith, sym, ◌∙◌}
use Rattle.pl_torn.proofs.Finding.{cut_none, cut_some}
use Rattle.pl_torn.proofs.seen.is_cut.Goals as goal

pub returns-then-count-eq0 : goal.returns-then-count-eq0
returns-then-count-eq0 c = λ yes.
    cut_none (c.args.table, c.args.key.now) c.args.all.now c.requires.order c.args.count
    (omega (arith, c.if-count-eq0.true)) (sym c.comes_before.ensures ∙ c.if-comes_before.false)

pub returns : goal.returns
returns c = λ yes.
    cut_some (c.args.table, c.args.key.now) c.args.all.now c.requires.order c.args.count
    (c.args.count - 1) (omega (arith, c.if-count-eq0.false)) (omega (arith, c.if-count-all.false))
    (sym c.comes_before.ensures ∙ c.if-comes_before.false) (sym c.comes_before-2.ensures ∙ yes)
