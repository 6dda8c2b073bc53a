use Rattle.std.proofs.Common.{Some, ap, sym, ◌∙◌, arith}
use Rattle.pl_log.proofs.Walks.{found_item, no_item}
use Rattle.pl_log.proofs.walking.latest_item.Goals as goal

pub returns-then-from-eq0 : goal.returns-then-from-eq0
returns-then-from-eq0 g c = λ test number. no_item test c.args.kept.now c.args.from
    (omega (arith, c.if-from-eq0.true)) number

pub returns : goal.returns
returns g c = λ test number.
    ap (λ one. Some (one.item)) (sym c.index-kept-from.is)
    ∙ found_item test c.args.kept.now c.args.from c.index-kept-from.result
    (omega (arith, c.if-from-eq0.false)) c.requires c.index-kept-from.is number
