use Rattle.std.proofs.Common.{sym, ◌∙◌}
use Rattle.std.proofs.lemmas.Bool.{false≢true}
use Rattle.pl_due.specs.Asked.{facts_of}
use Rattle.pl_due.proofs.Picking.{not_picked, picked_one}
use Rattle.pl_due.proofs.contention.contender_if.Goals as goal

pub returns-in_ok-one : goal.returns-in_ok-one
returns-in_ok-one g c =
    let at = c.args.at.now in
    picked_one (facts_of at) (g.H.Holding.of c.args.holding.now (facts_of at) at.moment)
    at.queued.now at.planned.now at.run at.stage c.requires.there c.in_ok-one.one
    (c.in_ok-holds.ensures.0 c.if-branch.true) c.in_ok-one.ensures

pub returns-else-branch : goal.returns-else-branch
returns-else-branch g c =
    let at = c.args.at.now in
    not_picked (facts_of at) (g.H.Holding.of c.args.holding.now (facts_of at) at.moment)
    at.queued.now at.planned.now at.run at.stage c.requires.there
    (λ holds. false≢true (sym c.if-branch.false ∙ c.in_ok-holds.ensures.1 holds))
