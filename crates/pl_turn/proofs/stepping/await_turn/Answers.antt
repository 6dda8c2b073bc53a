use Rattle.std.proofs.Common.{sym, ap, ◌∙◌, subst, rules, eq-eqb, ne_eqb}
use Rattle.pl_turn.specs.Steps.{GotTurn}
use Rattle.pl_turn.proofs.Views.{at_true, at_false}
use Rattle.pl_turn.proofs.Waits.{awaits}
use Rattle.pl_turn.proofs.stepping.await_turn.Goals as goal

pub load-served-requires : goal.load-served-requires
load-served-requires g c =
    let i = c.loop.invariant in (
      i.own ∙ (c.requires.own ∙ sym c.lock.view_is),
      search rules,
      awaits _ _ _ _ _ _ _ _ c.args.ticket (ap (λ m. m.0.stage) i.same ∙ c.requires.waits)
          (c.requires.live.0, ap (λ m. m.0.label) i.same ∙ c.requires.live.1)
          (ap (λ m. m.0.drawn) i.same ∙ c.requires.drawn),
    )

pub returns-then-served-ticket-clause-turn : goal.returns-then-served-ticket-clause-turn
returns-then-served-ticket-clause-turn g c =
    let i = c.loop.invariant in
    let told = c.load-served.ensures.2 c.args.ticket
    (ap (λ m. m.0.stage) i.same ∙ c.requires.waits) in
    subst (λ m. GotTurn g.T.Standing.history g.T.Standing.label g.T.Standing.names
    g.T.Standing.counted c.args.ticket m c.load-served.new.seat.me)
    i.same
    (at_true _ _ _ (eq-eqb _ _ c.if-served-ticket.true) told)

pub loop-preserved : goal.loop-preserved
loop-preserved g c =
    let i = c.loop.invariant in
    let e = c.load-served.ensures in
    let told = e.2 c.args.ticket (ap (λ m. m.0.stage) i.same ∙ c.requires.waits) in
    record {
      own = e.0 ∙ i.own;
      place = e.1 ∙ i.place;
      same = at_false _ _ _ (ne_eqb _ _ c.if-served-ticket.false) told ∙ i.same;
    }
