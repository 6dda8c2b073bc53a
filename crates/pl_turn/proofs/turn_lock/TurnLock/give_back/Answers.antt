use Rattle.std.proofs.Common.{sym, ap, ◌∙◌, inl, inr, ⊎_elim}
use Rattle.pl_turn.specs.History.{entries_of}
use Rattle.pl_turn.proofs.Beginnings.{own-stays, own-grows}
use Rattle.pl_turn.proofs.Views.{at_true}
use Rattle.pl_turn.proofs.turn_lock.TurnLock.give_back.Goals as goal

pub returns-clause-grows : goal.returns-clause-grows
returns-clause-grows g c =
    let is = c.seat.view_is in
    let e = c.end_turn.ensures in
    let names = g.T.Standing.names in
    let before = c.args.seat.now in
    let after = g.T.Standing.history c.args.value in
    let number = ap (λ p. p.number) is in
    let seen = ap (λ m. m.0.seen) e.ended in
    let own =
    sym (ap (λ p. p.mine) is)
    ∙ (at_true _ _ _ c.seat.invariant.1 e.mine
    ∙ λ k. entries_of names (number k) (ap (λ p. p.seen) is k)) in
    let own' = ap (λ m. m.0.mine) e.ended ∙ ap (λ n. entries_of names n after) number in
    ⊎_elim
    (λ same. inl (seen ∙ same, own-stays names before.number before.seen after _ _ same own own'))
    (λ one. inr (
      one.0,
      one.1,
      seen ∙ one.2,
      own-grows names before.number before.seen after _ _ one.0 one.1 one.2 own own',
    ))
    c.requires.history
