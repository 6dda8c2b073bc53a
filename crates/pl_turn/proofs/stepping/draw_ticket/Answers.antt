use Rattle.std.proofs.Common.{sym, ap, ◌∙◌, refl, rules}
use Rattle.pl_turn.proofs.Waits.{draws}
use Rattle.pl_turn.proofs.stepping.draw_ticket.Goals as goal

pub compare_exchange-found-requires : goal.compare_exchange-found-requires
compare_exchange-found-requires g c =
    let i = c.loop.invariant in (
      i.own ∙ (c.requires.own ∙ sym c.lock.view_is),
      search rules,
      draws _ _ _ g.T.Standing.counted _ _ _ _ _ _
          (ap (λ m. m.0.stage) i.same ∙ c.requires.free) refl,
    )
