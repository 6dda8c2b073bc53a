use Rattle.std.proofs.Common.{sym, ap, ◌∙◌, refl, rules}
use Rattle.pl_turn.proofs.Seatings.{draws_number}
use Rattle.pl_turn.proofs.stepping.draw_number.Goals as goal

pub compare_exchange-found-requires : goal.compare_exchange-found-requires
compare_exchange-found-requires g c =
    let i = c.loop.invariant in
    let new = c.requires.new in (
      i.own ∙ (c.requires.own ∙ sym c.lock.view_is),
      search rules,
      draws_number _ _ _ _ _ _ _ _ _ refl (ap (λ m. m.0.drawn) i.same ∙ c.requires.drawn)
          (ap (λ m. m.0.mine) i.same ∙ new.0) (ap (λ m. m.0.joined) i.same ∙ new.1)
          (c.requires.live.0, ap (λ m. m.0.label) i.same ∙ c.requires.live.1),
    )
