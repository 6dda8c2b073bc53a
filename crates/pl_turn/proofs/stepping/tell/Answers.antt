use Rattle.std.proofs.Common.{sym, ◌∙◌, rules}
use Rattle.pl_turn.proofs.Seatings.{joins}
use Rattle.pl_turn.proofs.stepping.tell.Goals as goal

pub join_seat-requires : goal.join_seat-requires
join_seat-requires g c =
    let here = sym c.lock.view_is in (
      c.requires.own.0 ∙ here,
      c.requires.own.1 ∙ here,
      c.requires.idle.1,
      search rules,
      joins _ _ _ _ _ _ _ _ c.requires.idle.0 c.requires.drawn c.requires.live,
    )
