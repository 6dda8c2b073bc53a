use Rattle.std.proofs.Common.{sym, ◌∙◌, rules}
use Rattle.pl_turn.proofs.Seatings.{splits}
use Rattle.pl_turn.proofs.stepping.split_off.Goals as goal

pub split_seat-requires : goal.split_seat-requires
split_seat-requires g c = (
  c.requires.own
      ∙ sym c.lock.view_is,
  search rules,
  splits _ _ _ _ _ _ c.requires.live,
)
