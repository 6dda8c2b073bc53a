use Rattle.std.proofs.Common.{sym, ◌∙◌, rules}
use Rattle.pl_turn.proofs.Seatings.{learns}
use Rattle.pl_turn.proofs.stepping.learn.Goals as goal

pub load-requires : goal.load-requires
load-requires g c = (
  c.requires.own
      ∙ sym c.lock.view_is,
  search rules,
  learns _ _ _ _ _ _ _ c.requires.idle,
)
