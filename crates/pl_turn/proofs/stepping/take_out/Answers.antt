use Rattle.std.proofs.Common.{Some, sym, ◌∙◌, rules}
use Rattle.pl_turn.proofs.stepping.take_out.Goals as goal

pub exchange-requires : goal.exchange-requires
exchange-requires g c = (
  c.requires.own ∙ sym c.lock.view_is,
  (Some c.requires.full.0, search (rules, c.requires.full.1)),
)
