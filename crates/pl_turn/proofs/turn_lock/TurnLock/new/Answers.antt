use Rattle.std.proofs.Common.{◌∷◌, [], List, Option, sym, ap, subst}
use Rattle.atomic_table.specs.Table.{opening}
use Rattle.pl_turn.specs.Rule.{OneHistory, founder}
use Rattle.pl_turn.proofs.Seatings.{begins}
use Rattle.pl_turn.proofs.turn_lock.TurnLock.new.Goals as goal

pub new-requires : goal.new-requires
new-requires g c =
    let l = g.T.Standing.label c.of-about.result.value in
    subst
    (λ (slots : List (Option g.row.T.Denot)). OneHistory g.T.Standing.history g.T.Standing.label
    g.T.Standing.names l (opening (0 ∷ 0 ∷ 1 ∷ []) slots (founder l)))
    (sym c.in-Ok.ensures.ok)
    (begins g.T.Standing.history g.T.Standing.label g.T.Standing.names l c.args.value c.requires
    (sym (ap g.T.Standing.label c.of-about.ensures)))
