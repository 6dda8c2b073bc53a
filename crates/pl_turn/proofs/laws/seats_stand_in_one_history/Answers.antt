use Rattle.pl_turn.proofs.TwoSeats.{one_begins_the_other}
use Rattle.pl_turn.proofs.laws.seats_stand_in_one_history.Goals as goal

pub returns : goal.returns
returns g c label =
    one_begins_the_other g.T.Standing.history g.T.Standing.label g.T.Standing.names label
