use Rattle.pl_turn.proofs.TwoSeats.{apart}
use Rattle.pl_turn.proofs.laws.no_entry_is_of_two_seats.Goals as goal

pub returns : goal.returns
returns g c label = apart g.T.Standing.history g.T.Standing.label g.T.Standing.names label
