use Rattle.pl_spots.proofs.rows.row_at.Goals as goal

pub returns-in-Decision-clause-row : goal.returns-in-Decision-clause-row
returns-in-Decision-clause-row c = rw c.in-Decision.is c.decision_row.ensures.row

pub returns-in-Decision-clause-fits : goal.returns-in-Decision-clause-fits
returns-in-Decision-clause-fits c = rw c.in-Decision.is c.decision_row.ensures.fits
