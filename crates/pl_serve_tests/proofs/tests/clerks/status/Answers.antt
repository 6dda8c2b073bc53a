use Rattle.std.proofs.Common.{subst}
use Rattle.pl_sessions.proofs.Forms.{well_formed}
use Rattle.pl_wire.specs.Message.{StandsFirst}
use Rattle.pl_serve_tests.proofs.tests.clerks.status.Goals as goal

pub act-requires-clause-well_formed : goal.act-requires-clause-well_formed
act-requires-clause-well_formed g c =
    well_formed c.requests_are_well_formed.ensures _ c.in-Whole.taken c.in-Whole.message
    (subst (λ next. StandsFirst c.as_bytes.result.now next) c.in-Whole.is c.in_ok-next.ensures)
