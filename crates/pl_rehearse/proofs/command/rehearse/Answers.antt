use Rattle.std.proofs.Common.{inl, inr, refl}
use Rattle.pl_rehearse.proofs.command.rehearse.Goals as goal

pub returns-in-Ok : goal.returns-in-Ok
returns-in-Ok g c =
    inr (record { line = c.in-Ok.line; is = c.in-Ok.ensures; writes = c.write_line.ensures })
