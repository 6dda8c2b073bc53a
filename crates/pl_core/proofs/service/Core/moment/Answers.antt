use Rattle.std.proofs.Common.{arith}
use Rattle.pl_core.proofs.Installing.{moment_within}
use Rattle.pl_core.proofs.service.Core.moment.Goals as goal

pub returns-clause-within : goal.returns-clause-within
returns-clause-within c =
    omega (
      arith,
      c.self.invariant.1.moment_is,
      moment_within c.self.inside.first c.self.inside.journal c.self.inside.entries.items c.self.invariant.0,
    )
