use Rattle.std.proofs.Common.{subst}
use Rattle.pl_core.specs.State.{State}
use Rattle.pl_history.specs.Legal.{Legal}
use Rattle.pl_core.proofs.service.Core.guarded.Goals as goal

pub returns : goal.returns
returns c = c.access_laws.ensures.guarded c.args.self.now.opening c.args.self.now.entries
    (subst (λ (state : State). Legal state.opening state.entries) c.self.view_is
    c.self.invariant.0.legal)
