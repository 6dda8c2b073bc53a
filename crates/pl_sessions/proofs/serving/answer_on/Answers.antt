use Rattle.std.proofs.Common.{subst, List, ℕ}
use Rattle.pl_wire.specs.Waiting.{Awaits}
use Rattle.pl_wire.specs.Message.{IsPartial}
use Rattle.pl_sessions.proofs.Sessions.{stays}
use Rattle.pl_sessions.proofs.serving.answer_on.Goals as goal

pub returns-then-goes_on-clause-answers : goal.returns-then-goes_on-clause-answers
returns-then-goes_on-clause-answers g c = (
  stays _ c.args.buffer.now,
  subst IsPartial c.as_slice.ensures (c.goes_on.ensures.partial c.if-goes_on.true),
)

pub returns-clause-waits : goal.returns-clause-waits
returns-clause-waits g c =
    subst (λ (b : List ℕ). Awaits c.of.result b) c.as_slice-2.ensures c.of.ensures
