use Rattle.std.proofs.Common.{◌∙◌}
use Rattle.pl_looks.proofs.looking.look.Goals as goal

pub look_at-requires-clause-running : goal.look_at-requires-clause-running
look_at-requires-clause-running c =
    c.as_slice-running.ensures ∙ c.in_ok-stages.ensures.running

pub look_at-requires-clause-waiting : goal.look_at-requires-clause-waiting
look_at-requires-clause-waiting c =
    c.as_slice-waiting.ensures ∙ c.in_ok-stages.ensures.waiting
