use Rattle.std.proofs.Common.{sym, ◌∙◌}
use Rattle.std.proofs.lemmas.Bool.{false≢true}
use Rattle.pl_looks.proofs.quiet.running_until.Goals as goal

pub returns-then-is_running-clause-quiet : goal.returns-then-is_running-clause-quiet
returns-then-is_running-clause-quiet c = λ later behind before runs.
    c.jobs_until.ensures.quiet later behind before

pub returns-else-is_running-clause-quiet : goal.returns-else-is_running-clause-quiet
returns-else-is_running-clause-quiet c = λ later behind before runs.
    absurd (false≢true (sym c.if-is_running.false ∙ (c.is_running.ensures ∙ runs)))
