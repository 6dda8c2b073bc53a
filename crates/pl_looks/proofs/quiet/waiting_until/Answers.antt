use Rattle.std.proofs.Common.{sym, ◌∙◌}
use Rattle.std.proofs.lemmas.Bool.{false≢true}
use Rattle.pl_looks.proofs.quiet.waiting_until.Goals as goal

pub returns-then-waits-clause-quiet : goal.returns-then-waits-clause-quiet
returns-then-waits-clause-quiet c = λ later behind before waits.
    c.checks_until.ensures.quiet later behind before

pub returns-else-waits-clause-quiet : goal.returns-else-waits-clause-quiet
returns-else-waits-clause-quiet c = λ later behind before waits.
    absurd (false≢true (sym c.if-waits.false ∙ (c.waits.ensures ∙ waits)))
