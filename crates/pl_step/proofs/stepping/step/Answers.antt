use Rattle.std.proofs.Common.{ap, ◌∙◌}
use Rattle.pl_step.specs.declared.stepped.Stepped.{Stepped}
use Rattle.pl_step.proofs.Rowed.{none_changed}
use Rattle.pl_step.proofs.stepping.step.Goals as goal

pub returns-in-Some-2-clause-rows : goal.returns-in-Some-2-clause-rows
returns-in-Some-2-clause-rows c =
    none_changed c.args.held.now.change c.alone.result c.args.journal.now
    (ap (λ (stepped : Stepped). stepped.added)
    (c.alone.ensures.stepped ∙ c.in_ok-forbidden-in-Some-2.ensures)) c.alone.ensures.rows

pub returns-in-None-clause-rows : goal.returns-in-None-clause-rows
returns-in-None-clause-rows c =
    none_changed c.args.held.now.change c.alone-in-None.result c.args.journal.now
    (ap (λ (stepped : Stepped). stepped.added)
    (c.alone-in-None.ensures.stepped ∙ c.in_ok-unknown-in-None.ensures))
    c.alone-in-None.ensures.rows
