use Rattle.std.proofs.Common.{ap, ◌∙◌}
use Rattle.pl_step.specs.Full.{back}
use Rattle.pl_step.specs.declared.stepped.Stepped.{Stepped}
use Rattle.pl_step.proofs.Rowed.{none_changed}
use Rattle.pl_step.proofs.entering.enter_facts.Goals as goal

pub returns-then-is_empty-clause-rows : goal.returns-then-is_empty-clause-rows
returns-then-is_empty-clause-rows c =
    none_changed c.args.held.now.change c.alone.result (back c.args.journal.now)
    (ap (λ (stepped : Stepped). stepped.added) c.alone.ensures.stepped
    ∙ c.is_empty.ensures.0 c.if-is_empty.true) c.alone.ensures.rows
