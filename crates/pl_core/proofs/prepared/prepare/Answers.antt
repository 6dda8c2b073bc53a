use Rattle.std.proofs.Common.{rules, ◌≡◌, []}
use Rattle.pl_core.proofs.Preparing.{no_facts}
use Rattle.pl_core.proofs.prepared.prepare.Goals as goal

pub returns-then-is_empty-clause-steps : goal.returns-then-is_empty-clause-steps
returns-then-is_empty-clause-steps c =
    let none : c.in_ok-stepped.field-0.stepped.added ≡ [] = search rules in
    no_facts c.args.held.now c.args.journal.now c.args.call.now c.args.made
    c.in_ok-stepped.field-0.stepped none c.in_ok-stepped.ensures.ok.0
