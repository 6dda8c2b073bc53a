use Rattle.std.proofs.Common.{ap, inr, sym, ◌∙◌}
use Rattle.pl_due.specs.Below.pl_cond.proofs.Roots.{if_ok}
use Rattle.pl_journal.specs.Log.{Log}
use Rattle.pl_granting.specs.Asked.{of}
use Rattle.pl_granting.specs.Rules.{is_held_by}
use Rattle.pl_granting.proofs.first_broken.broken.Goals as goal

pub returns : goal.returns
returns c =
    let at = of c.args.at.now in
    let name = c.args.agent.now.name in
    let moved = ap (λ (log : Log). is_held_by log.facts name at) c.journal.ensures in
    let other = sym (c.is_held_by.ensures ∙ moved) ∙ c.if-is_held_by.false in
    if_ok _ _ c.by_job.result (λ found first. inr (other, first)) c.by_job.ensures
