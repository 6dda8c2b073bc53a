use Rattle.std.proofs.Common.{Some, ap, drop, ◌∙◌}
use Rattle.pl_due.specs.Below.pl_cond.proofs.Roots.{if_ok}
use Rattle.pl_journal.specs.Log.{Log}
use Rattle.pl_granting.specs.Asked.{of}
use Rattle.pl_granting.specs.Broken.{asked_rules}
use Rattle.pl_granting.specs.Rules.{ended, taken}
use Rattle.pl_granting.proofs.InOrder.{not_told, told}
use Rattle.pl_granting.proofs.first_broken.by_job.Goals as goal

pub returns-in-Some : goal.returns-in-Some
returns-in-Some c =
    let at = of c.args.at.now in
    let facts = c.args.journal.now.facts in
    let rules = asked_rules facts c.args.moment c.args.agent.now at in
    told (ended facts at) (drop 1 rules) c.in-Some.rule c.in_ok-rule.field-0
    (c.in_ok-rule.ensures ∙ ap (λ (log : Log). ended log.facts at) c.journal.ensures) c.in-Some.is

pub returns-in-Some-2 : goal.returns-in-Some-2
returns-in-Some-2 c =
    let at = of c.args.at.now in
    let facts = c.args.journal.now.facts in
    let agent = c.args.agent.now.name in
    let rules = asked_rules facts c.args.moment c.args.agent.now at in
    not_told (ended facts at) (drop 1 rules) (Some c.in-Some-2.rule) c.in_ok-rule.field-0
    (c.in_ok-rule.ensures ∙ ap (λ (log : Log). ended log.facts at) c.journal.ensures)
    c.in_default.is
    (told (taken facts agent at) (drop 2 rules) c.in-Some-2.rule c.in_ok-rule-2.field-0
    (c.in_ok-rule-2.ensures ∙ ap (λ (log : Log). taken log.facts agent at) c.journal-2.ensures)
    c.in-Some-2.is)

pub returns : goal.returns
returns c =
    let at = of c.args.at.now in
    let facts = c.args.journal.now.facts in
    let agent = c.args.agent.now.name in
    let rules = asked_rules facts c.args.moment c.args.agent.now at in
    if_ok _ _ c.by_agent.result (λ found first.
    not_told (ended facts at) (drop 1 rules) found c.in_ok-rule.field-0
    (c.in_ok-rule.ensures ∙ ap (λ (log : Log). ended log.facts at) c.journal.ensures)
    c.in_default.is
    (not_told (taken facts agent at) (drop 2 rules) found c.in_ok-rule-2.field-0
    (c.in_ok-rule-2.ensures ∙ ap (λ (log : Log). taken log.facts agent at) c.journal-2.ensures)
    c.in_default-2.is first)) c.by_agent.ensures
