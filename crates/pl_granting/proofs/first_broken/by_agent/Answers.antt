use Rattle.std.proofs.Common.{Some, ap, drop, ◌∙◌}
use Rattle.pl_due.specs.Below.pl_cond.proofs.Roots.{if_ok}
use Rattle.pl_journal.specs.Log.{Log}
use Rattle.pl_granting.specs.Asked.{of}
use Rattle.pl_granting.specs.Broken.{asked_rules}
use Rattle.pl_granting.specs.Rules.{busy, lacks, other_pool}
use Rattle.pl_granting.proofs.InOrder.{not_told, told}
use Rattle.pl_granting.proofs.first_broken.by_agent.Goals as goal

pub returns-in-Some : goal.returns-in-Some
returns-in-Some c =
    let at = of c.args.at.now in
    let facts = c.args.journal.now.facts in
    let name = c.args.agent.now.name in
    let rules = asked_rules facts c.args.moment c.args.agent.now at in
    told (busy facts name) (drop 3 rules) c.in-Some.rule c.in_ok-rule.field-0
    (c.in_ok-rule.ensures ∙ ap (λ (log : Log). busy log.facts name) c.journal.ensures) c.in-Some.is

pub returns-in-Some-2 : goal.returns-in-Some-2
returns-in-Some-2 c =
    let at = of c.args.at.now in
    let facts = c.args.journal.now.facts in
    let agent = c.args.agent.now in
    let rules = asked_rules facts c.args.moment agent at in
    not_told (busy facts agent.name) (drop 3 rules) (Some c.in-Some-2.rule) c.in_ok-rule.field-0
    (c.in_ok-rule.ensures ∙ ap (λ (log : Log). busy log.facts agent.name) c.journal.ensures)
    c.in_default.is
    (told (other_pool agent at) (drop 4 rules) c.in-Some-2.rule c.in_ok-rule-2.field-0
    c.in_ok-rule-2.ensures c.in-Some-2.is)

pub returns-in-Some-3 : goal.returns-in-Some-3
returns-in-Some-3 c =
    let at = of c.args.at.now in
    let facts = c.args.journal.now.facts in
    let agent = c.args.agent.now in
    let rules = asked_rules facts c.args.moment agent at in
    not_told (busy facts agent.name) (drop 3 rules) (Some c.in-Some-3.rule) c.in_ok-rule.field-0
    (c.in_ok-rule.ensures ∙ ap (λ (log : Log). busy log.facts agent.name) c.journal.ensures)
    c.in_default.is
    (not_told (other_pool agent at) (drop 4 rules) (Some c.in-Some-3.rule) c.in_ok-rule-2.field-0
    c.in_ok-rule-2.ensures c.in_default-2.is
    (told (lacks agent at) (drop 5 rules) c.in-Some-3.rule c.in_ok-rule-3.field-0
    c.in_ok-rule-3.ensures c.in-Some-3.is))

pub returns : goal.returns
returns c =
    let at = of c.args.at.now in
    let facts = c.args.journal.now.facts in
    let agent = c.args.agent.now in
    let rules = asked_rules facts c.args.moment agent at in
    if_ok _ _ c.by_stage.result (λ found first.
    not_told (busy facts agent.name) (drop 3 rules) found c.in_ok-rule.field-0
    (c.in_ok-rule.ensures ∙ ap (λ (log : Log). busy log.facts agent.name) c.journal.ensures)
    c.in_default.is
    (not_told (other_pool agent at) (drop 4 rules) found c.in_ok-rule-2.field-0
    c.in_ok-rule-2.ensures c.in_default-2.is
    (not_told (lacks agent at) (drop 5 rules) found c.in_ok-rule-3.field-0
    c.in_ok-rule-3.ensures c.in_default-3.is first))) c.by_stage.ensures
