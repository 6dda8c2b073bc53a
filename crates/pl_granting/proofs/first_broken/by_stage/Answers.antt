use Rattle.std.proofs.Common.{List, ◌∷◌, [], ap, drop, subst, sym, ◌∙◌}
use Rattle.pl_due.specs.Below.pl_cond.proofs.Roots.{if_ok}
use Rattle.pl_journal.specs.Log.{Log}
use Rattle.pl_granting.specs.Asked.{of}
use Rattle.pl_granting.specs.Broken.{FirstBroken, Telling, Tells, asked_rules}
use Rattle.pl_granting.specs.Locked.{Awaits, IsBehindRule, IsHeldRule}
use Rattle.pl_granting.specs.Rules.{full, is_started, job_waits, stage_waits, unpermitted}
use Rattle.pl_granting.proofs.InOrder.{four_passed, not_told, told}
use Rattle.pl_granting.proofs.first_broken.by_stage.Goals as goal

pub returns-in-Some : goal.returns-in-Some
returns-in-Some c =
    let at = of c.args.at.now in
    let facts = c.args.journal.now.facts in
    let rules = asked_rules facts c.args.moment c.args.agent.now at in
    told (stage_waits facts at) (drop 6 rules) c.in-Some.rule c.in_ok-rule.field-0
    (c.in_ok-rule.ensures ∙ ap (λ (log : Log). stage_waits log.facts at) c.journal.ensures)
    c.in-Some.is

pub returns-then-is_started : goal.returns-then-is_started
returns-then-is_started c =
    let at = of c.args.at.now in
    let facts = c.args.journal.now.facts in
    let moment = c.args.moment in
    let rules = asked_rules facts moment c.args.agent.now at in
    let start = sym (c.is_started.ensures
    ∙ ap (λ (log : Log). is_started log.facts at) c.journal-2.ensures) ∙ c.if-is_started.true in
    let turn : Log → List Telling =
    λ log. Tells (job_waits log.facts at) ∷ Tells (full log.facts at) ∷ [] in
    if_ok _ _ c.by_turn.result (λ found first.
    not_told (stage_waits facts at) (drop 6 rules) found c.in_ok-rule.field-0
    (c.in_ok-rule.ensures ∙ ap (λ (log : Log). stage_waits log.facts at) c.journal.ensures)
    c.in_default.is
    (four_passed facts at (Tells (unpermitted facts at)) (Awaits facts moment at)
    (IsHeldRule facts moment at) (IsBehindRule facts moment at) (drop 10 rules) found start
    (subst (λ log. FirstBroken (turn log) found) c.journal-then-is_started.ensures first)))
    c.by_turn.ensures

pub returns : goal.returns
returns c =
    let at = of c.args.at.now in
    let facts = c.args.journal.now.facts in
    let rules = asked_rules facts c.args.moment c.args.agent.now at in
    if_ok _ _ c.by_checks.result (λ found first.
    not_told (stage_waits facts at) (drop 6 rules) found c.in_ok-rule.field-0
    (c.in_ok-rule.ensures ∙ ap (λ (log : Log). stage_waits log.facts at) c.journal.ensures)
    c.in_default.is first) c.by_checks.ensures
