use Rattle.std.proofs.Common.{List, ◌∷◌, [], None, Some, ap, drop, subst, sym, ◌∙◌}
use Rattle.pl_due.specs.Below.pl_cond.proofs.Roots.{if_ok}
use Rattle.pl_journal.specs.Log.{Log}
use Rattle.pl_granting.specs.Asked.{of}
use Rattle.pl_granting.specs.Broken.{FirstBroken, Telling, Tells, asked_rules}
use Rattle.pl_granting.specs.Locked.{Awaits, IsBehindRule, IsHeldRule}
use Rattle.pl_granting.specs.Rules.{full, job_waits, unpermitted}
use Rattle.pl_granting.proofs.InOrder.{breaks, either_told, neither_told, passes}
use Rattle.pl_granting.proofs.first_broken.by_checks.Goals as goal

pub returns-in-Some : goal.returns-in-Some
returns-in-Some c =
    let at = of c.args.at.now in
    let facts = c.args.journal.now.facts in
    let rules = asked_rules facts c.args.moment c.args.agent.now at in
    breaks facts at (Tells (unpermitted facts at)) (drop 7 rules) c.in-Some.rule c.requires.waits
    (sym c.in-Some.is ∙ c.in_ok-rule.ensures
    ∙ ap (λ (log : Log). unpermitted log.facts at) c.journal.ensures)

pub returns-in-Some-2 : goal.returns-in-Some-2
returns-in-Some-2 c =
    let at = of c.args.at.now in
    let facts = c.args.journal.now.facts in
    let moment = c.args.moment in
    let waits = c.requires.waits in
    let rules = asked_rules facts moment c.args.agent.now at in
    let rule = c.in-Some-2.rule in
    passes facts at (Tells (unpermitted facts at)) (drop 7 rules) (Some rule) waits
    (sym c.in_default.is ∙ c.in_ok-rule.ensures
    ∙ ap (λ (log : Log). unpermitted log.facts at) c.journal.ensures)
    (breaks facts at (Awaits facts moment at) (drop 8 rules) rule waits
    (subst (λ (log : Log). Awaits log.facts moment at (Some rule)) c.journal-2.ensures
    (subst (Awaits c.journal-2.result.now.facts moment at) c.in-Some-2.is c.in_ok-rule-2.ensures)))

pub returns-in-Some-3 : goal.returns-in-Some-3
returns-in-Some-3 c =
    let at = of c.args.at.now in
    let facts = c.args.journal.now.facts in
    let moment = c.args.moment in
    let waits = c.requires.waits in
    let rules = asked_rules facts moment c.args.agent.now at in
    let rule = c.in-Some-3.rule in
    let held = IsHeldRule facts moment at in
    let behind = IsBehindRule facts moment at in
    passes facts at (Tells (unpermitted facts at)) (drop 7 rules) (Some rule) waits
    (sym c.in_default.is ∙ c.in_ok-rule.ensures
    ∙ ap (λ (log : Log). unpermitted log.facts at) c.journal.ensures)
    (passes facts at (Awaits facts moment at) (drop 8 rules) (Some rule) waits
    (subst (λ (log : Log). Awaits log.facts moment at None) c.journal-2.ensures
    (subst (Awaits c.journal-2.result.now.facts moment at) c.in_default-2.is
    c.in_ok-rule-2.ensures))
    (either_told facts at held behind (drop 10 rules) waits rule
    (subst (FirstBroken (held ∷ behind ∷ [])) c.in-Some-3.is c.in_ok-rule-3.ensures)))

pub returns-in-None : goal.returns-in-None
returns-in-None c =
    let at = of c.args.at.now in
    let facts = c.args.journal.now.facts in
    let moment = c.args.moment in
    let waits = c.requires.waits in
    let rules = asked_rules facts moment c.args.agent.now at in
    let held = IsHeldRule facts moment at in
    let behind = IsBehindRule facts moment at in
    let turn : Log → List Telling =
    λ log. Tells (job_waits log.facts at) ∷ Tells (full log.facts at) ∷ [] in
    if_ok _ _ c.by_turn.result (λ found first.
    passes facts at (Tells (unpermitted facts at)) (drop 7 rules) found waits
    (sym c.in_default.is ∙ c.in_ok-rule.ensures
    ∙ ap (λ (log : Log). unpermitted log.facts at) c.journal.ensures)
    (passes facts at (Awaits facts moment at) (drop 8 rules) found waits
    (subst (λ (log : Log). Awaits log.facts moment at None) c.journal-2.ensures
    (subst (Awaits c.journal-2.result.now.facts moment at) c.in_default-2.is
    c.in_ok-rule-2.ensures))
    (neither_told facts at held behind (drop 10 rules) waits found
    (subst (FirstBroken (held ∷ behind ∷ [])) c.in-None.is c.in_ok-rule-3.ensures)
    (subst (λ log. FirstBroken (turn log) found) c.journal-in-None.ensures first))))
    c.by_turn.ensures
