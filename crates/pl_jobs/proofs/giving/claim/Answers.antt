use Rattle.std.proofs.Common.{◌≡◌, sym, inl, inr}
use Rattle.std.proofs.lemmas.Result.{IfOk-weaker}
use Rattle.pl_answers.specs.Answers.{refused}
use Rattle.pl_rules.specs.declared.rule.Rule.TheVariants as rules
use Rattle.pl_jobs.specs.Granting.{Claims, ClaimsAs}
use Rattle.pl_jobs.proofs.giving.claim.Goals as goal

pub returns-in-Some : goal.returns-in-Some
returns-in-Some c =
    let facts = c.args.indexed.now.facts in
    IfOk-weaker c.claim_as.result
    (ClaimsAs facts c.args.moment c.args.name.now c.in-Some.who.now)
    (Claims facts c.args.moment c.args.caller.now c.args.name.now)
    (λ answer asks. inr (c.in-Some.who.now, sym c.in-Some.ensures, asks)) c.claim_as.ensures

pub returns-in-None : goal.returns-in-None
returns-in-None c =
    IfOk-weaker c.refusal.result (λ answer. answer ≡ refused 404 rules.AgentUnknown)
    (Claims c.args.indexed.now.facts c.args.moment c.args.caller.now c.args.name.now)
    (λ answer told. inl (sym c.in-None.ensures, told)) c.refusal.ensures
