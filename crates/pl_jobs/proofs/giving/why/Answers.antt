use Rattle.std.proofs.Common.{◌≡◌, sym, inl, inr}
use Rattle.std.proofs.lemmas.Result.{IfOk-weaker}
use Rattle.pl_answers.specs.Answers.{refused}
use Rattle.pl_rules.specs.declared.rule.Rule.TheVariants as rules
use Rattle.pl_jobs.specs.Granting.{Asks, AsksAs}
use Rattle.pl_jobs.proofs.giving.why.Goals as goal

pub returns-in-Some : goal.returns-in-Some
returns-in-Some c =
    let facts = c.args.indexed.now.facts in
    IfOk-weaker c.why_as.result
    (AsksAs facts c.args.moment c.args.name.now c.in-Some.who.now)
    (Asks facts c.args.moment c.args.named.now c.args.name.now)
    (λ answer asks. inr (c.in-Some.who.now, sym c.in-Some.ensures, asks)) c.why_as.ensures

pub returns-in-None : goal.returns-in-None
returns-in-None c =
    IfOk-weaker c.refusal.result (λ answer. answer ≡ refused 404 rules.AgentUnknown)
    (Asks c.args.indexed.now.facts c.args.moment c.args.named.now c.args.name.now)
    (λ answer told. inl (sym c.in-None.ensures, told)) c.refusal.ensures
