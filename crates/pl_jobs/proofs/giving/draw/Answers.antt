use Rattle.std.proofs.Common.{◌≡◌, sym, inl, inr}
use Rattle.std.proofs.lemmas.Result.{IfOk-weaker}
use Rattle.pl_answers.specs.Answers.{refused}
use Rattle.pl_rules.specs.declared.rule.Rule.TheVariants as rules
use Rattle.pl_jobs.specs.Granting.{Draws, DrawsAs}
use Rattle.pl_jobs.proofs.giving.draw.Goals as goal

pub returns-in-Some : goal.returns-in-Some
returns-in-Some c =
    let facts = c.args.indexed.now.facts in
    IfOk-weaker c.draw_as.result (DrawsAs facts c.in-Some.who.now) (Draws facts c.args.caller.now)
    (λ answer asks. inr (c.in-Some.who.now, sym c.in-Some.ensures, asks)) c.draw_as.ensures

pub returns-in-None : goal.returns-in-None
returns-in-None c =
    IfOk-weaker c.refusal.result (λ answer. answer ≡ refused 404 rules.AgentUnknown)
    (Draws c.args.indexed.now.facts c.args.caller.now)
    (λ answer told. inl (sym c.in-None.ensures, told)) c.refusal.ensures
