use Rattle.std.proofs.Common.{◌≡◌, sym, ap, ◌∙◌, slice_get}
use Rattle.std.specs.Option.{option_map_or}
use Rattle.std.proofs.lemmas.Result.{IfOk-weaker}
use Rattle.pl_answers.specs.Answers.{refused}
use Rattle.pl_plan.specs.declared.plan.Compiled.{Compiled}
use Rattle.pl_rules.specs.declared.rule.Rule.TheVariants as rules
use Rattle.pl_decisions.specs.Decisions.{decide_at, decide_in}
use Rattle.pl_decisions.proofs.deciding.decide_in.Goals as goal

pub returns-in-Some : goal.returns-in-Some
returns-in-Some c =
    let facts = c.args.journal.now.facts in
    let name = c.args.name.now in
    let queued = c.args.queued.now in
    let found = sym (c.in-Some.ensures.value
    ∙ ap (λ (one : Compiled). slice_get one.plan.stages c.args.place) c.deref.ensures) in
    IfOk-weaker c.decide_at.result
    (λ answer. answer ≡
    decide_at facts name c.args.approve c.args.run c.args.place queued c.in-Some.planned.now)
    (λ answer. answer ≡
    decide_in facts name c.args.approve c.args.run queued c.args.place)
    (λ answer told. told
    ∙ sym (ap (λ planned. option_map_or
    (decide_at facts name c.args.approve c.args.run c.args.place queued) planned
    (refused 404 rules.StageUnknown)) found))
    c.decide_at.ensures
