use Rattle.std.proofs.Common.{None, Some, ap, subst, sym, ◌≡◌, ◌∙◌}
use Rattle.std.specs.Prelude.{slice_get}
use Rattle.std.proofs.lemmas.Option.{none-some, same_Some}
use Rattle.pl_facts.specs.Below.pl_plan.specs.declared.plan.Compiled.{Compiled}
use Rattle.pl_facts.specs.Below.pl_plan.specs.declared.plan.PlanStage.{PlanStage}
use Rattle.pl_looks.specs.Quiet.{StageIsQuiet}
use Rattle.pl_looks.proofs.quiet.place_until.Goals as goal

pub stage_until-requires : goal.stage_until-requires
stage_until-requires c = record {
  moment = c.requires.moment;
  fit = c.requires.fit;
  there = record {
    queued = c.requires.told;
    planned = ap (λ (one : Compiled). slice_get one.plan.stages c.args.stage)
        (sym c.deref.ensures) ∙ sym c.in-Some.ensures.value;
  };
}

pub returns-in-Some-clause-quiet : goal.returns-in-Some-clause-quiet
returns-in-Some-clause-quiet c = λ later behind before one planned.
    let here : slice_get c.args.queued.now.compiled.plan.stages c.args.stage
    ≡ Some c.in-Some.planned.now =
    ap (λ (all : Compiled). slice_get all.plan.stages c.args.stage)
    (sym c.deref.ensures) ∙ sym c.in-Some.ensures.value in
    subst (λ (o : PlanStage). StageIsQuiet c.args.journal.now.facts c.args.moment later
    c.args.queued.now o c.args.run c.args.stage)
    (same_Some c.in-Some.planned.now one (sym here ∙ planned))
    (c.stage_until.ensures.quiet later behind before)

pub returns-in-None-clause-quiet : goal.returns-in-None-clause-quiet
returns-in-None-clause-quiet c = λ later behind before one planned.
    let here : slice_get c.args.queued.now.compiled.plan.stages c.args.stage ≡ None =
    ap (λ (all : Compiled). slice_get all.plan.stages c.args.stage)
    (sym c.deref.ensures) ∙ sym c.in-None.ensures.value in
    absurd (none-some one (sym here ∙ planned))
