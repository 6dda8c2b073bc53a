use Rattle.std.proofs.Common.{ap, sym, ◌∙◌}
use Rattle.std.specs.Prelude.{slice_get}
use Rattle.pl_cond.proofs.Roots.{if_ok}
use Rattle.pl_plan.specs.declared.plan.Compiled.{Compiled}
use Rattle.pl_due.proofs.OneStage.{no_run, no_stage}
use Rattle.pl_due.proofs.Scanned.{lifted, nowhere}
use Rattle.pl_due.proofs.scanning.in_place.Goals as goal

pub in_stage-requires : goal.in_stage-requires
in_stage-requires g c = record {
  moment = c.requires.moment;
  fit = c.requires.fit;
  there = record {
    queued = sym c.in-Some.ensures;
    planned = ap (λ (one : Compiled). slice_get one.plan.stages c.args.place.stage)
        (sym c.deref.ensures) ∙ sym c.in-Some-get.ensures.value;
  };
}

pub returns-in-Some-get : goal.returns-in-Some-get
returns-in-Some-get g c =
    let facts = c.args.journal.now.facts in
    if_ok _ _ c.in_stage.result (λ found is. lifted facts
    (g.K.Kind.of c.args.kind.now facts c.args.moment) c.args.place.run c.args.place.stage
    c.in-Some.queued.now c.in-Some-get.planned.now found
    (record {
      queued = sym c.in-Some.ensures;
      planned = ap (λ (one : Compiled). slice_get one.plan.stages c.args.place.stage)
          (sym c.deref.ensures) ∙ sym c.in-Some-get.ensures.value;
    }) is) c.in_stage.ensures

pub returns-in-None-get : goal.returns-in-None-get
returns-in-None-get g c =
    let facts = c.args.journal.now.facts in
    nowhere facts (g.K.Kind.of c.args.kind.now facts c.args.moment) c.args.place.run
    c.args.place.stage (no_stage facts c.args.place.run c.args.place.stage c.in-Some.queued.now
    (sym c.in-Some.ensures) (ap (λ (one : Compiled). slice_get one.plan.stages c.args.place.stage)
    (sym c.deref.ensures) ∙ sym c.in-None-get.ensures.value))

pub returns-in-None : goal.returns-in-None
returns-in-None g c =
    let facts = c.args.journal.now.facts in
    nowhere facts (g.K.Kind.of c.args.kind.now facts c.args.moment) c.args.place.run
    c.args.place.stage
    (no_run facts c.args.place.run c.args.place.stage (sym c.in-None.ensures))
