use Rattle.std.proofs.Common.{ap, sym, ◌∙◌}
use Rattle.std.specs.Prelude.{slice_get}
use Rattle.pl_due.proofs.Fits.{few_jobs}
use Rattle.pl_plan.specs.declared.plan.Compiled.{Compiled}
use Rattle.pl_granting.proofs.drawing.first_at.Goals as goal

pub first_in_stage-requires-clause-few : goal.first_in_stage-requires-clause-few
first_in_stage-requires-clause-few c =
    few_jobs c.args.journal.now.facts c.args.run c.args.stage c.args.queued.now c.in-Some.staged.now
    c.requires.fit (record {
      queued = c.requires.there;
      planned = ap (λ (one : Compiled). slice_get one.plan.stages c.args.stage)
          (sym c.deref.ensures) ∙ sym c.in-Some.ensures.value;
    })
