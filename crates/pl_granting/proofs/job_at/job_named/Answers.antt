use Rattle.std.proofs.Common.{ap, arith, sym, ◌∙◌}
use Rattle.pl_due.proofs.Fits.{few_stages}
use Rattle.pl_plan.specs.declared.plan.Compiled.{Compiled}
use Rattle.pl_granting.specs.Named.{stage_named}
use Rattle.pl_granting.proofs.Fitting.{can_run, small_place}
use Rattle.pl_granting.proofs.job_at.job_named.Goals as goal

pub overflow_cast-stage : goal.overflow_cast-stage
overflow_cast-stage c =
    let queued = c.in-Some.queued.now in
    let name = c.args.name.now in
    let told = ap (stage_named name.stage) (sym (c.as_slice.ensures
    ∙ ap (λ (one : Compiled). one.plan.stages) c.deref.ensures)) ∙ sym c.stage_named.ensures
    ∙ c.in-Some-stage_named.is in
    let small = small_place name.stage queued.compiled.plan.stages c.in-Some-stage_named.stage
    (few_stages c.args.journal.now.facts name.run queued c.requires.fit (sym c.in-Some.ensures))
    told in
    omega (arith, small)

pub job_in_stage-requires : goal.job_in_stage-requires
job_in_stage-requires c = can_run c.args.journal.now.facts c.args.name.now.run
    c.in-Some.queued.now c.requires.fit (sym c.in-Some.ensures)
