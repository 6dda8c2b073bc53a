use Rattle.std.proofs.Common.{◌<◌, ◌^◌, length, sym, ap, arith}
use Rattle.pl_facts.specs.Below.pl_plan.specs.declared.plan.Compiled.{Compiled}
use Rattle.pl_open_runs.proofs.Looking.{few_queued}
use Rattle.pl_open_runs.proofs.openness.is_open.Goals as goal

pub overflow_cast-len : goal.overflow_cast-len
overflow_cast-len c =
    let few : length c.in-Some.queued.now.compiled.plan.stages < 2 ^ 32 =
    few_queued c.args.journal.now.facts c.args.run c.in-Some.queued.now c.requires
    (sym c.in-Some.ensures) in
    omega (
      arith,
      c.len.ensures,
      few,
      ap (λ (one : Compiled). length one.plan.stages) c.deref.ensures,
    )
