use Rattle.std.proofs.Common.{ap}
use Rattle.pl_plan.specs.declared.plan.Sources.{Sources}
use Rattle.pl_compile.proofs.Tracing.{are_known, are_said, are_written, come_from_closure}
use Rattle.pl_compile.proofs.Tracing.{come_through}
use Rattle.pl_compile.proofs.Whole.{unplanned}
use Rattle.pl_compile.proofs.compiling.compile_within.Goals as goal

pub returns-in-Ok-clause-steps : goal.returns-in-Ok-clause-steps
returns-in-Ok-clause-steps c file =
    come_through c.args.files.now c.in_ok-whole.whole c.in-Ok.ensures.pipeline
    (record { plan = c.in-Ok.plan; sources = c.in_ok-sources-in-Ok.sources })
    c.in-Ok.ensures.reads c.in-Ok.ensures.plans file (c.in_ok-whole.ensures.steps file)

pub returns-in-Ok-clause-written : goal.returns-in-Ok-clause-written
returns-in-Ok-clause-written c file =
    are_written c.args.files.now c.in_ok-whole.whole c.in-Ok.ensures.pipeline
    (record { plan = c.in-Ok.plan; sources = c.in_ok-sources-in-Ok.sources })
    c.in-Ok.ensures.reads c.in-Ok.ensures.plans file (c.in_ok-whole.ensures.written file)

pub returns-in-Ok-clause-closure : goal.returns-in-Ok-clause-closure
returns-in-Ok-clause-closure c file =
    come_from_closure c.args.files.now c.in_ok-whole.whole c.in-Ok.ensures.pipeline
    (record { plan = c.in-Ok.plan; sources = c.in_ok-sources-in-Ok.sources })
    c.in-Ok.ensures.reads c.in-Ok.ensures.plans c.args.root.now c.args.arguments.now file
    c.in_ok-whole.ensures.tree (c.in_ok-whole.ensures.closure file)

pub returns-in-Ok-clause-known : goal.returns-in-Ok-clause-known
returns-in-Ok-clause-known c =
    are_known c.args.files.now c.in_ok-whole.whole c.in-Ok.ensures.pipeline
    (record { plan = c.in-Ok.plan; sources = c.in_ok-sources-in-Ok.sources })
    c.in-Ok.ensures.reads c.in-Ok.ensures.plans c.args.root.now c.args.arguments.now
    c.in_ok-whole.ensures.tree
    (ap (λ (sources : Sources). sources.files) c.in_ok-sources-in-Ok.ensures)
    c.in_ok-whole.ensures.known

pub returns-in-Ok-clause-texts : goal.returns-in-Ok-clause-texts
returns-in-Ok-clause-texts c =
    are_said c.args.files.now c.in_ok-whole.whole c.in-Ok.ensures.pipeline
    (record { plan = c.in-Ok.plan; sources = c.in_ok-sources-in-Ok.sources })
    c.in-Ok.ensures.reads c.in-Ok.ensures.plans c.in_ok-whole.ensures.texts

pub returns-clause-compiled : goal.returns-clause-compiled
returns-clause-compiled c =
    unplanned c.args.files.now c.args.root.now c.args.arguments.now c.in_ok-whole.whole
    c.in_ok-whole.ensures.tree c.in-Err.fault c.in-Err.ensures
