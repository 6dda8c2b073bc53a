use Rattle.std.proofs.Common.{List, flat_map, subst}
use Rattle.pl_base.specs.declared.resource.ResourceKey.{ResourceKey}
use Rattle.pl_due.specs.Asked.{facts_of}
use Rattle.pl_due.specs.Checked.{checks_on}
use Rattle.pl_wakes.specs.Steady.{AreSteady}
use Rattle.pl_looks.proofs.Until.{checks_quiet}
use Rattle.pl_looks.proofs.quiet.checks_until.Goals as goal

pub returns-clause-quiet : goal.returns-clause-quiet
returns-clause-quiet c =
    let at = c.args.at.now in
    let facts = facts_of at in
    checks_quiet facts at.queued.now at.planned.now at.run at.stage c.ready_moment-ready.result
    at.moment c.uses_until.result c.ready_moment-ready.ensures
    (subst (λ (uses : List ResourceKey). AreSteady (flat_map (checks_on facts) uses)
    c.ready_moment-ready.result at.moment c.uses_until.result) c.as_slice-uses.ensures
    c.uses_until.ensures.steady)
