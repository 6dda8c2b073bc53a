use Rattle.std.proofs.Common.{subst, ◌∙◌}
use Rattle.std.proofs.lemmas.Option.{none-some, same_Some}
use Rattle.pl_facts.specs.declared.fact.QueuedRun.{QueuedRun}
use Rattle.pl_looks.specs.Quiet.{PlaceIsQuiet}
use Rattle.pl_looks.proofs.quiet.run_until.Goals as goal

pub returns-in-Some-clause-quiet : goal.returns-in-Some-clause-quiet
returns-in-Some-clause-quiet c = λ later behind before told one stage there.
    subst (λ (queued : QueuedRun). PlaceIsQuiet c.args.journal.now.facts c.args.moment c.args.run
    queued stage later)
    (same_Some c.in-Some.queued.now told (c.in-Some.ensures ∙ there.queued))
    (c.queued_until.ensures.quiet later behind before stage) one there.planned

pub returns-in-None-clause-quiet : goal.returns-in-None-clause-quiet
returns-in-None-clause-quiet c = λ later behind before told one stage there.
    absurd (none-some told (c.in-None.ensures ∙ there.queued))
