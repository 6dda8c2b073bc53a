use Rattle.std.proofs.Common.{List, ◌∷◌, OnOk, subst}
use Rattle.pl_facts.specs.declared.fact.QueuedRun.{QueuedRun}
use Rattle.pl_kept.specs.Kept.{Where, Run}
use Rattle.pl_touched.specs.Touched.{stage_places, FitAt}
use Rattle.pl_all_rows.proofs.events.push_brought.Goals as goal

abbrev queued_places : QueuedRun → List Where
queued_places told = Run told.run ∷ stage_places told.run 0 told.compiled.plan.stages

pub returns-in-RunQueued-clause-fits : goal.returns-in-RunQueued-clause-fits
returns-in-RunQueued-clause-fits c =
    rw c.in-RunQueued.is (subst (λ (told : QueuedRun). OnOk c.push_queued.result
    (FitAt (queued_places told) c.args.journal.now.facts)) c.deref-in-RunQueued.ensures
    c.push_queued.ensures.fits)

pub returns-in-DecisionMade-clause-rows : goal.returns-in-DecisionMade-clause-rows
returns-in-DecisionMade-clause-rows c =
    rw (c.in-DecisionMade.is, ← c.deref-in-DecisionMade.ensures) c.push_at-in-DecisionMade.ensures.rows

pub returns-in-DecisionMade-clause-fits : goal.returns-in-DecisionMade-clause-fits
returns-in-DecisionMade-clause-fits c =
    rw (c.in-DecisionMade.is, ← c.deref-in-DecisionMade.ensures) c.push_at-in-DecisionMade.ensures.fits
