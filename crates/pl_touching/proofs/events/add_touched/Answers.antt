use Rattle.std.proofs.Common.{List, ◌∷◌, OnOk, subst}
use Rattle.pl_changes.specs.Differing.{Joins}
use Rattle.pl_facts.specs.declared.fact.QueuedRun.{QueuedRun}
use Rattle.pl_spots.specs.Below.pl_kept.specs.Kept.{Where, Run}
use Rattle.pl_touched.specs.Touched.{rows_at, stage_places, FitAt}
use Rattle.pl_touching.proofs.events.add_touched.Goals as goal

abbrev queued_places : QueuedRun → List Where
queued_places told = Run told.run ∷ stage_places told.run 0 told.compiled.plan.stages

pub returns-in-FilePut-clause-joins : goal.returns-in-FilePut-clause-joins
returns-in-FilePut-clause-joins c =
    rw (c.in-FilePut.is, ← c.deref.ensures) c.add_at.ensures.joins

pub returns-in-FileRemoved-clause-joins : goal.returns-in-FileRemoved-clause-joins
returns-in-FileRemoved-clause-joins c =
    rw (c.in-FileRemoved.is, ← c.deref-in-FileRemoved.ensures) c.add_at-in-FileRemoved.ensures.joins

pub returns-in-PipelineSet-clause-joins : goal.returns-in-PipelineSet-clause-joins
returns-in-PipelineSet-clause-joins c =
    rw (c.in-PipelineSet.is, ← c.deref-in-PipelineSet.ensures) c.add_at-in-PipelineSet.ensures.joins

pub returns-in-ResourceSet-clause-joins : goal.returns-in-ResourceSet-clause-joins
returns-in-ResourceSet-clause-joins c =
    rw (c.in-ResourceSet.is, ← c.deref-in-ResourceSet.ensures) c.add_at-in-ResourceSet.ensures.joins

pub returns-in-ResourceSet-clause-fits : goal.returns-in-ResourceSet-clause-fits
returns-in-ResourceSet-clause-fits c =
    rw (c.in-ResourceSet.is, ← c.deref-in-ResourceSet.ensures) c.add_at-in-ResourceSet.ensures.fits

pub returns-in-PrincipalSet-clause-joins : goal.returns-in-PrincipalSet-clause-joins
returns-in-PrincipalSet-clause-joins c =
    rw (c.in-PrincipalSet.is, ← c.deref-in-PrincipalSet.ensures) c.add_at-in-PrincipalSet.ensures.joins

pub returns-in-PrincipalSet-clause-fits : goal.returns-in-PrincipalSet-clause-fits
returns-in-PrincipalSet-clause-fits c =
    rw (c.in-PrincipalSet.is, ← c.deref-in-PrincipalSet.ensures) c.add_at-in-PrincipalSet.ensures.fits

pub returns-in-AgentSet-clause-joins : goal.returns-in-AgentSet-clause-joins
returns-in-AgentSet-clause-joins c =
    rw (c.in-AgentSet.is, ← c.deref-in-AgentSet.ensures) c.add_at-in-AgentSet.ensures.joins

pub returns-in-AgentSet-clause-fits : goal.returns-in-AgentSet-clause-fits
returns-in-AgentSet-clause-fits c =
    rw (c.in-AgentSet.is, ← c.deref-in-AgentSet.ensures) c.add_at-in-AgentSet.ensures.fits

pub returns-in-RunQueued-clause-joins : goal.returns-in-RunQueued-clause-joins
returns-in-RunQueued-clause-joins c =
    rw c.in-RunQueued.is (subst (λ (told : QueuedRun). OnOk c.add_queued.result
    (Joins c.args.rows.now.items (rows_at (queued_places told) c.args.journal.now.facts)
    c.add_queued.new.rows.items)) c.deref-in-RunQueued.ensures c.add_queued.ensures.joins)

pub returns-in-RunQueued-clause-fits : goal.returns-in-RunQueued-clause-fits
returns-in-RunQueued-clause-fits c =
    rw c.in-RunQueued.is (subst (λ (told : QueuedRun). OnOk c.add_queued.result
    (FitAt (queued_places told) c.args.journal.now.facts)) c.deref-in-RunQueued.ensures
    c.add_queued.ensures.fits)

pub returns-in-DecisionMade-clause-joins : goal.returns-in-DecisionMade-clause-joins
returns-in-DecisionMade-clause-joins c =
    rw (c.in-DecisionMade.is, ← c.deref-in-DecisionMade.ensures) c.add_at-in-DecisionMade.ensures.joins

pub returns-in-StageEnded-clause-joins : goal.returns-in-StageEnded-clause-joins
returns-in-StageEnded-clause-joins c =
    rw c.in-StageEnded.is c.add_at-in-StageEnded.ensures.joins

pub returns-in-JobTaken-clause-joins : goal.returns-in-JobTaken-clause-joins
returns-in-JobTaken-clause-joins c =
    rw c.in-JobTaken.is c.add_at-in-JobTaken.ensures.joins

pub returns-in-JobTaken-clause-fits : goal.returns-in-JobTaken-clause-fits
returns-in-JobTaken-clause-fits c =
    rw c.in-JobTaken.is c.add_at-in-JobTaken.ensures.fits

pub returns-in-JobEnded-clause-joins : goal.returns-in-JobEnded-clause-joins
returns-in-JobEnded-clause-joins c =
    rw c.in-JobEnded.is c.add_at-in-JobEnded.ensures.joins

pub returns-in-JobEnded-clause-fits : goal.returns-in-JobEnded-clause-fits
returns-in-JobEnded-clause-fits c =
    rw c.in-JobEnded.is c.add_at-in-JobEnded.ensures.fits
