use Rattle.std.proofs.Common.{Option, drop}
use Rattle.pl_facts.specs.declared.fact.Event.{Event}
use Rattle.pl_due.specs.Scans.{FirstStage}
use Rattle.pl_due.proofs.scanning.first_stage.Given as goal

-- what is found in the stages that are left is found in all
abbrev pub invariant-loop-place : goal.invariant-loop-place
invariant-loop-place g l = (found : Option Event) →
    FirstStage l.journal.facts (g.K.Kind.of l.kind l.journal.facts l.fn.moment)
    (drop l.place-index l.places) found →
    FirstStage l.journal.facts (g.K.Kind.of l.kind l.journal.facts l.fn.moment) l.places found
