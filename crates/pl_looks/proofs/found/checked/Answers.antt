use Rattle.std.proofs.Common.{[], ◌∷◌, subst, sym}
use Rattle.pl_due.specs.Contention.{IsEligible}
use Rattle.pl_due.specs.Kinds.{Fails}
use Rattle.pl_due.specs.Scans.{FirstStage, Waits}
use Rattle.pl_run_laws.specs.ByRuns.{FirstIn}
use Rattle.pl_looks.proofs.Finding.{due_some, none_fails, some_fails}
use Rattle.pl_looks.proofs.OneRun.{those_in}
use Rattle.pl_looks.proofs.found.checked.Goals as goal

pub returns-in-Some-clause-first : goal.returns-in-Some-clause-first
returns-in-Some-clause-first c =
    let facts = c.args.journal.now.facts in
    let fails = Fails facts c.args.moment in
    subst (FirstIn facts 4 (fails ∷ []) c.args.run) (sym c.due.ensures)
    (some_fails facts c.args.moment c.args.run c.args.waiting.now c.requires.waiting
    c.in-Some.event
    (subst (FirstStage facts fails c.args.waiting.now) c.in-Some.is c.in_ok-fails.ensures.0))

pub returns-in-Some-clause-eligible : goal.returns-in-Some-clause-eligible
returns-in-Some-clause-eligible c =
    λ none. due_some c.due.result.first 4 c.in-Some.event c.due.ensures none

pub returns-in-None-clause-first : goal.returns-in-None-clause-first
returns-in-None-clause-first c =
    let facts = c.args.journal.now.facts in
    none_fails facts c.args.moment c.args.run c.args.waiting.now c.requires.waiting
    (subst (FirstStage facts (Fails facts c.args.moment) c.args.waiting.now) c.in-None.is
    c.in_ok-fails.ensures.0)

pub returns-in-None-clause-eligible : goal.returns-in-None-clause-eligible
returns-in-None-clause-eligible c =
    let facts = c.args.journal.now.facts in
    λ none. those_in facts (IsEligible facts c.args.moment) c.args.run (Waits facts)
    c.args.waiting.now c.in_ok-fails.field-0.eligible c.requires.waiting
    (λ told one r stage is. is.waits) (c.in_ok-fails.ensures.1 c.in-None.is)
