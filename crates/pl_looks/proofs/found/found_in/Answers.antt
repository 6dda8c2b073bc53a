use Rattle.std.proofs.Common.{subst, sym}
use Rattle.pl_due.specs.Kinds.{IsDone, IsPassedOver, JobIsPassedOver, TimesOut}
use Rattle.pl_due.specs.Scans.{FirstStage}
use Rattle.pl_run_laws.specs.ByRuns.{FirstIn, kinds}
use Rattle.pl_looks.specs.Looks.{found_of}
use Rattle.pl_looks.proofs.Finding.{due_some, first_checked, first_done, first_over, first_passed}
use Rattle.pl_looks.proofs.Finding.{first_timed, if_all}
use Rattle.pl_looks.proofs.found.found_in.Goals as goal

pub checked-requires-clause-says : goal.checked-requires-clause-says
checked-requires-clause-says c =
    let facts = c.args.journal.now.facts in
    subst (FirstStage facts (IsPassedOver facts) c.args.waiting.now) c.in_default-4.is
    c.in_ok-event-4.ensures

pub returns-in-Some-clause-first : goal.returns-in-Some-clause-first
returns-in-Some-clause-first c =
    let facts = c.args.journal.now.facts in
    let running = c.args.running.now in
    subst (FirstIn facts 0 (kinds facts c.args.moment) c.args.run) (sym c.due.ensures)
    (first_timed facts c.args.moment c.args.run running c.requires.running c.in-Some.event
    (subst (FirstStage facts (TimesOut facts c.args.moment) running) c.in-Some.is
    c.in_ok-event.ensures))

pub returns-in-Some-clause-eligible : goal.returns-in-Some-clause-eligible
returns-in-Some-clause-eligible c =
    λ none. due_some c.due.result.first 0 c.in-Some.event c.due.ensures none

pub returns-in-Some-2-clause-first : goal.returns-in-Some-2-clause-first
returns-in-Some-2-clause-first c =
    let facts = c.args.journal.now.facts in
    let running = c.args.running.now in
    subst (FirstIn facts 0 (kinds facts c.args.moment) c.args.run) (sym c.due-in-Some-2.ensures)
    (first_passed facts c.args.moment c.args.run running c.requires.running
    (subst (FirstStage facts (TimesOut facts c.args.moment) running) c.in_default.is
    c.in_ok-event.ensures) c.in-Some-2.event
    (subst (FirstStage facts (JobIsPassedOver facts) running) c.in-Some-2.is
    c.in_ok-event-2.ensures))

pub returns-in-Some-2-clause-eligible : goal.returns-in-Some-2-clause-eligible
returns-in-Some-2-clause-eligible c =
    λ none. due_some c.due-in-Some-2.result.first 1 c.in-Some-2.event c.due-in-Some-2.ensures none

pub returns-in-Some-3-clause-first : goal.returns-in-Some-3-clause-first
returns-in-Some-3-clause-first c =
    let facts = c.args.journal.now.facts in
    let running = c.args.running.now in
    subst (FirstIn facts 0 (kinds facts c.args.moment) c.args.run) (sym c.due-in-Some-3.ensures)
    (first_done facts c.args.moment c.args.run running c.requires.running
    (subst (FirstStage facts (TimesOut facts c.args.moment) running) c.in_default.is
    c.in_ok-event.ensures)
    (subst (FirstStage facts (JobIsPassedOver facts) running) c.in_default-2.is
    c.in_ok-event-2.ensures) c.in-Some-3.event
    (subst (FirstStage facts (IsDone facts) running) c.in-Some-3.is c.in_ok-event-3.ensures))

pub returns-in-Some-3-clause-eligible : goal.returns-in-Some-3-clause-eligible
returns-in-Some-3-clause-eligible c =
    λ none. due_some c.due-in-Some-3.result.first 2 c.in-Some-3.event c.due-in-Some-3.ensures none

pub returns-in-Some-4-clause-first : goal.returns-in-Some-4-clause-first
returns-in-Some-4-clause-first c =
    let facts = c.args.journal.now.facts in
    let running = c.args.running.now in
    let waiting = c.args.waiting.now in
    subst (FirstIn facts 0 (kinds facts c.args.moment) c.args.run) (sym c.due-in-Some-4.ensures)
    (first_over facts c.args.moment c.args.run running c.requires.running waiting
    c.requires.waiting
    (subst (FirstStage facts (TimesOut facts c.args.moment) running) c.in_default.is
    c.in_ok-event.ensures)
    (subst (FirstStage facts (JobIsPassedOver facts) running) c.in_default-2.is
    c.in_ok-event-2.ensures)
    (subst (FirstStage facts (IsDone facts) running) c.in_default-3.is c.in_ok-event-3.ensures)
    c.in-Some-4.event
    (subst (FirstStage facts (IsPassedOver facts) waiting) c.in-Some-4.is c.in_ok-event-4.ensures))

pub returns-in-Some-4-clause-eligible : goal.returns-in-Some-4-clause-eligible
returns-in-Some-4-clause-eligible c =
    λ none. due_some c.due-in-Some-4.result.first 3 c.in-Some-4.event c.due-in-Some-4.ensures none

pub returns-clause-first : goal.returns-clause-first
returns-clause-first c =
    let facts = c.args.journal.now.facts in
    let running = c.args.running.now in
    let waiting = c.args.waiting.now in
    if_all _ _ c.checked.result (λ told is. first_checked facts c.args.moment c.args.run running
    c.requires.running waiting c.requires.waiting
    (subst (FirstStage facts (TimesOut facts c.args.moment) running) c.in_default.is
    c.in_ok-event.ensures)
    (subst (FirstStage facts (JobIsPassedOver facts) running) c.in_default-2.is
    c.in_ok-event-2.ensures)
    (subst (FirstStage facts (IsDone facts) running) c.in_default-3.is c.in_ok-event-3.ensures)
    (subst (FirstStage facts (IsPassedOver facts) waiting) c.in_default-4.is
    c.in_ok-event-4.ensures) (found_of told.first) is)
    c.checked.ensures.first
