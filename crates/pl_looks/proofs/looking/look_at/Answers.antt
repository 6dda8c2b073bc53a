use Rattle.std.proofs.Common.{ap, flat_map, ◌∙◌}
use Rattle.std.proofs.lemmas.List.{append-nil}
use Rattle.pl_due.specs.Contention.{Holds}
use Rattle.pl_due.specs.Open.{of_run, runs}
use Rattle.pl_due.specs.declared.open_stages.Place.{Place}
use Rattle.pl_looks.specs.Jobs.{of_place, ready_job, taken_job}
use Rattle.pl_looks.proofs.Lasting.{looked}
use Rattle.pl_looks.proofs.OneRun.{has_running, has_waiting, those_in}
use Rattle.pl_looks.proofs.looking.look_at.Goals as goal

pub found_in-requires-clause-running : goal.found_in-requires-clause-running
found_in-requires-clause-running c =
    has_running c.args.journal.now.facts c.args.run c.args.running.now c.requires.running

pub found_in-requires-clause-waiting : goal.found_in-requires-clause-waiting
found_in-requires-clause-waiting c =
    has_waiting c.args.journal.now.facts c.args.run c.args.waiting.now c.requires.waiting

pub returns : goal.returns
returns c =
    let facts = c.args.journal.now.facts in
    let run = c.args.run in
    let running = c.args.running.now in
    let one = c.requires.running ∙ append-nil (of_run facts (runs facts) run) in
    looked facts c.args.moment run c.in_ok-first.field-0.first c.in_ok-first.field-0.eligible
    c.in_ok-holders.holders c.in_ok-ready.field-0.ready c.in_ok-ready.field-0.taken
    c.run_until-wakes.result c.in_ok-first.ensures.first c.in_ok-first.ensures.eligible
    (those_in facts (Holds facts) run (Holds facts) running c.in_ok-holders.holders
    (has_running facts run running c.requires.running) (λ told one r stage is. is)
    c.in_ok-holders.ensures)
    (c.in_ok-ready.ensures.ready
    ∙ ap (flat_map (λ (at : Place). of_place ready_job facts run at.stage)) one)
    (c.in_ok-ready.ensures.taken
    ∙ ap (flat_map (λ (at : Place). of_place taken_job facts run at.stage)) one)
    c.run_until-wakes.ensures.later c.run_until-wakes.ensures.quiet
