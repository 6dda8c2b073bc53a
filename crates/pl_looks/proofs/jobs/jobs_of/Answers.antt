use Rattle.std.proofs.Common.{get_or, refl}
use Rattle.std.proofs.lemmas.List.{get_or_default}
use Rattle.pl_due.proofs.Looping.{all_lists, lists_more}
use Rattle.pl_due.specs.Open.{at_place}
use Rattle.pl_due.specs.declared.open_stages.Place.{Place}
use Rattle.pl_looks.specs.Jobs.{of_place, ready_job, taken_job}
use Rattle.pl_looks.proofs.jobs.jobs_of.Goals as goal

pub loop-place-preserved : goal.loop-place-preserved
loop-place-preserved c =
    let facts = c.args.journal.now.facts in
    let run = c.args.run in
    let places = c.args.places.now in
    let i = c.loop-place.place-index in
    let at = get_or places i (at_place 0 0) in
    let is = get_or_default places i (at_place 0 0) at c.loop-place-test.true in
    record {
      ready = lists_more (λ (p : Place). of_place ready_job facts run p.stage) places i at
          c.loop-place.ready c.push_place.new.ready c.loop-place-test.true is
          c.loop-place.invariant.ready c.in_ok-push_place.ensures.ready;
      taken = lists_more (λ (p : Place). of_place taken_job facts run p.stage) places i at
          c.loop-place.taken c.push_place.new.taken c.loop-place-test.true is
          c.loop-place.invariant.taken c.in_ok-push_place.ensures.taken;
    }

pub returns-clause-ready : goal.returns-clause-ready
returns-clause-ready c = all_lists
    (λ (p : Place). of_place ready_job c.args.journal.now.facts c.args.run p.stage)
    c.args.places.now c.args.places.now c.loop-place.place-index c.loop-place.ready
    c.loop-place-test.false refl c.loop-place.invariant.ready

pub returns-clause-taken : goal.returns-clause-taken
returns-clause-taken c = all_lists
    (λ (p : Place). of_place taken_job c.args.journal.now.facts c.args.run p.stage)
    c.args.places.now c.args.places.now c.loop-place.place-index c.loop-place.taken
    c.loop-place-test.false refl c.loop-place.invariant.taken
