use Rattle.std.proofs.Common.{[], take}
use Rattle.pl_touched.specs.Touched.{touched, touched_by}
use Rattle.pl_touching.proofs.Following.{fit_all, joins_all, touched_next}
use Rattle.pl_touching.proofs.touching.touched_rows.Goals as goal

pub loop-fact-preserved : goal.loop-fact-preserved
loop-fact-preserved c =
    let facts = c.args.journal.now.facts in
    let are = touched_next c.loop-fact.fact-index c.args.facts.now c.fact-item.result
    c.loop-fact-test.true c.fact-item.is in
    let one = touched_by (take c.loop-fact.fact-index c.args.facts.now) in
    let two = touched c.fact-item.result.event in
    record {
      apart = c.add_touched.ensures.apart c.loop-fact.invariant.apart;
      joins = joins_all facts one two _ are [] c.loop-fact.rows.items c.add_touched.new.rows.items
          c.loop-fact.invariant.joins c.in_ok-add_touched.ensures.joins;
      fits = fit_all facts one two _ are c.loop-fact.invariant.fits
          c.in_ok-add_touched.ensures.fits;
    }
