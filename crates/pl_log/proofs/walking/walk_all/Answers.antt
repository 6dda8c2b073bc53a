use Rattle.std.proofs.Common.{◌-◌, map, ap, ◌∙◌, arith}
use Rattle.pl_log.specs.Kept.{link_of}
use Rattle.pl_log.proofs.Gathering.{gather_begins, gather_ends, gather_goes_on}
use Rattle.pl_log.proofs.walking.walk_all.Goals as goal

pub loop-number-init : goal.loop-number-init
loop-number-init g c = record {
  within = c.requires.within;
  gathers = gather_begins c.args.link (g.F.Test.passes c.args.test.now) c.args.kept.now
      c.args.from _
      (ap (map (λ item. item.now)) c.new-found.ensures.items);
}

pub loop-number-preserved : goal.loop-number-preserved
loop-number-preserved g c =
    let n = c.loop-number.number in
    let one = c.index-kept-number.result in
    let within = c.loop-number.invariant.within in
    let leads = c.requires.leads (n - 1) one (omega (arith, c.loop-number-test.true, within)) in
    let is = c.link-number.ensures ∙ ap (link_of c.args.link) c.index-kept-number.is in
    record {
      within = omega (arith, is, leads, within);
      gathers = gather_goes_on c.args.link (g.F.Test.passes c.args.test.now) c.args.kept.now
          c.args.from n one _ _ c.link-number.result (omega (arith, c.loop-number-test.true)) within
          c.index-kept-number.is c.link-number.ensures c.in_ok-add_passing.ensures
          c.loop-number.invariant.gathers;
    }

pub returns : goal.returns
returns g c = λ wider linked starts.
    gather_ends c.args.link (g.F.Test.passes c.args.test.now) c.args.kept.now c.args.from
    c.loop-number.number _ (omega (arith, c.loop-number-test.false)) c.loop-number.invariant.gathers
    wider linked starts
