use Rattle.std.proofs.Common.{◌-◌, ℕ, ap, sym, ◌∙◌, subst, arith}
use Rattle.pl_log.specs.Kept.{link_of}
use Rattle.pl_log.proofs.Walks.{WalksFor, walks_begin, walks_find, walks_on}
use Rattle.pl_log.proofs.walking.walk.Goals as goal

pub loop-number-init : goal.loop-number-init
loop-number-init g c = record {
  within = c.requires.within;
  walks = walks_begin c.args.link (g.F.Test.passes c.args.test.now) c.args.kept.now c.args.from;
}

pub returns-then-passes : goal.returns-then-passes
returns-then-passes g c = λ wider linked starts.
    walks_find c.args.link (g.F.Test.passes c.args.test.now) c.args.kept.now c.args.from
    c.loop-number.number c.index-kept-number.result (omega (arith, c.loop-number-test.true))
    c.loop-number.invariant.within c.index-kept-number.is (sym c.passes.ensures ∙ c.if-passes.true)
    c.loop-number.invariant.walks wider linked starts

pub loop-number-preserved : goal.loop-number-preserved
loop-number-preserved g c =
    let n = c.loop-number.number in
    let one = c.index-kept-number.result in
    let within = c.loop-number.invariant.within in
    let leads = c.requires.leads (n - 1) one (omega (arith, c.loop-number-test.true, within)) in
    let is = c.link-number.ensures ∙ ap (link_of c.args.link) c.index-kept-number.is in
    let P : ℕ → Type 0 =
    WalksFor c.args.link (g.F.Test.passes c.args.test.now) c.args.kept.now c.args.from in
    record {
      within = omega (arith, is, leads, within);
      walks = subst P (sym c.link-number.ensures) (walks_on c.args.link
          (g.F.Test.passes c.args.test.now) c.args.kept.now c.args.from n one
          (omega (arith, c.loop-number-test.true)) within c.index-kept-number.is
          (sym c.passes.ensures ∙ c.if-passes.false) c.loop-number.invariant.walks);
    }
