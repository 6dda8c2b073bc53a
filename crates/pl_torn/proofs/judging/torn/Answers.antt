use Rattle.std.proofs.Common.{List, ap, sym, ◌∙◌}
use Rattle.pl_torn.specs.Torn as spec
use Rattle.pl_torn.specs.declared.seen.Seen.{Seen}
use Rattle.pl_torn.proofs.EachRow.{ended, hit, miss}
use Rattle.pl_torn.proofs.judging.torn.Goals as goal

pub returns-then-branch : goal.returns-then-branch
returns-then-branch c =
    let one = c.index-all-at.result in
    sym (hit c.args.admin.now c.args.all.now c.loop-at.at one c.loop-at-test.true
    c.index-all-at.is (ap (λ (before : List Seen). spec.is_bad c.args.admin.now c.args.all.now
    before one) (sym c.in_front-before.ensures) ∙
    (sym c.in_ok-is_bad.ensures ∙ c.if-branch.true))) ∙ c.loop-at.invariant

pub loop-at-preserved : goal.loop-at-preserved
loop-at-preserved c =
    let one = c.index-all-at.result in
    miss c.args.admin.now c.args.all.now c.loop-at.at one c.loop-at-test.true
    c.index-all-at.is (ap (λ (before : List Seen). spec.is_bad c.args.admin.now c.args.all.now
    before one) (sym c.in_front-before.ensures) ∙
    (sym c.in_ok-is_bad.ensures ∙ c.if-branch.false)) ∙ c.loop-at.invariant

pub returns : goal.returns
returns c =
    sym (ended c.args.admin.now c.args.all.now c.loop-at.at c.loop-at-test.false) ∙
    c.loop-at.invariant
