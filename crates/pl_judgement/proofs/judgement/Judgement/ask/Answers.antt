use Rattle.std.proofs.Common.{ap, sym, ◌∙◌}
use Rattle.pl_judgement.specs.declared.judgement.Judgement.{Judgement}
use Rattle.pl_judgement.proofs.Asking.{all_asked, asked_one, asked_other}
use Rattle.pl_judgement.proofs.judgement.Judgement.ask.Goals.{then-is_of+in_ok-verdict, else-is_of}
use Rattle.pl_judgement.proofs.judgement.Judgement.ask.Goals as goal

pub loop-check-preserved : goal.loop-check-preserved
loop-check-preserved c =
    elim c.if-is_of.branch [
      | then-is_of+in_ok-verdict w ↦
          asked_one c.args.view.now c.args.moment c.args.kind c.args.checks.now c.args.self.now
          c.loop-check.check-index c.check-item.result w.in_ok-verdict.field-0 c.loop-check.self
          c.if-is_of.self c.loop-check-test.true c.check-item.is
          (sym c.is_of.ensures ∙ w.if-is_of.true) w.in_ok-verdict.ensures
          (ap (λ (j : Judgement). j.fail) w.self-is ∙ w.hear.ensures.fail)
          (ap (λ (j : Judgement). j.wait) w.self-is ∙ w.hear.ensures.wait) c.loop-check.invariant
      | else-is_of w ↦
          asked_other c.args.view.now c.args.moment c.args.kind c.args.checks.now c.args.self.now
          c.loop-check.check-index c.check-item.result c.loop-check.self c.if-is_of.self
          c.loop-check-test.true c.check-item.is (sym c.is_of.ensures ∙ w.if-is_of.false) w.self-is
          c.loop-check.invariant
    ]

pub returns : goal.returns
returns c =
    all_asked c.args.view.now c.args.moment c.args.kind c.args.checks.now c.args.self.now
    c.loop-check.check-index c.loop-check.self c.loop-check-test.false c.loop-check.invariant
