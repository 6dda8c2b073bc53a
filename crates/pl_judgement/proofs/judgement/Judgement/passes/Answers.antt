use Rattle.std.proofs.Common.{◌&&◌, Option, is_none, ap, sym, ◌∙◌}
use Rattle.pl_rules.specs.declared.rule.Rule.{Rule}
use Rattle.pl_judgement.specs.Said.{first_fail}
use Rattle.pl_judgement.proofs.Asking.{none_waits, one_fails, passing}
use Rattle.pl_judgement.proofs.judgement.Judgement.passes.Goals as goal

pub returns-then-is_none : goal.returns-then-is_none
returns-then-is_none c = λ verdicts sums.
    let self = c.args.self.now in
    none_waits self.fail self.wait c.is_none.result c.is_none-then-is_none.result c.is_none.ensures
    c.is_none-then-is_none.ensures c.if-is_none.true
    ∙ ap (λ (o : Option Rule). is_none o && is_none self.wait) sums.fail
    ∙ ap (λ (o : Option Rule). is_none (first_fail verdicts) && is_none o) sums.wait
    ∙ sym (passing verdicts)

pub returns-else-is_none : goal.returns-else-is_none
returns-else-is_none c = λ verdicts sums.
    let self = c.args.self.now in
    one_fails self.fail self.wait c.is_none.result c.is_none.ensures c.if-is_none.false
    ∙ ap (λ (o : Option Rule). is_none o && is_none self.wait) sums.fail
    ∙ ap (λ (o : Option Rule). is_none (first_fail verdicts) && is_none o) sums.wait
    ∙ sym (passing verdicts)
