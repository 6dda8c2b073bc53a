use Rattle.pl_checks.specs.Provenance.{IsLiteral}
use Rattle.pl_checks.proofs.FirstPlaces.{first_item}
use Rattle.pl_checks.proofs.template.steps_verdict.Goals as goal

pub returns-in_ok-argument_rule-in-Some : goal.returns-in_ok-argument_rule-in-Some
returns-in_ok-argument_rule-in-Some c =
    let first = rw c.in-Some.is at c.in_ok-place.ensures in
    let step = c.index-steps-place.result in (
      step,
      c.in_ok-argument_rule-in-Some.ensures,
      first_item (λ s. ¬ IsLiteral c.args.file.now s)
          c.args.steps.now c.in-Some.place step c.index-steps-place.is first,
    )
