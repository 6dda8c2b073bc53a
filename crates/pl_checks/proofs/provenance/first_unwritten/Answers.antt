use Rattle.std.proofs.Common.{◌∙◌, sym}
use Rattle.std.proofs.lemmas.Bool.{false≢true}
use Rattle.pl_checks.specs.Provenance.{IsLiteral}
use Rattle.pl_checks.proofs.FirstPlaces.{first_at, one_more}
use Rattle.pl_checks.proofs.provenance.first_unwritten.Goals as goal

pub returns-then-not-branch : goal.returns-then-not-branch
returns-then-not-branch c =
    first_at (IsLiteral c.args.file.now) c.args.steps.now c.loop-place.place
    c.index-steps-place.result
    c.loop-place-test.true c.index-steps-place.is c.loop-place.invariant
    (λ literal. false≢true (sym c.if-not-branch.true ∙ c.in_ok-is_literal.ensures.1 literal))

pub loop-place-preserved : goal.loop-place-preserved
loop-place-preserved c =
    one_more (IsLiteral c.args.file.now) c.args.steps.now c.loop-place.place
    c.index-steps-place.result
    c.loop-place-test.true c.index-steps-place.is c.loop-place.invariant
    (c.in_ok-is_literal.ensures.0 c.if-not-branch.false)
