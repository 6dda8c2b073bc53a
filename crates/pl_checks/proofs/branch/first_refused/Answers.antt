use Rattle.std.proofs.Common.{◌∙◌, sym}
use Rattle.std.proofs.lemmas.Bool.{false≢true}
use Rattle.pl_checks.specs.Branches.{IsAllowed}
use Rattle.pl_checks.proofs.FirstPlaces.{first_at, one_more}
use Rattle.pl_checks.proofs.branch.first_refused.Goals as goal

pub returns-then-not-is_allowed : goal.returns-then-not-is_allowed
returns-then-not-is_allowed c =
    first_at (IsAllowed c.args.check.now) c.args.linked.now c.loop-place.place
    c.index-linked-place.result
    c.loop-place-test.true c.index-linked-place.is c.loop-place.invariant
    (λ allowed. false≢true (sym c.if-not-is_allowed.true ∙ c.is_allowed.ensures.1 allowed))

pub loop-place-preserved : goal.loop-place-preserved
loop-place-preserved c =
    one_more (IsAllowed c.args.check.now) c.args.linked.now c.loop-place.place
    c.index-linked-place.result
    c.loop-place-test.true c.index-linked-place.is c.loop-place.invariant
    (c.is_allowed.ensures.0 c.if-not-is_allowed.false)
