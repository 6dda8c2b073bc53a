use Rattle.std.proofs.Common.{arith, refl, subst, sym, ◌∙◌}
use Rattle.std.proofs.lemmas.Bool.{false≢true}
use Rattle.pl_locks.specs.Locks.{IsSuperseded}
use Rattle.pl_locks.proofs.Chosen.{none_more}
use Rattle.pl_claims.proofs.Choosing.{gives_way}
use Rattle.pl_claims.proofs.latest.any_superseded.Goals as goal

pub returns-then-branch : goal.returns-then-branch
returns-then-branch c =
    let stage = c.stage-item.result in
    let tells = gives_way c.args.eligible.now c.requires c.in_ok-latest.latest
    c.in_ok-latest.ensures stage c.in_ok-is_superseded.field-0 c.in_ok-is_superseded.ensures in (
      λ h. (
        c.loop-stage.stage-index,
        stage,
        c.loop-stage-test.true,
        sym c.stage-item.is,
        tells.0 c.if-branch.true,
      ),
      λ h. refl,
    )

pub loop-stage-preserved : goal.loop-stage-preserved
loop-stage-preserved c =
    let stage = c.stage-item.result in
    let tells = gives_way c.args.eligible.now c.requires c.in_ok-latest.latest
    c.in_ok-latest.ensures stage c.in_ok-is_superseded.field-0 c.in_ok-is_superseded.ensures in
    none_more (IsSuperseded c.args.eligible.now) c.args.eligible.now c.loop-stage.stage-index stage
    c.loop-stage-test.true c.stage-item.is c.loop-stage.invariant
    (λ h. false≢true (sym c.if-branch.false ∙ tells.1 h))

pub returns : goal.returns
returns c = (
  λ h. absurd (false≢true h),
  λ (k, stage, below, is, h). absurd (c.loop-stage.invariant k stage
      (omega (arith, below, c.loop-stage-test.false))
      (subst (IsSuperseded c.args.eligible.now) (sym is) h)),
)
