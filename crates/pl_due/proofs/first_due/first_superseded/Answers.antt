use Rattle.std.proofs.Common.{inl, refl, subst, sym}
use Rattle.pl_locks.specs.Locks.{IsSuperseded}
use Rattle.pl_due.proofs.ByLocks.{given_up}
use Rattle.pl_due.proofs.first_due.first_superseded.Goals as goal

pub unreachable-requires : goal.unreachable-requires
unreachable-requires c =
    let (k, stage, below, at, superseded) = c.requires.some in
    c.in-None.ensures k stage below (subst (IsSuperseded c.args.eligible.now) (sym at) superseded)

pub returns : goal.returns
returns c =
    let (one, is, at, least) = c.in-Some.ensures in
    let event = c.in_ok-superseded_end-in-Some.field-0 in
    inl (
      event,
      refl,
      given_up c.args.eligible.now c.args.holders.now c.in-Some.run' c.in-Some.stage
          one at event c.in-Some.later is least c.in_ok-superseded_end-in-Some.ensures,
    )
