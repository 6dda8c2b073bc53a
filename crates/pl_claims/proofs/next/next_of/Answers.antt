use Rattle.std.proofs.Common.{arith, sym, ◌∙◌}
use Rattle.std.specs.BTreeSet.{contains}
use Rattle.pl_locks.specs.Locks.{MayStart}
use Rattle.pl_locks.proofs.Chosen.{first_free, none_more}
use Rattle.pl_claims.specs.Claims.{key_cmp, wants}
use Rattle.pl_claims.proofs.Choosing.{may, may_not}
use Rattle.pl_claims.proofs.Turns.{any_more}
use Rattle.pl_claims.proofs.next.next_of.Goals as goal

pub returns-then-not-wants_taken : goal.returns-then-not-wants_taken
returns-then-not-wants_taken c =
    let eligible = c.args.eligible.now in
    let holders = c.args.holders.now in
    let i = c.loop-stage.stage-index in
    let stage = c.stage-item.result in
    first_free eligible holders i stage c.requires.ordered c.loop-stage-test.true c.stage-item.is
    c.loop-stage.invariant.none
    (may eligible holders c.requires.ordered c.requires.stand i stage c.loop-stage-test.true
    c.stage-item.is c.loop-stage.taken c.loop-stage.invariant.taken
    (sym c.wants_taken.ensures ∙ c.if-not-wants_taken.true))

pub loop-stage-preserved : goal.loop-stage-preserved
loop-stage-preserved c =
    let eligible = c.args.eligible.now in
    let holders = c.args.holders.now in
    let i = c.loop-stage.stage-index in
    let stage = c.stage-item.result in
    record {
      none = none_more (MayStart eligible holders) eligible i stage c.loop-stage-test.true
          c.stage-item.is c.loop-stage.invariant.none
          (may_not eligible holders c.requires.ordered c.requires.stand i stage
          c.loop-stage-test.true c.stage-item.is c.loop-stage.taken c.loop-stage.invariant.taken
          (sym c.wants_taken.ensures ∙ c.if-not-wants_taken.false));
      taken = λ key. any_more (wants key) holders eligible i stage
          (contains key_cmp c.loop-stage.taken key) (contains key_cmp c.take.new.taken key)
          c.loop-stage-test.true c.stage-item.is (c.in_ok-take.ensures key)
          (c.loop-stage.invariant.taken key);
    }

pub returns : goal.returns
returns c = λ k d below. c.loop-stage.invariant.none k d
    (omega (arith, below, c.loop-stage-test.false))
