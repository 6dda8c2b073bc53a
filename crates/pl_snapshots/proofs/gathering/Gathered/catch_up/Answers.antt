use Rattle.std.proofs.Common.{◌<◌, ℕ, length, take, refl, subst, arith}
use Rattle.pl_snapshots.specs.Snapshots.{AreFiles}
use Rattle.pl_snapshots.proofs.FactByFact.{next_fact}
use Rattle.pl_snapshots.proofs.gathering.Gathered.catch_up.Goals as goal

pub loop-at-preserved : goal.loop-at-preserved
loop-at-preserved c =
    let facts = c.args.journal.now.facts in
    let within : c.loop-at.at < length facts =
    omega (arith, c.loop-at-test.true, c.len-at-end.ensures) in (
      refl,
      next_fact facts c.loop-at.at c.loop-at.self.files c.take_fact.new.files within
          (subst (λ (n : ℕ). AreFiles (take n facts) c.loop-at.self.files) c.loop-at.invariant.0
          c.loop-at.invariant.1.files_are) c.in_ok-take_fact.ensures.ok,
    )
