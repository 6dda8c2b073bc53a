use Rattle.std.proofs.Common.{sym, subst}
use Rattle.pl_journal.specs.Log.{Log}
use Rattle.pl_snapshots.specs.Gathering.{IsGathered}
use Rattle.pl_core.proofs.Keeping.{gathered_now}
use Rattle.pl_core.proofs.service.Core.wanted.Goals as goal

pub wanted_for-requires : goal.wanted_for-requires
wanted_for-requires c =
    subst (λ (l : Log). IsGathered l.facts c.self.inside.gathered) (sym c.journal.ensures)
    (gathered_now c.self.inside.first c.self.inside.journal c.self.inside.entries.items
    c.args.self.now c.self.inside.gathered c.self.invariant.0 c.self.view_is c.requires
    c.self.invariant.3)
