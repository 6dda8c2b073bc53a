use Rattle.std.proofs.Common.{Option, subst}
use Rattle.pl_opening.specs.Below.pl_history.specs.Made.{WantsFor}
use Rattle.pl_service.proofs.Standing.{stands_if}
use Rattle.pl_service.specs.Past.{log, past_of}
use Rattle.pl_snapshots.specs.declared.snapshot.Snapshot.{Snapshot}
use Rattle.pl_service.proofs.service.Service.made_for.Goals as goal

pub made_of-requires : goal.made_of-requires
made_of-requires g c =
    let past = past_of c.args.self.now in
    stands_if past c.args.call.now c.in-Some.snapshot c.args.ahead
    (subst (λ (wanted : Option Snapshot). WantsFor (log past) c.args.call.now wanted)
    c.in-Some.is c.in_ok-snapshot.ensures) c.requires.ahead
