-- What a call's pipeline was compiled to, where the call queues a run.
use Rattle.std.specs.Prelude.{◌≡◌, ◌⊎◌, true, false, Option, Some, None}
use Rattle.pl_compilation.specs.Made.{IsMade}
use Rattle.pl_journal.specs.Log.{Log}
use Rattle.pl_journal.specs.Settings.{principal_with}
use Rattle.pl_step.specs.Below.pl_queueing.specs.Queueing.{Made}
use Rattle.pl_requests.specs.declared.call.Call.{Call}
use Rattle.pl_requests.specs.declared.settings.PrincipalSetting.{PrincipalSetting}
use Rattle.pl_compilation.specs.Below.pl_snapshots.specs.Snapshots.{Wants}
use Rattle.pl_compilation.specs.Below.pl_snapshots.specs.declared.snapshot.Snapshot.{Snapshot}
use Rattle.pl_step.specs.Callers.{may_call}

-- what is to be compiled: nothing, where the caller isn't known or may not make the call
abbrev pub WantsAs : Log → Call → Option Snapshot → Option PrincipalSetting → Type 0
WantsAs log call snapshot None = snapshot ≡ None
WantsAs log call snapshot (Some who) =
    ((may_call who call.request ≡ false) × (snapshot ≡ None))
    ⊎ ((may_call who call.request ≡ true) × Wants log call.request snapshot)

abbrev pub WantsFor : Log → Call → Option Snapshot → Type 0
WantsFor log call snapshot =
    WantsAs log call snapshot (principal_with log.admin call.caller.bytes log.facts)

-- The compile of what is wanted, which is there exactly where something is. The files are those
-- before what is due is settled, which changes no file.
abbrev pub IsMadeFor : Log → Call → Made → Type 0
IsMadeFor log call made = (snapshot : Option Snapshot) × WantsFor log call snapshot
    × IsMade snapshot made
