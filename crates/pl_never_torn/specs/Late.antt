-- Records that aren't later than the service's numbers tell.
use Rattle.std.specs.Prelude.{◌≡◌, false, Some}
use Rattle.pl_keeper.specs.declared.records.Meta.{Meta}
use Rattle.pl_keeper.specs.declared.records.Record.{Record}
use Rattle.pl_keeper.specs.declared.records.Record.TheVariants as kept
use Rattle.pl_torn.specs.Moments.{is_job_late, is_late, is_run_late, is_stage_late}

-- a line a table
abbrev pub IsNotLate : Meta → Record → Type 0
IsNotLate numbers (kept.Run told) = is_run_late (Some numbers) told ≡ false
IsNotLate numbers (kept.Stage told) = is_stage_late (Some numbers) told ≡ false
IsNotLate numbers (kept.Job told) = is_job_late (Some numbers) told ≡ false
IsNotLate numbers (kept.Decision told) = is_late (Some numbers) told.moment ≡ false
IsNotLate numbers _ = Unit {0}
