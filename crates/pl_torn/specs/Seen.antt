-- Rows with what was read in them, and what their records tell.
use Rattle.std.specs.Prelude.{ℕ, Bool, List, Option, Some, None}
use Rattle.std.specs.List.{find}
use Rattle.std.specs.List.Sorted.{IsSortedBy}
use Rattle.std.specs.Option.{option_and_then}
use Rattle.pl_changes.specs.Differing.{stands_at}
use Rattle.pl_keeper.specs.Keeping.{comes_before as row_before}
use Rattle.pl_keeper.specs.declared.records.KeptJob.{KeptJob}
use Rattle.pl_keeper.specs.declared.records.KeptPrincipal.{KeptPrincipal}
use Rattle.pl_keeper.specs.declared.records.KeptResource.{KeptResource}
use Rattle.pl_keeper.specs.declared.records.KeptStage.{KeptStage}
use Rattle.pl_keeper.specs.declared.records.Meta.{Meta}
use Rattle.pl_keeper.specs.declared.records.Record.{Record}
use Rattle.pl_keeper.specs.declared.records.Record.TheVariants as kept
use Rattle.pl_torn.specs.declared.seen.Seen.{Seen}

-- in order of table and key: none comes before the one in front of it
abbrev pub comes_before : Seen → Seen → Bool
comes_before one other = row_before one.row.now other.row.now

abbrev pub AreInOrder : List Seen → Type 0
AreInOrder all = IsSortedBy comes_before all

-- the row that stands at a place, with what was read in it
abbrev pub seen_at : ℕ × List ℕ → List Seen → Option Seen
seen_at at all = find (λ one. stands_at at one.row.now) all

-- what was read there
abbrev pub record_at : ℕ × List ℕ → List Seen → Option Record
record_at at all = option_and_then (λ one. one.kept) (seen_at at all)

-- ---- a record by its table

abbrev pub meta_in : Record → Option Meta
meta_in (kept.Meta told) = Some told
meta_in _ = None

abbrev pub resource_in : Record → Option KeptResource
resource_in (kept.Resource told) = Some told
resource_in _ = None

abbrev pub principal_in : Record → Option KeptPrincipal
principal_in (kept.Principal told) = Some told
principal_in _ = None

abbrev pub stage_in : Record → Option KeptStage
stage_in (kept.Stage told) = Some told
stage_in _ = None

abbrev pub job_in : Record → Option KeptJob
job_in (kept.Job told) = Some told
job_in _ = None

-- the principal, the stage, the job of a row
abbrev pub principal_of : Seen → Option KeptPrincipal
principal_of one = option_and_then principal_in one.kept

abbrev pub stage_of : Seen → Option KeptStage
stage_of one = option_and_then stage_in one.kept

abbrev pub job_of : Seen → Option KeptJob
job_of one = option_and_then job_in one.kept
