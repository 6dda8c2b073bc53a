-- Where a row stands in bytes: its table, and its key's fields as they are written.
use Rattle.std.specs.Prelude.{ℕ, ◌<◌, ◌^◌, ◌++◌, List}
use Rattle.pl_fields.specs.Checks.{file_key, resource_key, IsFileKey}
use Rattle.pl_fields.specs.Fields.{number, text, IsText}
use Rattle.pl_kept.specs.Kept.{Where, File, Pipeline, Resource, Principal, Agent, Run, Stage, Job}
use Rattle.pl_kept.specs.Kept.{Decision}

abbrev pub place_at : Where → ℕ × List ℕ
place_at (File at) = (1, file_key at)
place_at (Pipeline at) = (2, text at)
place_at (Resource at) = (3, resource_key at)
place_at (Principal at) = (4, text at)
place_at (Agent at) = (5, text at)
place_at (Run run) = (6, number run)
place_at (Stage run stage) = (7, number run ++ number stage)
place_at (Job run stage job) = (8, number run ++ (number stage ++ number job))
place_at (Decision run stage by_whom) = (9, number run ++ (number stage ++ text by_whom))

-- its fields are values of their types
abbrev pub Fits : Where → Type 0
Fits (File at) = IsFileKey at
Fits (Pipeline at) = IsText at
Fits (Resource at) = Unit {0} × IsText at.name
Fits (Principal at) = IsText at
Fits (Agent at) = IsText at
Fits (Run run) = run < 2 ^ 64
Fits (Stage run stage) = (run < 2 ^ 64) × (stage < 2 ^ 32)
Fits (Job run stage job) = (run < 2 ^ 64) × ((stage < 2 ^ 32) × (job < 2 ^ 32))
Fits (Decision run stage by_whom) = (run < 2 ^ 64) × ((stage < 2 ^ 32) × IsText by_whom)
