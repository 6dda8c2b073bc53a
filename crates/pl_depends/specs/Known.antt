-- Names that are waited for: a stage waits for stages, and a job for jobs of its stage (Microsoft
-- Learn, "Stages" and "Jobs", Specify dependencies).
use Rattle.std.specs.Prelude.{List, Option, Some, None, Result, Ok, Err, is_some, if◌then◌else◌}
use Rattle.pl_schema_parts.specs.declared.pipeline.DependSpec.{DependSpec}
use Rattle.pl_schema_parts.specs.declared.pipeline.JobSpec.{JobSpec}
use Rattle.pl_schema_parts.specs.declared.pipeline.StageSpec.{StageSpec}
use Rattle.pl_depends.specs.declared.fault.PlanCode.TheVariants.{UnknownDependency}
use Rattle.pl_depends.specs.Gives.{Fault, each_passes}
use Rattle.pl_reading.specs.Steps.{◌>>=◌}
use Rattle.pl_depends.specs.Places.{Finding, places_under, stage_entries, job_entries}

-- one who has the name is there
abbrev pub known : Finding → DependSpec → Result (Unit {0}) Fault
known find depend =
    if is_some (find depend.name) then Ok tt else Err (UnknownDependency, depend.place)

abbrev pub all_known : Finding → Option (List DependSpec) → Result (Unit {0}) Fault
all_known find None = Ok tt
all_known find (Some depends) = each_passes (known find) depends

abbrev pub jobs_known : List JobSpec → Result (Unit {0}) Fault
jobs_known jobs =
    each_passes (λ job. all_known (places_under (job_entries 0 jobs)) job.depends) jobs

-- stage by stage: what it waits for, then what its jobs wait for
abbrev pub stage_known : Finding → StageSpec → Result (Unit {0}) Fault
stage_known find stage = all_known find stage.depends >>= λ done. jobs_known stage.jobs

unfoldable pub names_known : List StageSpec → Result (Unit {0}) Fault
names_known stages = each_passes (stage_known (places_under (stage_entries 0 stages))) stages
