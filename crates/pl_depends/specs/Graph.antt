-- What stages, and jobs of a stage, wait for (Microsoft Learn, "YAML schema reference": dependsOn
-- of stages.stage, jobs.job and jobs.deployment; "Stages" and "Jobs", Specify dependencies).
use Rattle.std.specs.Prelude.{ℕ, ◌+◌, ◌-◌, ◌==◌, ◌<◌, List, [], ◌∷◌, map, length}
use Rattle.std.specs.Prelude.{flat_map, Option, Some, None, unwrap_or, if◌then◌else◌}
use Rattle.std.specs.List.{AllByRecursion}
use Rattle.pl_schema_parts.specs.declared.pipeline.DependSpec.{DependSpec}
use Rattle.pl_schema_parts.specs.declared.pipeline.JobSpec.{JobSpec}
use Rattle.pl_schema_parts.specs.declared.pipeline.StageSpec.{StageSpec}
use Rattle.pl_depends.specs.declared.graph.Waiting.{Waiting}
use Rattle.pl_depends.specs.Places.{Finding, places_under, stage_entries, job_entries}

-- the places of those that are waited for, as they are written, doubles kept
abbrev pub places_named : Finding → List DependSpec → List ℕ
places_named find depends = flat_map (λ depend. unwrap_or (find depend.name) []) depends

-- the first stage waits for none
abbrev pub the_one_before : ℕ → List ℕ
the_one_before at = if at == 0 then [] else (at - 1) ∷ []

-- a stage that doesn't say what it waits for waits for the one before it
abbrev pub stage_waits : Finding → ℕ → Option (List DependSpec) → List ℕ
stage_waits find at None = the_one_before at
stage_waits find at (Some depends) = places_named find depends

-- a job that doesn't say what it waits for waits for none
abbrev pub job_waits : Finding → Option (List DependSpec) → List ℕ
job_waits find None = []
job_waits find (Some depends) = places_named find depends

-- ---- as a graph

abbrev pub waiting_stage : Finding → ℕ → StageSpec → Waiting
waiting_stage find at stage = record {
  name = stage.name;
  place = stage.place;
  depends = stage_waits find at stage.depends;
}

abbrev pub waiting_stages : Finding → ℕ → List StageSpec → List Waiting
waiting_stages find at [] = []
waiting_stages find at (stage ∷ stages) =
    waiting_stage find at stage ∷ waiting_stages find (at + 1) stages

abbrev pub stage_graph : List StageSpec → List Waiting
stage_graph stages = waiting_stages (places_under (stage_entries 0 stages)) 0 stages

abbrev pub waiting_job : Finding → JobSpec → Waiting
waiting_job find job = record {
  name = job.name;
  place = job.place;
  depends = job_waits find job.depends;
}

abbrev pub job_graph : List JobSpec → List Waiting
job_graph jobs = map (waiting_job (places_under (job_entries 0 jobs))) jobs

-- for whom each waits
abbrev pub waits_of : List Waiting → List (List ℕ)
waits_of graph = map (λ waiting. waiting.depends) graph

-- each waits for some of the graph
abbrev pub AreBelow : ℕ → List ℕ → Type 0
AreBelow count places = AllByRecursion (λ place. place < count) places

abbrev pub IsGraph : List Waiting → Type 0
IsGraph graph = AllByRecursion (λ waiting. AreBelow (length graph) waiting.depends) graph
