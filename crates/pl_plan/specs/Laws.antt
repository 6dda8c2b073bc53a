-- What holds of each plan (Microsoft Learn, "Stages" and "Jobs", Specify dependencies).
use Rattle.std.specs.Prelude.{◌≡◌, ℕ, zero, suc, ◌+◌, List, [], ◌∷◌, ◌++◌, All, AllPairs, map}
use Rattle.std.specs.Prelude.{flat_map, length, codes, decimal, Option, Some, None}
use Rattle.std.specs.declared.cmp.Ordering.TheVariants.{Less}
use Rattle.pl_base.specs.declared.resource.ResourceKey.{ResourceKey}
use Rattle.pl_base.specs.declared.value.Value.{out-Value}
use Rattle.pl_base.specs.declared.value.Value.TheOpen as layer
use Rattle.pl_graph.specs.Graph.{AreEdges, IsCycle}
use Rattle.pl_literal.specs.Items.{Opened}
use Rattle.pl_graph.specs.Waits.{edges_by}
use Rattle.pl_schema_parts.specs.declared.pipeline.LegSpec.{LegSpec}
use Rattle.pl_schema_parts.specs.declared.pipeline.LegSpec.TheVariants.{One, Parallel, Matrix}
use Rattle.pl_schema_parts.specs.declared.pipeline.Pipeline.{Pipeline}
use Rattle.pl_schema_parts.specs.declared.pipeline.StageSpec.{StageSpec}
use Rattle.pl_uses.specs.Uses.{key_cmp}
use Rattle.pl_plan.specs.declared.plan.Plan.{Plan}
use Rattle.pl_plan.specs.declared.plan.PlanJob.{PlanJob}
use Rattle.pl_plan.specs.declared.plan.PlanStage.{PlanStage}

-- each waits for some of the list, and none waits for itself through the others
pub record IsOrderly (waits : List (List ℕ)) : Type 0 where
  pub below : AreEdges (length waits) (edges_by 0 waits)
  pub acyclic : (nodes : List ℕ) → IsCycle (edges_by 0 waits) nodes → ⊥

abbrev pub waits_of_stages : List PlanStage → List (List ℕ)
waits_of_stages stages = map (λ stage. stage.depends) stages

abbrev pub waits_of_jobs : List PlanJob → List (List ℕ)
waits_of_jobs jobs = map (λ job. job.depends) jobs

-- by kind and name, each behind all before it, so that none stands twice
abbrev pub Ascend : List ResourceKey → Type 0
Ascend keys = AllPairs (λ left right. key_cmp left right ≡ Less) keys

pub record IsSound (plan : Plan) : Type 0 where
  pub stages : IsOrderly (waits_of_stages plan.stages)
  pub jobs : All (λ stage. IsOrderly (waits_of_jobs stage.jobs)) plan.stages
  pub uses : All (λ stage. Ascend stage.uses) plan.stages

-- ---- stages, jobs and legs stand as they are written (jobs.job.strategy)

-- `job_1`, `job_2` and so on, so many
abbrev pub slice_names : ℕ → List (Option (List ℕ))
slice_names zero = []
slice_names (suc before) = slice_names before ++ Some (codes "job_" ++ decimal (before + 1)) ∷ []

-- the keys of a matrix, in its order
abbrev pub matrix_names : Opened → List (Option (List ℕ))
matrix_names (layer.Object pairs) = map (λ pair. Some pair.key) pairs
matrix_names value = []

-- the legs of a job by name, one without a name where it isn't cut
abbrev pub names_written : LegSpec → List (Option (List ℕ))
names_written One = None ∷ []
names_written (Parallel count) = slice_names count
names_written (Matrix node) = matrix_names (out-Value node.value)

-- a job and one of its legs
abbrev pub Label : Type 0
Label = List ℕ × Option (List ℕ)

abbrev pub labels_written : StageSpec → List Label
labels_written stage =
    flat_map (λ job. map (λ leg. (job.name, leg)) (names_written job.legs)) stage.jobs

abbrev pub labels_of : PlanStage → List Label
labels_of stage = map (λ job. (job.name, job.leg)) stage.jobs

-- a stage by name, with the labels of its jobs
abbrev pub Heading : Type 0
Heading = List ℕ × List Label

abbrev pub heading_of : PlanStage → Heading
heading_of stage = (stage.name, labels_of stage)

abbrev pub heading_written : StageSpec → Heading
heading_written stage = (stage.name, labels_written stage)

abbrev pub IsAsWritten : Pipeline → Plan → Type 0
IsAsWritten pipeline plan = map heading_of plan.stages ≡ map heading_written pipeline.stages
