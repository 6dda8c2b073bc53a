-- The names of stages and of jobs with one more.
use Rattle.std.proofs.Common.{◌≡◌, ℕ, Bool, ◌||◌, List, [], ◌∷◌, ◌++◌, sym, ap, ◌∙◌}
use Rattle.std.specs.Prelude.{Some}
use Rattle.std.proofs.lemmas.List.{map-append}
use Rattle.pl_literal.specs.Booleans.{spells}
use Rattle.pl_schema_parts.specs.declared.pipeline.JobSpec.{JobSpec}
use Rattle.pl_schema_parts.specs.declared.pipeline.StageSpec.{StageSpec}
use Rattle.pl_schema_parts.specs.Names.{is_taken, also_taken}
use Rattle.pl_schema_parts.proofs.Taken.{more}
use Rattle.pl_schema.specs.Jobs.{job_names}
use Rattle.pl_schema.specs.Stages.{stage_names}

pub stage_more : (taken : List ℕ → Bool) (stages : List StageSpec) (stage : StageSpec) →
    taken ≡ is_taken (stage_names stages) → also_taken taken (Some stage.name) ≡ is_taken
    (stage_names (stages ++ stage ∷ []))
stage_more taken stages stage same i other =
    (ap (λ (t : List ℕ → Bool). t other || spells other stage.name) same ∙ more (stage_names stages)
    stage.name other
    ∙ ap (λ names. is_taken names other)
    (sym (map-append (λ (s : StageSpec). s.name) stages (stage ∷ [])))) i

pub job_more : (taken : List ℕ → Bool) (jobs : List JobSpec) (job : JobSpec) →
    taken ≡ is_taken (job_names jobs) → also_taken taken (Some job.name) ≡ is_taken
    (job_names (jobs ++ job ∷ []))
job_more taken jobs job same i other =
    (ap (λ (t : List ℕ → Bool). t other || spells other job.name) same ∙ more (job_names jobs)
    job.name other
    ∙ ap (λ names. is_taken names other)
    (sym (map-append (λ (j : JobSpec). j.name) jobs (job ∷ [])))) i
