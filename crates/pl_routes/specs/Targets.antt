-- What a path names: its parts, each by its rule.
use Rattle.std.specs.Prelude.{ℕ, List, Result, Ok}
use Rattle.pl_base.specs.declared.resource.Kind.{Kind}
use Rattle.pl_names.specs.Names.{is_label, is_name, is_path, is_ref, is_repository}
use Rattle.pl_reading.specs.Steps.{◌>>=◌}
use Rattle.pl_routes.specs.declared.fault.RouteFault.{RouteFault}
use Rattle.pl_routes.specs.declared.place.Place.{Place}
use Rattle.pl_routes.specs.declared.place.Place.TheVariants as place
use Rattle.pl_routes.specs.declared.target.JobKey.{JobKey}
use Rattle.pl_routes.specs.declared.target.Target.{Target}
use Rattle.pl_routes.specs.declared.target.Target.TheVariants.{File, Pipeline, Resource, Principal}
use Rattle.pl_routes.specs.declared.target.Target.TheVariants.{Agent, Texts, Runs, Run, Cancel}
use Rattle.pl_routes.specs.declared.target.Target.TheVariants.{Decision, Draw, Claim, Why, Report}
use Rattle.pl_routes.specs.declared.target.Target.TheVariants.{Shutdown}
use Rattle.pl_routes.specs.Parts.{kept, said_at, spelled_parts}
use Rattle.pl_routes.specs.Rules.{kind_said, run_said}

-- the part at a place from 0, by the rule of its kind
abbrev pub repository_at : ℕ → List (List ℕ) → Result (List ℕ) RouteFault
repository_at at parts = said_at at parts >>= kept is_repository

abbrev pub ref_at : ℕ → List (List ℕ) → Result (List ℕ) RouteFault
ref_at at parts = said_at at parts >>= kept is_ref

abbrev pub path_at : ℕ → List (List ℕ) → Result (List ℕ) RouteFault
path_at at parts = said_at at parts >>= kept is_path

-- the name of a pipeline, a resource, a principal, an agent or a stage
abbrev pub name_at : ℕ → List (List ℕ) → Result (List ℕ) RouteFault
name_at at parts = said_at at parts >>= kept is_name

-- a job is named by its label
abbrev pub label_at : ℕ → List (List ℕ) → Result (List ℕ) RouteFault
label_at at parts = said_at at parts >>= kept is_label

abbrev pub kind_at : ℕ → List (List ℕ) → Result Kind RouteFault
kind_at at parts = said_at at parts >>= kind_said

abbrev pub run_at : ℕ → List (List ℕ) → Result ℕ RouteFault
run_at at parts = said_at at parts >>= run_said

-- Behind the slash in front stands part 1. Of `/files/{repo}/{ref}/{path}` the repository is part
-- 2.
abbrev pub file_in : List (List ℕ) → Result Target RouteFault
file_in parts = do
  repo ← repository_at 2 parts
  git_ref ← ref_at 3 parts
  path ← path_at 4 parts
  Ok (File (record { repo = repo; git_ref = git_ref; path = path }))

abbrev pub resource_in : List (List ℕ) → Result Target RouteFault
resource_in parts = do
  kind ← kind_at 2 parts
  name ← name_at 3 parts
  Ok (Resource (record { kind = kind; name = name }))

abbrev pub decision_in : List (List ℕ) → Result Target RouteFault
decision_in parts = do
  run ← run_at 2 parts
  stage ← name_at 4 parts
  Ok (Decision (record { run = run; stage = stage }))

abbrev pub job_in : List (List ℕ) → Result JobKey RouteFault
job_in parts = do
  run ← run_at 2 parts
  stage ← name_at 4 parts
  job ← label_at 6 parts
  Ok (record { run = run; stage = stage; job = job })

abbrev pub why_in : List (List ℕ) → Result Target RouteFault
why_in parts = do
  job ← job_in parts
  agent ← name_at 8 parts
  Ok (Why (record { job = job; agent = agent }))

-- what the parts of a path name, a line a path
abbrev pub named_at : Place → List (List ℕ) → Result Target RouteFault
named_at place.File parts = file_in parts
named_at place.Pipeline parts = name_at 2 parts >>= λ name. Ok (Pipeline name)
named_at place.Resource parts = resource_in parts
named_at place.Principal parts = name_at 2 parts >>= λ name. Ok (Principal name)
named_at place.Agent parts = name_at 2 parts >>= λ name. Ok (Agent name)
named_at place.Texts parts = Ok Texts
named_at place.Runs parts = Ok Runs
named_at place.Run parts = run_at 2 parts >>= λ run. Ok (Run run)
named_at place.Cancel parts = run_at 2 parts >>= λ run. Ok (Cancel run)
named_at place.Decision parts = decision_in parts
named_at place.Draw parts = Ok Draw
named_at place.Claim parts = job_in parts >>= λ job. Ok (Claim job)
named_at place.Why parts = why_in parts
named_at place.Report parts = job_in parts >>= λ job. Ok (Report job)
named_at place.Shutdown parts = Ok Shutdown

abbrev pub target_at : Place → List ℕ → Result Target RouteFault
target_at place target = named_at place (spelled_parts target)
