-- What a message asks for: where its method and its target lead, and what its content says there.
use Rattle.std.specs.Prelude.{ℕ, List, Result, Ok, Err, if◌then◌else◌}
use Rattle.pl_bodies.specs.declared.fault.BodyFault.{BodyFault}
use Rattle.pl_bodies.specs.declared.fault.BodyFault.TheVariants.{Bad}
use Rattle.pl_bodies.specs.Meaning.{none_in, read_by}
use Rattle.pl_bodies.specs.Settings.{agent_by, decision_in, order_in, pipeline_by, principal_by}
use Rattle.pl_bodies.specs.Settings.{report_in, resource_by}
use Rattle.pl_reading.specs.Steps.{◌>>=◌}
use Rattle.pl_requests.specs.declared.request.JobName.{JobName}
use Rattle.pl_requests.specs.declared.request.Request.{Request}
use Rattle.pl_requests.specs.declared.request.Request.TheVariants as request
use Rattle.pl_requests.specs.WellFormed.{is_request}
use Rattle.pl_routes.specs.declared.goal.Goal.{Goal}
use Rattle.pl_routes.specs.declared.goal.Goal.TheVariants as goal
use Rattle.pl_routes.specs.declared.target.JobKey.{JobKey}
use Rattle.pl_routes.specs.declared.fault.RouteFault.{RouteFault}
use Rattle.pl_routes.specs.declared.fault.RouteFault.TheVariants as fault
use Rattle.pl_routes.specs.Goals.{goal_in}
use Rattle.pl_wire.specs.declared.message.RequestFault.{RequestFault}
use Rattle.pl_wire.specs.declared.message.RequestFault.TheVariants.{RouteUnknown, MethodUnknown}
use Rattle.pl_wire.specs.declared.message.RequestFault.TheVariants.{BodyBad}

abbrev pub job_name : JobKey → JobName
job_name key = record { run = key.run; stage = key.stage; job = key.job }

-- the request of a route, by its content, a line a route: a file's content and a text are any bytes
abbrev pub said_by : Goal → List ℕ → Result Request BodyFault
said_by (goal.PutFile key) content = Ok (request.PutFile (record { key = key; text = content }))
said_by (goal.RemoveFile key) content = none_in content >>= λ _. Ok (request.RemoveFile key)
said_by (goal.GetFile key) content = none_in content >>= λ _. Ok (request.GetFile key)
said_by (goal.SetPipeline name) content =
    read_by (pipeline_by name) content >>= λ told. Ok (request.SetPipeline told)
said_by (goal.SetResource key) content =
    read_by (resource_by key) content >>= λ told. Ok (request.SetResource told)
said_by (goal.SetPrincipal name) content =
    read_by (principal_by name) content >>= λ told. Ok (request.SetPrincipal told)
said_by (goal.SetAgent name) content =
    read_by (agent_by name) content >>= λ told. Ok (request.SetAgent told)
said_by goal.QueueText content = Ok (request.QueueText content)
said_by goal.QueueRun content = read_by order_in content >>= λ order. Ok (request.Queue order)
said_by (goal.ReadRun run) content = none_in content >>= λ _. Ok (request.ReadRun run)
said_by (goal.CancelRun run) content = none_in content >>= λ _. Ok (request.Cancel run)
said_by (goal.Decide at) content =
    read_by decision_in content >>= λ approve. Ok (request.Decide at.run at.stage approve)
said_by goal.Draw content = none_in content >>= λ _. Ok request.Draw
said_by (goal.Claim job) content = none_in content >>= λ _. Ok (request.Claim (job_name job))
said_by (goal.Why asking) content =
    none_in content >>= λ _. Ok (request.Why (job_name asking.job) asking.agent)
said_by (goal.Report job) content =
    read_by report_in content >>= λ report. Ok (request.Report (job_name job) report)
said_by goal.Shutdown content = none_in content >>= λ _. Ok request.Shutdown

-- a request within the rules and limits of its fields
abbrev pub kept : Request → Result Request BodyFault
kept request = if is_request request then Ok request else Err Bad

-- the request of a route by its content, within the rules and limits of its fields
abbrev pub kept_by : Goal → List ℕ → Result Request BodyFault
kept_by goal content = said_by goal content >>= kept

abbrev pub with_body : Result Request BodyFault → Result Request RequestFault
with_body (Ok request) = Ok request
with_body (Err fault) = Err BodyBad

abbrev pub with_goal : Result Goal RouteFault → List ℕ → Result Request RequestFault
with_goal (Ok goal) content = with_body (kept_by goal content)
with_goal (Err fault.RouteUnknown) content = Err RouteUnknown
with_goal (Err fault.MethodUnknown) content = Err MethodUnknown
with_goal (Err fault.Memory) content = Err RouteUnknown

-- the request that a method, a target and a content ask for: the target, then the method, then the
-- content are judged
unfoldable pub asked : List ℕ → List ℕ → List ℕ → Result Request RequestFault
asked method target content = with_goal (goal_in method target) content
