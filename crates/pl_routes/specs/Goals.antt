-- Where a method and a target lead: to a route, with the parts of its path.
use Rattle.std.specs.Prelude.{ℕ, Bool, List, Option, Some, None, Result, Ok, Err, nat_eq}
use Rattle.std.specs.Prelude.{if◌then◌else◌}
use Rattle.std.specs.Cmp.Lexicographic.{pointwise}
use Rattle.pl_base.specs.declared.place.FileKey.{FileKey}
use Rattle.pl_reading.specs.Steps.{◌>>=◌}
use Rattle.pl_routes.specs.declared.fault.RouteFault.{RouteFault}
use Rattle.pl_routes.specs.declared.fault.RouteFault.TheVariants.{MethodUnknown}
use Rattle.pl_routes.specs.declared.goal.Goal.{Goal}
use Rattle.pl_routes.specs.declared.goal.Goal.TheVariants as goal
use Rattle.pl_routes.specs.declared.route.Route.{Route}
use Rattle.pl_routes.specs.declared.route.Route.TheVariants as route
use Rattle.pl_routes.specs.declared.target.Target.{Target}
use Rattle.pl_routes.specs.declared.target.Target.TheVariants as target
use Rattle.pl_routes.specs.Parts.{wanted}
use Rattle.pl_routes.specs.Routes.{place_in, table}
use Rattle.pl_routes.specs.Table.{row_of}
use Rattle.pl_routes.specs.Targets.{target_at}

-- whether this is a route's method; methods are compared exactly
abbrev pub has_method : Route → List ℕ → Bool
has_method route method = pointwise nat_eq method (row_of route).method

-- the one route of a path
abbrev pub only : Route → List ℕ → Goal → Result Goal RouteFault
only route method goal = if has_method route method then Ok goal else Err MethodUnknown

-- the routes of a file
abbrev pub of_file : List ℕ → FileKey → Result Goal RouteFault
of_file method key =
    if has_method route.PutFile method then Ok (goal.PutFile key)
    else if has_method route.RemoveFile method then Ok (goal.RemoveFile key)
    else if has_method route.GetFile method then Ok (goal.GetFile key)
    else Err MethodUnknown

-- the routes of a path, a line a path
abbrev pub goal_at : List ℕ → Target → Result Goal RouteFault
goal_at method (target.File key) = of_file method key
goal_at method (target.Pipeline name) = only route.SetPipeline method (goal.SetPipeline name)
goal_at method (target.Resource key) = only route.SetResource method (goal.SetResource key)
goal_at method (target.Principal name) = only route.SetPrincipal method (goal.SetPrincipal name)
goal_at method (target.Agent name) = only route.SetAgent method (goal.SetAgent name)
goal_at method target.Texts = only route.QueueText method goal.QueueText
goal_at method target.Runs = only route.QueueRun method goal.QueueRun
goal_at method (target.Run run) = only route.ReadRun method (goal.ReadRun run)
goal_at method (target.Cancel run) = only route.CancelRun method (goal.CancelRun run)
goal_at method (target.Decision stage) = only route.Decide method (goal.Decide stage)
goal_at method target.Draw = only route.Draw method goal.Draw
goal_at method (target.Claim job) = only route.Claim method (goal.Claim job)
goal_at method (target.Why asking) = only route.Why method (goal.Why asking)
goal_at method (target.Report job) = only route.Report method (goal.Report job)
goal_at method target.Shutdown = only route.Shutdown method goal.Shutdown

-- where a request goes: the target with its parts is judged before the method
abbrev pub goal_in : List ℕ → List ℕ → Result Goal RouteFault
goal_in method target =
    wanted (place_in table target) >>= λ place. target_at place target >>= goal_at method
