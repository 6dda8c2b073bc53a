-- Who may call what (Microsoft Learn, Azure Pipelines, "Pipeline permissions"; RFC 6750): a caller
-- is the principal that has the token, and needs one of the route's roles.
use Rattle.std.specs.Prelude.{Bool, List}
use Rattle.std.specs.List.{list_any}
use Rattle.pl_requests.specs.declared.request.Request.{Request}
use Rattle.pl_requests.specs.declared.request.Request.TheVariants as request
use Rattle.pl_requests.specs.declared.settings.PrincipalSetting.{PrincipalSetting}
use Rattle.pl_routes.specs.Table.{row_of}
use Rattle.pl_routes.specs.declared.route.Route.{Route}
use Rattle.pl_routes.specs.declared.route.Route.TheVariants as route
use Rattle.pl_rules.specs.contracts.role.RolePartialEq.TheImpl as role
use Rattle.pl_rules.specs.declared.role.Role.{Role}

abbrev pub route_of : Request → Route
route_of (request.PutFile file) = route.PutFile
route_of (request.RemoveFile key) = route.RemoveFile
route_of (request.GetFile key) = route.GetFile
route_of (request.SetPipeline told) = route.SetPipeline
route_of (request.SetResource told) = route.SetResource
route_of (request.SetPrincipal told) = route.SetPrincipal
route_of (request.SetAgent told) = route.SetAgent
route_of (request.QueueText text) = route.QueueText
route_of (request.Queue order) = route.QueueRun
route_of (request.ReadRun run) = route.ReadRun
route_of (request.Cancel run) = route.CancelRun
route_of (request.Decide run stage approve) = route.Decide
route_of request.Draw = route.Draw
route_of (request.Claim job) = route.Claim
route_of (request.Why job agent) = route.Why
route_of (request.Report job report) = route.Report
route_of request.Shutdown = route.Shutdown

-- the roles of which a caller needs one
abbrev pub wanted_roles : Request → List Role
wanted_roles asked = (row_of (route_of asked)).roles

abbrev pub is_role : Role → Role → Bool
is_role = (role.ghosts).eq

abbrev pub has_role : PrincipalSetting → Role → Bool
has_role who wanted = list_any (is_role wanted) who.roles

abbrev pub may_call : PrincipalSetting → Request → Bool
may_call who asked = list_any (has_role who) (wanted_roles asked)
