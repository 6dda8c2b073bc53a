-- The table of the service's routes.
use Rattle.std.specs.Prelude.{ℕ, List, [], ◌∷◌, codes}
use Rattle.pl_rules.specs.declared.role.Role.{Role}
use Rattle.pl_rules.specs.declared.role.Role.TheVariants.{Admin, Author, Approver, Agent, Reader}
use Rattle.pl_routes.specs.declared.place.Place.{Place}
use Rattle.pl_routes.specs.declared.place.Place.TheVariants as place
use Rattle.pl_routes.specs.declared.route.Route.{Route}
use Rattle.pl_routes.specs.declared.route.Route.TheVariants.{PutFile, RemoveFile, GetFile}
use Rattle.pl_routes.specs.declared.route.Route.TheVariants.{SetPipeline, SetResource, SetPrincipal}
use Rattle.pl_routes.specs.declared.route.Route.TheVariants.{SetAgent, QueueText, QueueRun, ReadRun}
use Rattle.pl_routes.specs.declared.route.Route.TheVariants.{CancelRun, Decide, Draw, Claim, Why}
use Rattle.pl_routes.specs.declared.route.Route.TheVariants.{Report, Shutdown}

-- a method (RFC 9110, section 9), a path in which a name in braces stands for a part, and the roles
-- of which a caller needs one
pub record Row : Type 0 where
  pub method : List ℕ
  pub path : List ℕ
  pub roles : List Role

abbrev pub row : List ℕ → List ℕ → List Role → Row
row method path roles = record { method = method; path = path; roles = roles }

abbrev pub admin : List Role
admin = Admin ∷ []

abbrev pub authors : List Role
authors = Admin ∷ Author ∷ []

abbrev pub any : List Role
any = Admin ∷ Author ∷ Approver ∷ Agent ∷ Reader ∷ []

-- the paths
abbrev pub path_of : Place → List ℕ
path_of place.File = codes "/files/{repo}/{ref}/{path}"
path_of place.Pipeline = codes "/pipelines/{name}"
path_of place.Resource = codes "/resources/{kind}/{name}"
path_of place.Principal = codes "/principals/{name}"
path_of place.Agent = codes "/agents/{name}"
path_of place.Texts = codes "/texts"
path_of place.Runs = codes "/runs"
path_of place.Run = codes "/runs/{run}"
path_of place.Cancel = codes "/runs/{run}/cancel"
path_of place.Decision = codes "/runs/{run}/stages/{stage}/decision"
path_of place.Draw = codes "/draw"
path_of place.Claim = codes "/runs/{run}/stages/{stage}/jobs/{job}/claim"
path_of place.Why = codes "/runs/{run}/stages/{stage}/jobs/{job}/why/{agent}"
path_of place.Report = codes "/runs/{run}/stages/{stage}/jobs/{job}/report"
path_of place.Shutdown = codes "/shutdown"

-- the table of routes, a line a route
abbrev pub row_of : Route → Row
row_of PutFile = row (codes "PUT") (path_of place.File) authors
row_of RemoveFile = row (codes "DELETE") (path_of place.File) authors
row_of GetFile = row (codes "GET") (path_of place.File) any
row_of SetPipeline = row (codes "PUT") (path_of place.Pipeline) admin
row_of SetResource = row (codes "PUT") (path_of place.Resource) admin
row_of SetPrincipal = row (codes "PUT") (path_of place.Principal) admin
row_of SetAgent = row (codes "PUT") (path_of place.Agent) admin
row_of QueueText = row (codes "POST") (path_of place.Texts) authors
row_of QueueRun = row (codes "POST") (path_of place.Runs) authors
row_of ReadRun = row (codes "GET") (path_of place.Run) any
row_of CancelRun = row (codes "POST") (path_of place.Cancel) authors
row_of Decide = row (codes "POST") (path_of place.Decision) (Approver ∷ [])
row_of Draw = row (codes "POST") (path_of place.Draw) (Agent ∷ [])
row_of Claim = row (codes "POST") (path_of place.Claim) (Agent ∷ [])
row_of Why = row (codes "GET") (path_of place.Why) any
row_of Report = row (codes "POST") (path_of place.Report) (Agent ∷ [])
row_of Shutdown = row (codes "POST") (path_of place.Shutdown) admin
