-- A request that is read keeps the rules and limits of its fields.
use Rattle.std.proofs.Common.{◌≡◌, ℕ, Bool, true, false, cond, List, Result, Ok, Err, refl, subst}
use Rattle.pl_base.specs.declared.digest.Digest.{Digest}
use Rattle.pl_bodies.specs.declared.fault.BodyFault.{BodyFault}
use Rattle.pl_bodies.specs.declared.fault.BodyFault.TheVariants.{Bad}
use Rattle.pl_reading.specs.Steps.{◌>>=◌}
use Rattle.pl_requests.specs.declared.request.Request.{Request}
use Rattle.pl_requests.specs.WellFormed.{is_request}
use Rattle.pl_routes.specs.declared.fault.RouteFault.{RouteFault}
use Rattle.pl_routes.specs.declared.fault.RouteFault.TheVariants as fault
use Rattle.pl_routes.specs.declared.goal.Goal.{Goal}
use Rattle.pl_routes.specs.Goals.{goal_in}
use Rattle.pl_wire.specs.declared.message.Message.TheVariants.{Ask}
use Rattle.pl_wire.specs.declared.message.RequestFault.{RequestFault}
use Rattle.pl_wire.specs.Asked.{asked, kept, said_by, with_body, with_goal}
use Rattle.pl_wire.specs.Message.{RequestsAreWellFormed, message_by}

kept_by : (r request : Request) (b : Bool) → is_request r ≡ b
    → with_body (cond b (Ok r) (Err Bad)) ≡ Ok request → is_request request ≡ true
kept_by r request true is e =
    let same : r ≡ request = cc in subst (λ (x : Request). is_request x ≡ true) same is
kept_by r request false is e = cc

body_kept : (request : Request) (said : Result Request BodyFault)
    → with_body (said >>= kept) ≡ Ok request → is_request request ≡ true
body_kept request (Ok r) e = kept_by r request (is_request r) refl e
body_kept request (Err fault) e = cc

goal_kept : (request : Request) (goal : Result Goal RouteFault) (content : List ℕ)
    → with_goal goal content ≡ Ok request → is_request request ≡ true
goal_kept request (Ok goal) content e = body_kept request (said_by goal content) e
goal_kept request (Err fault.RouteUnknown) content e = cc
goal_kept request (Err fault.MethodUnknown) content e = cc
goal_kept request (Err fault.Memory) content e = cc

asked_for : (caller other : Digest) (request : Request) (asked : Result Request RequestFault)
    → Ask caller request ≡ message_by other asked → asked ≡ Ok request
asked_for caller other request (Ok r) e = let same : request ≡ r = cc in cc
asked_for caller other request (Err fault) e = cc

pub well_formed : RequestsAreWellFormed
unfolding asked
well_formed bytes taken caller request (some, within, (h, content, f, is)) =
    goal_kept request (goal_in h.method h.target) content (asked_for caller _ request _ is)
