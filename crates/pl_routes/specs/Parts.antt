-- The parts of a path, cut at its slashes before they are decoded (RFC 3986, sections 2.1 and 3.3).
use Rattle.std.specs.Prelude.{ℕ, Bool, List, ◌==◌, Option, Some, None, Result, Ok, Err}
use Rattle.std.specs.Prelude.{if◌then◌else◌, slice_get}
use Rattle.std.specs.List.{slice_split}
use Rattle.std.specs.Str.{is_utf8}
use Rattle.percent_encoding.specs.Percent.{percent_decode}
use Rattle.pl_reading.specs.Answers as answers
use Rattle.pl_reading.specs.Steps.{◌>>=◌}
use Rattle.pl_routes.specs.declared.fault.RouteFault.{RouteFault}
use Rattle.pl_routes.specs.declared.fault.RouteFault.TheVariants.{RouteUnknown, MethodUnknown}
use Rattle.pl_routes.specs.declared.fault.RouteFault.TheVariants.{Memory}

-- the parts as they are spelled
abbrev pub spelled_parts : List ℕ → List (List ℕ)
spelled_parts target = slice_split (λ b. b == 47) target

-- what a part says: its bytes without the escapes, where they are UTF-8
unfoldable pub said : List ℕ → Result (List ℕ) RouteFault
said part = if is_utf8 (percent_decode part) then Ok (percent_decode part) else Err RouteUnknown

abbrev pub wanted : {X : Type 0} → Option X → Result X RouteFault
wanted None = Err RouteUnknown
wanted (Some value) = Ok value

-- what the part at a place from 0 says
abbrev pub said_at : ℕ → List (List ℕ) → Result (List ℕ) RouteFault
said_at place parts = wanted (slice_get parts place) >>= said

-- a text, where it keeps a rule
abbrev pub kept : (List ℕ → Bool) → List ℕ → Result (List ℕ) RouteFault
kept rule text = if rule text then Ok text else Err RouteUnknown

-- what a fault tells; want of memory tells nothing
abbrev pub told : RouteFault → Option RouteFault
told RouteUnknown = Some RouteUnknown
told MethodUnknown = Some MethodUnknown
told Memory = None

-- a value is what is meant, and nothing is meant where it is unknown
abbrev pub Gives : {X : Type 0} → Result X RouteFault → Result X RouteFault → Type 0
Gives answer meant = answers.Gives told (λ value. value) answer meant
