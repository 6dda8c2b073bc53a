-- The paths of the service in `matchit`'s rows.
use Rattle.std.specs.Prelude.{ℕ, Bool, List, [], ◌∷◌, Option, None, Result, Ok, Err, ◌==◌}
use Rattle.std.specs.Prelude.{if◌then◌else◌}
use Rattle.std.specs.Option.{option_map}
use Rattle.std.specs.List.{list_any}
use Rattle.matchit.specs.declared.error.InsertError.{InsertError}
use Rattle.matchit.specs.Order.{placed}
use Rattle.matchit.specs.Route.{Scan, parse_route}
use Rattle.matchit.specs.Router.{RouteOf, route_from}
use Rattle.matchit.specs.Rows.{RowsOf}
use Rattle.matchit.specs.Seek.{first}
use Rattle.pl_routes.specs.declared.place.Place.{Place}
use Rattle.pl_routes.specs.declared.place.Place.TheVariants as place
use Rattle.pl_routes.specs.Table.{path_of}

abbrev pub Rows : Type 0
Rows = RowsOf (RouteOf Place)

-- a row of what a path's text reads as
abbrev pub with_read : Result Scan InsertError → Place → Rows → Rows
with_read (Ok scan) place rows = placed (scan.pattern, route_from scan place) rows
with_read (Err fault) place rows = rows

unfoldable pub with_place : Place → Rows → Rows
with_place place rows = with_read (parse_route (path_of place)) place rows

abbrev pub with_places : Rows → List Place → Rows
with_places rows [] = rows
with_places rows (place ∷ more) = with_places (with_place place rows) more

-- the paths of the table
unfoldable pub table : Rows
table =
    with_places [] (place.File ∷ place.Pipeline ∷ place.Resource ∷ place.Principal ∷ place.Agent
    ∷ place.Texts ∷ place.Runs ∷ place.Run ∷ place.Cancel ∷ place.Decision ∷ place.Draw
    ∷ place.Claim ∷ place.Why ∷ place.Report ∷ place.Shutdown ∷ [])

-- a target with a `?` (RFC 3986, section 3.4)
abbrev pub has_query : List ℕ → Bool
has_query target = list_any (λ b. b == 63) target

-- the path that a target has
abbrev pub place_in : Rows → List ℕ → Option Place
place_in rows target = if has_query target then None
    else option_map (λ row. row.value) (first rows target)
