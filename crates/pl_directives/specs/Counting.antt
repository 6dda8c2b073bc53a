-- The count of an expansion's nodes, which has a limit.
use Rattle.std.specs.Prelude.{ℕ, ◌+◌, nat_le, Result, Ok, Err, if◌then◌else◌}
use Rattle.pl_base.specs.declared.place.Place.{Place}
use Rattle.pl_directives.specs.declared.fault.ExpandFault.{ExpandFault}
use Rattle.pl_directives.specs.declared.fault.ExpandProblem.TheVariants.{TooManyNodes}
use Rattle.pl_directives.specs.Complaints.{refused}

-- so many nodes more, which are met at that place
abbrev pub counted : Place → ℕ → ℕ → Result ℕ ExpandFault
counted place more count =
    if nat_le (count + more) 100000 then Ok (count + more) else refused TooManyNodes place

-- a node of a file is entered
abbrev pub entered : Place → ℕ → Result ℕ ExpandFault
entered place count = counted place 1 count
