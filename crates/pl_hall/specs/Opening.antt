-- How a hall begins and ends.
use Rattle.std.specs.Prelude.{◌≡◌, List, [], Some}
use mathlib.Core.List.{IsPrefix}
use Rattle.atomic_table.specs.Seated.{TableId}
use Rattle.pl_base.specs.declared.digest.Digest.{Digest}
use Rattle.pl_facts.specs.declared.entry.Entry.{Entry}
use Rattle.pl_hall.specs.Seats.{first_parts}
use Rattle.pl_service.specs.Below.pl_core.specs.Below.pl_history.specs.History.{Opening}
use Rattle.pl_service.specs.Below.pl_core.specs.Below.pl_history.specs.Legal.{Legal}
use Rattle.pl_keeper.specs.Keeping.{WhereTold}
use Rattle.pl_keeper.specs.declared.keeper.Keeper as the_keeper
use Rattle.pl_service.specs.Begun.{IsBegun}
use Rattle.pl_service.specs.Desk.{Parts}
use Rattle.pl_service.specs.Kept.{IsKeptAt}
use Rattle.pl_service.specs.Rows.{AreSame}

-- The first seat is that of a service with what the keeper's rows tell, and has seen nothing. The
-- keeper that the hall goes on with tells the rows of the one that it was given, where it tells
-- them.
pub record IsBegunAt {K : Type 0} (tells : the_keeper.Ghosts K) (admin : Digest) (given : K)
    (lock : TableId) (seat : Parts) : Type 0 where
  pub opening : Opening
  pub seat_is : seat ≡ first_parts lock opening
  pub keeper : K
  pub rows : WhereTold (tells.held given) (tells.held keeper) AreSame
  pub begun : IsBegun admin (tells.held keeper) (record { opening = opening; entries = [] })

-- The rows of the keeper that comes back are those of a legal history, which begins with what the
-- seat has seen.
pub record IsClosed {K : Type 0} (tells : the_keeper.Ghosts K) (seat : Parts) (keeper : K) :
    Type 0 where
  pub opening : Opening
  pub opening_is : seat.opening ≡ Some opening
  pub entries : List Entry
  pub begins : IsPrefix seat.seen entries
  pub legal : Legal opening entries
  pub kept : ∥ IsKeptAt opening entries (tells.held keeper) ∥₁
