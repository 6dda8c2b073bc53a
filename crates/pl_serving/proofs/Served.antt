-- What is done at a hall is what `serve` does.
use Rattle.std.proofs.Common.{◌≡◌, ◌∙◌, ℕ, List, Option, Some, None, sym, ap, subst}
use Rattle.std.proofs.Common.{inr}
use Rattle.atomic_table.specs.Seated.{TableId}
use Rattle.pl_base.specs.declared.digest.Digest.{Digest}
use Rattle.pl_base.specs.declared.row.Row.{Row}
use Rattle.pl_base.specs.declared.sink.Sink as the_sink
use Rattle.pl_base.specs.declared.source.Source as the_source
use Rattle.pl_keeper.specs.declared.keeper.Keeper as the_keeper
use Rattle.pl_listener.specs.Handles.{Handle}
use Rattle.pl_outfit.specs.Outfit.{View, outside}
use Rattle.pl_outfit.specs.Outside.{Outside}
use Rattle.pl_outfit.specs.Stores.{BeginsWith, handed_back}
use Rattle.pl_outfit.specs.declared.status.Status.{Status}
use Rattle.pl_serve.specs.Below.pl_hall.specs.Opening.{IsBegunAt, IsClosed}
use Rattle.pl_serve.specs.Below.pl_hall.specs.Seats.{first_parts}
use Rattle.pl_serve.specs.Below.pl_history.specs.History.{Opening}
use Rattle.pl_serve.specs.Below.pl_history.specs.Legal.{Legal}
use Rattle.pl_serve.specs.Below.pl_service.specs.Desk.{Parts}
use Rattle.pl_serve.specs.Below.pl_service.specs.Kept.{IsKeptAt}
use Rattle.pl_serving.specs.Doors.{all_ended}
use Rattle.pl_serving.specs.Serving.{KeepsRows, Serves, ServesHall}
use Rattle.pl_unopened.specs.Unopened.{with_store}

-- ---- the outfit behind it

module _ {In Out : Type 0} where
  abbrev pub with_back : Option (List Row) → ℕ → View In Out → View In Out
  with_back rows faults view = record view { stores = handed_back rows faults view.stores }

  abbrev pub with_ended : List Handle → View In Out → View In Out
  with_ended handles view = record view { doors = all_ended handles view.doors }

  module _ (reading : the_source.Ghosts In) (writing : the_sink.Ghosts Out) where
    pub outside_is : (handles : List Handle) (rows : Option (List Row)) (faults : ℕ)
        (first clocked ended back : View In Out) → clocked ≡ first
        → ended ≡ with_ended handles clocked → back ≡ with_back rows faults ended
        → outside reading writing back
        ≡ record (outside reading writing first) {
          stores = handed_back rows faults (outside reading writing first).stores;
          doors = all_ended handles (outside reading writing first).doors;
        }
    outside_is handles rows faults first clocked ended back same ends is =
        ap (outside reading writing)
        (is ∙ ap (with_back rows faults) (ends ∙ ap (with_ended handles) same))

    pub back_is : (rows : Option (List Row)) (faults : ℕ) (between back : View In Out)
        → back ≡ with_back rows faults between
        → outside reading writing back
        ≡ record (outside reading writing between) {
          stores = handed_back rows faults (outside reading writing between).stores;
        }
    back_is rows faults between back is = ap (outside reading writing) is

-- ---- what is kept where nobody was served

-- what an optional opening is, or else this
abbrev opening_in : Opening → Option Opening → Opening
opening_in other None = other
opening_in other (Some opening) = opening

pub keeps_rows : {K : Type 0} (tells : the_keeper.Ghosts K) (lock : TableId) (opening : Opening)
    (seat : Parts) (keeper : K) → seat ≡ first_parts lock opening → IsClosed tells seat keeper
    → KeepsRows opening (tells.held keeper)
keeps_rows tells lock opening seat keeper is closed =
    let one : closed.opening ≡ opening =
    ap (λ (o : Option Opening). opening_in opening o)
    (sym closed.opening_is ∙ ap (λ (p : Parts). p.opening) is) in
    record {
      entries = closed.entries;
      legal = subst (λ (o : Opening). Legal o closed.entries) one closed.legal;
      kept =
          subst (λ (o : Opening). ∥ IsKeptAt o closed.entries (tells.held keeper) ∥₁) one
          closed.kept;
    }

-- ---- at a hall that was just opened

module _ {L C : Type 0} (coming : C → Option (ℕ → ℕ)) (tells : L → Handle) where
  pub served : {K : Type 0} (keeper : the_keeper.Ghosts K) (admin : Digest) (address : List ℕ)
      (path : Option (List ℕ)) (store : K) (lock : TableId) (seat : Parts) (old mid new : Outside)
      (ending : Status) → BeginsWith path old.stores.rows (keeper.held store)
      → IsBegunAt keeper admin store lock seat → mid ≡ with_store path old
      → ((opening : Opening) → seat ≡ first_parts lock opening
      → ServesHall coming tells opening address mid ending new)
      → Serves coming tells admin address path old ending new
  served keeper admin address path store lock seat old mid new ending begins begun mid_is serves =
      inr (inr (record {
        told = keeper.held store;
        begins = begins;
        first = keeper.held begun.keeper;
        as_given = begun.rows;
        opening = begun.opening;
        begun = begun.begun;
        serves =
            subst (λ (o : Outside). ServesHall coming tells begun.opening address o ending new)
            mid_is (serves begun.opening begun.seat_is);
      }))
