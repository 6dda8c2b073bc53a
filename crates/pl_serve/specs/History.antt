-- Four workers at one hall: their links stand in one history.
use Rattle.std.specs.Prelude.{◌≡◌, ◌<◌, ℕ, List, [], ◌∷◌, ◌++◌, Option, Some, None}
use mathlib.Core.List.{IsPrefix}
use Rattle.atomic_table.specs.Seated.{TableId}
use Rattle.pl_base.specs.declared.row.Row.{Row}
use Rattle.pl_facts.specs.declared.entry.Entry.{Entry}
use Rattle.pl_hall.specs.Below.pl_history.specs.History.{Opening}
use Rattle.pl_hall.specs.Below.pl_history.specs.Legal.{Legal}
use Rattle.pl_listener.specs.Handles.{Handle}
use Rattle.pl_serve.specs.declared.four.Four.{Four}
use Rattle.pl_serve.specs.declared.four.Outside.{Outside}
use Rattle.pl_hall.specs.Below.pl_service.specs.Desk.{Act, Parts}
use Rattle.pl_hall.specs.Below.pl_service.specs.Grown.{AreOwnOf}
use Rattle.pl_hall.specs.Below.pl_service.specs.Kept.{IsKeptAt}
use Rattle.pl_sessions.specs.Acts.{Turn}
use Rattle.pl_worker.specs.Chain.{Chain, Visit}
use Rattle.pl_worker.specs.Works.{Stand, Works, stand}
use Rattle.pl_worker.specs.declared.why.Reasons.{Reasons}
use Rattle.pl_worker.specs.declared.why.Why.{Why}

-- the messages of links that were served one after the other, in their order
abbrev pub turns_in : (old : Parts) (coming : Option (ℕ → ℕ)) (visits : List Visit) (new : Parts)
    (later : Option (ℕ → ℕ)) → Chain Act old coming visits new later → List Turn
turns_in old coming [] new later chain = []
turns_in old coming (visit ∷ visits) new later chain =
    chain.2.turns ++ turns_in chain.0 chain.1 visits new later chain.3

-- a desk at this hall, whose service was opened with this, and of this number
pub record IsOf (hall : TableId) (opening : Opening) (number : ℕ) (desk : Parts) : Type 0 where
  pub lock_is : desk.lock ≡ Some hall
  pub opening_is : desk.opening ≡ Some opening
  pub number_is : desk.number ≡ number

module _ {L C : Type 0} (coming : C → Option (ℕ → ℕ)) (tells : L → Handle) where
  abbrev pub stands_at : Parts → Outside L C → Stand Parts
  stands_at desk outside = stand desk (coming outside.clock) (tells outside.door)

  -- A worker's links are a chain at one desk, which began with nothing seen and nothing of its own.
  -- What it has seen in the end begins the history. Of each message its own entries there have one
  -- at most, in the order of messages, and these are all of them.
  pub record Stands (hall : TableId) (opening : Opening) (history : List Entry) (number : ℕ)
      (old : Outside L C) (reason : Why) (new : Outside L C) : Type 0 where
    pub from : Parts
    pub to : Parts
    pub works : Works Act (stands_at from old) reason (stands_at to new)
    pub began : IsOf hall opening number from
    pub ended : IsOf hall opening number to
    pub nothing : (from.seen ≡ []) × (from.mine ≡ [])
    pub seen : IsPrefix to.seen history
    pub own :
        AreOwnOf number (turns_in from (coming old.clock) works.serves.visits to
        (coming new.clock) works.serves.chain) to.mine

  -- One legal history, of which each worker's links are a chain at a desk of its own: the numbers
  -- of the desks rise, so no entry is of two workers. They ended for these reasons. The rows that
  -- are told in the end are those of this history.
  pub record OneHistory (opening : Opening) (told : Option (List Row)) (old : Four (Outside L C))
      (reasons : Reasons) (new : Four (Outside L C)) : Type 0 where
    pub hall : TableId
    pub history : List Entry
    pub legal : Legal opening history
    pub kept : ∥ IsKeptAt opening history told ∥₁
    pub numbers : Four ℕ
    pub rise_first : numbers.first < numbers.second
    pub rise_second : numbers.second < numbers.third
    pub rise_third : numbers.third < numbers.fourth
    pub first : Stands hall opening history numbers.first old.first reasons.first new.first
    pub second : Stands hall opening history numbers.second old.second reasons.second new.second
    pub third : Stands hall opening history numbers.third old.third reasons.third new.third
    pub fourth : Stands hall opening history numbers.fourth old.fourth reasons.fourth new.fourth

-- no link is out
pub record AreIn {L C : Type 0} (tells : L → Handle) (outsides : Four (Outside L C)) : Type 0 where
  pub first : (tells outsides.first.door).out ≡ None
  pub second : (tells outsides.second.door).out ≡ None
  pub third : (tells outsides.third.door).out ≡ None
  pub fourth : (tells outsides.fourth.door).out ≡ None
