-- What a handle of a door tells, and what its calls make of that.
use Rattle.std.specs.Prelude.{◌≡◌, ℕ, Bool, true, false, List, [], ◌∷◌, ◌++◌, Option, Some, None}
use Rattle.std.specs.Prelude.{Result, Ok, Err, option_map, slice_get}
use Rattle.pl_base.specs.Counts.{one_more}
use Rattle.pl_listener.specs.Fresh.{IsFresh}
use Rattle.pl_listener.specs.declared.fault.ListenFault.{ListenFault}
use Rattle.pl_listener.specs.declared.fault.ListenFault.TheVariants.{Failed, Memory}
use Rattle.pl_sessions.specs.Told.{Told}

-- a link that was handed back: what it told when it was given, and what it tells now
pub record Passed : Type 0 where
  pub given : Told
  pub left : Told

-- What a handle tells: the link that is out, as it was given; how many links it gave; the links
-- that were handed back to it, in order, where it keeps these; whether it closed the door, and
-- whether it found the door closed, or was shared by a handle that had; and how many of its calls
-- failed.
pub record Handle : Type 0 where
  pub out : Option Told
  pub accepted : ℕ
  pub passed : Option (List Passed)
  pub closed : Bool
  pub found_closed : Bool
  pub faults : ℕ

-- a link was given, and is out
abbrev pub gave : Handle → Told → Handle
gave old link = record old { out = Some link; accepted = one_more old.accepted }

-- the handle closed the door
abbrev pub shut : Handle → Handle
shut old = record old { closed = true }

-- the door was found closed
abbrev pub found_shut : Handle → Handle
found_shut old = record old { found_closed = true }

-- the handle takes the door as open
abbrev pub TakesAsOpen : Handle → Type 0
TakesAsOpen handle = (handle.closed ≡ false) × (handle.found_closed ≡ false)

-- a call failed
abbrev pub failed : Handle → Handle
failed old = record old { faults = one_more old.faults }

-- the links that were handed back and the one that was out, as it was left
abbrev pub with_link : Option (List Passed) → Option Told → Told → Option (List Passed)
with_link passed None left = passed
with_link passed (Some given) left =
    option_map (λ links. links ++ record { given = given; left = left } ∷ []) passed

-- the link that was out was handed back, and tells this now
abbrev pub handed_back : Handle → Told → Handle
handed_back old left = record old {
  out = None;
  passed = with_link old.passed old.out left;
}

-- another handle of the same door: it has given nothing yet, and its counts begin at 0
abbrev pub another : Handle → Handle
another old = record {
  out = None;
  accepted = 0;
  passed = option_map (λ links. []) old.passed;
  closed = old.closed;
  found_closed = old.found_closed;
  faults = 0;
}

-- A link was given that is as it came; or none is given, since the door was found closed; or the
-- call failed, or memory was wanting. Where the handle closed the door or found it closed before,
-- none is given, and nothing fails.
abbrev pub Accepts : {L : Type 0} → (L → Told) → Handle → Result (Option L) ListenFault → Handle
    → Type 0
Accepts tell old (Ok (Some link)) new =
    TakesAsOpen old × IsFresh (tell link) × (new ≡ gave old (tell link))
Accepts tell old (Ok None) new = new ≡ found_shut old
Accepts tell old (Err Failed) new = TakesAsOpen old × (new ≡ failed old)
Accepts tell old (Err Memory) new = TakesAsOpen old × (new ≡ old)

-- another handle was given; or the call failed, or memory was wanting
abbrev pub Shares : {S : Type 0} → (S → Handle) → Handle → Result S ListenFault → Handle → Type 0
Shares tell old (Ok handle) new = (new ≡ old) × (tell handle ≡ another old)
Shares tell old (Err Failed) new = new ≡ failed old
Shares tell old (Err Memory) new = new ≡ old

-- where there is one, it is one of these
abbrev pub IsThere : {V : Type 0} → Option V → List V → Type 0
IsThere None all = Unit {0}
IsThere (Some one) all = (place : ℕ) × (slice_get all place ≡ Some one)

-- no link was given
abbrev pub GivesNone : {L F : Type 0} → Result (Option L) F → Type 0
GivesNone (Ok (Some link)) = ⊥
GivesNone (Ok None) = Unit {0}
GivesNone (Err fault) = Unit {0}
