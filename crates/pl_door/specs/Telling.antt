-- What a handle of a real door tells.
use Rattle.std.specs.Prelude.{◌≡◌, ℕ, Bool, true, false, Option, Some, None}
use Rattle.pl_door.specs.declared.connection.Tcp.{Tcp}
use Rattle.pl_listener.specs.Handles.{Handle}
use Rattle.pl_sessions.specs.Told.{Told}

-- what a connection tells when it is given: that nothing was read or written, and nothing failed
abbrev pub just_come : Told
just_come = record {
  left = None;
  ended = false;
  held = None;
  read_faults = 0;
  write_faults = 0;
}

-- its end wasn't told, and nothing failed
pub record HasJustCome {T : Type 0} (tcp : Tcp T) : Type 0 where
  pub running : tcp.ended ≡ false
  pub read_faults : tcp.read_faults ≡ 0
  pub write_faults : tcp.write_faults ≡ 0

abbrev pub out_of : Bool → Option Told
out_of true = Some just_come
out_of false = None

-- it tells none of the links that were handed back to it
abbrev pub handle_of : Bool → ℕ → Bool → Bool → ℕ → Handle
handle_of out accepted closed found_closed faults = record {
  out = out_of out;
  accepted = accepted;
  passed = None;
  closed = closed;
  found_closed = found_closed;
  faults = faults;
}
