-- A handle of a door that was just opened.
use Rattle.std.proofs.Common.{◌≡◌, false, refl, subst, sym}
use Rattle.pl_door.specs.Telling.{handle_of}
use Rattle.pl_listener.specs.Handles.{Handle}
use Rattle.pl_outfit.specs.Doors.{IsNew}

pub is_new : (handle : Handle) → handle ≡ handle_of false 0 false false 0 → IsNew handle
is_new handle is =
    subst IsNew (sym is) (record {
      out = refl;
      accepted = refl;
      passed = tt;
      closed = refl;
      found_closed = refl;
      faults = refl;
    })
