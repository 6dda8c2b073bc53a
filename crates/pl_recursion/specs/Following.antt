-- What is fixed while a node is expanded: what following a call means there, to those who meet one,
-- its frame, and its region.
use Rattle.std.specs.Prelude.{ℕ, List, Result}
use Rattle.pl_base.specs.declared.place.FileKey.{FileKey}
use Rattle.pl_base.specs.declared.value.MarkedNode.{MarkedNode}
use Rattle.pl_frame.specs.declared.frame.Frame.{Frame}
use Rattle.pl_directives.specs.declared.fault.ExpandFault.{ExpandFault}
use Rattle.pl_directives.specs.declared.region.Form.{Form}
use Rattle.pl_directives.specs.declared.region.Region.{Region}
use Rattle.pl_recursion.specs.declared.followed.Followed.{Followed}

-- What following a call gives in its item's place: an item of a list of that form, from a count on.
-- Calls are followed in the order in which they are met, and each sees the files that were called
-- before it.
abbrev pub Follow : Type 0
Follow =
    Frame → Form → MarkedNode → ℕ → List FileKey → Result (Followed × List FileKey) ExpandFault

pub record Scope : Type 0 where
  pub follow : Follow
  pub frame : Frame
  pub region : Region

abbrev pub scope_of : Follow → Frame → Region → Scope
scope_of follow frame region = record { follow = follow; frame = frame; region = region }

abbrev pub in_frame : Frame → Scope → Scope
in_frame frame scope = record scope { frame = frame }

abbrev pub in_region : Region → Scope → Scope
in_region region scope = record scope { region = region }
