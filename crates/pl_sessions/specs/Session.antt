-- A session: the bytes that were read as messages and a rest, the turns in which these were acted
-- on, and the bytes that were written.
use Rattle.std.specs.Prelude.{◌≡◌, ◌<◌, ◌≤◌, ◌⊎◌, ℕ, Bool, true, false, List, [], ◌∷◌, ◌++◌}
use Rattle.std.specs.Prelude.{length, Option}
use Rattle.pl_base.specs.Counts.{one_more}
use Rattle.pl_base.specs.Streams.{with_front, with_end}
use Rattle.pl_base.specs.declared.clock.Clock as the_clock
use Rattle.pl_base.specs.declared.link.Link as the_link
use Rattle.pl_heads.specs.declared.fault.HttpFault.{HttpFault}
use Rattle.pl_sessions.specs.Acts.{Turn, messages_of, Acts, Tells, refused, replies, joined}
use Rattle.pl_sessions.specs.Halts.{Halting}
use Rattle.pl_sessions.specs.Messages.{Spelled}
use Rattle.pl_sessions.specs.Told.{Told, told, IsAtEnd}
use Rattle.pl_sessions.specs.declared.answer.Answer.{Answer}
use Rattle.pl_sessions.specs.declared.served.Served.{Served}
use Rattle.pl_sessions.specs.declared.served.Served.TheVariants as served
use Rattle.pl_streams.specs.Whole.{taken_limit}
use Rattle.pl_wire.specs.Message.{IsPartial, IsBad}
use Rattle.pl_wire.specs.declared.message.Message.{Message}

-- where a link, a clock and a desk stand: what the link tells, the moments to come, and the desk
pub record Point (D : Type 0) : Type 0 where
  pub link : Told
  pub coming : Option (ℕ → ℕ)
  pub desk : D

abbrev pub point : {L C D : Type 0} → the_link.Ghosts L → the_clock.Ghosts C → L → C → D → Point D
point links clocks link clock desk = record {
  link = told links link;
  coming = clocks.coming clock;
  desk = desk;
}

-- replies that broke off: all of them whole but at most the last
pub record IsCut (all : List (List ℕ)) (wrote : List ℕ) : Type 0 where
  pub whole : List (List ℕ)
  pub begun : List ℕ
  pub wrote_is : wrote ≡ joined whole ++ begun
  pub all_is :
      ((all ≡ whole) × (begun ≡ []))
      ⊎ ((unsent : List ℕ) × (all ≡ whole ++ (begun ++ unsent) ∷ []))

-- the replies to a rest: none, or the one to bytes that are no message
abbrev pub ToRest : List ℕ → List (List ℕ) → Type 0
ToRest rest [] = Unit {0}
ToRest rest (reply ∷ more) =
    (fault : HttpFault) × IsBad rest fault × (reply ∷ more ≡ refused fault ∷ [])

-- the replies broke off, that to the rest being one of them once it was begun
abbrev pub BreaksOff : List Turn → List ℕ → List ℕ → Type 0
BreaksOff turns rest wrote =
    (last : List (List ℕ)) × ToRest rest last × IsCut (replies turns ++ last) wrote

-- What was read and written, by how the session ended. Where it didn't break off, all replies were
-- written; behind an accepted shutdown what was read isn't looked at.
abbrev pub Ends : Served → List ℕ → List Turn → List ℕ → List ℕ → Type 0
Ends served.Ended read turns rest wrote =
    (rest ≡ []) × (length read < taken_limit) × (wrote ≡ joined (replies turns))
Ends (served.Cut len) read turns rest wrote =
    IsPartial rest × (0 < length rest) × (length rest ≡ len) × (length read < taken_limit)
    × (wrote ≡ joined (replies turns))
Ends (served.Bad fault) read turns rest wrote =
    IsBad rest fault × (wrote ≡ joined (replies turns) ++ refused fault)
Ends served.Spent read turns rest wrote =
    IsPartial rest × (length read ≡ taken_limit) × (wrote ≡ joined (replies turns))
Ends served.Stopped read turns rest wrote = wrote ≡ joined (replies turns)
Ends served.ReadFault read turns rest wrote = IsPartial rest × (wrote ≡ joined (replies turns))
Ends served.WriteFault read turns rest wrote = BreaksOff turns rest wrote
Ends served.Memory read turns rest wrote = BreaksOff turns rest wrote

-- Whether the last message was an accepted shutdown, and no other: where it stopped. Where the
-- replies broke off it may be.
abbrev pub EndsBy : Bool → Served → List Turn → Type 0
EndsBy heeds served.Ended turns = Halting heeds false turns
EndsBy heeds (served.Cut len) turns = Halting heeds false turns
EndsBy heeds (served.Bad fault) turns = Halting heeds false turns
EndsBy heeds served.Spent turns = Halting heeds false turns
EndsBy heeds served.Stopped turns = Halting heeds true turns
EndsBy heeds served.ReadFault turns = Halting heeds false turns
EndsBy heeds served.WriteFault turns = (halted : Bool) × Halting heeds halted turns
EndsBy heeds served.Memory turns = (halted : Bool) × Halting heeds halted turns

-- where no more bytes came, the link was read to its end
abbrev pub EndsTold : Served → Told → Type 0
EndsTold served.Ended link = IsAtEnd link
EndsTold (served.Cut len) link = IsAtEnd link
EndsTold other link = Unit {0}

-- the counts of faults stood still, but the one that an ending names
abbrev pub CountsReads : Served → ℕ → ℕ → Type 0
CountsReads served.ReadFault old new = new ≡ one_more old
CountsReads other old new = new ≡ old

abbrev pub CountsWrites : Served → ℕ → ℕ → Type 0
CountsWrites served.WriteFault old new = new ≡ one_more old
CountsWrites other old new = new ≡ old

-- A session of a desk from one point to another, where `act` is what the desk makes of a message.
-- It heeds shutdowns or not.
pub record Session {D : Type 0} (act : D → ℕ → Message → Answer → D → Type 0) (heeds : Bool)
    (old new : Point D) (ending : Served) : Type 0 where
  pub read : List ℕ
  pub turns : List Turn
  pub rest : List ℕ
  pub wrote : List ℕ
  pub reads : old.link.left ≡ with_front read new.link.left
  pub within : length read ≤ taken_limit
  pub spelled : Spelled read (messages_of turns) rest
  pub acts : Acts act old.desk turns new.desk
  pub halts : EndsBy heeds ending turns
  pub tells : Tells old.coming turns new.coming
  pub writes : new.link.held ≡ with_end old.link.held wrote
  pub ends : Ends ending read turns rest wrote
  pub told : EndsTold ending new.link
  pub read_faults : CountsReads ending old.link.read_faults new.link.read_faults
  pub write_faults : CountsWrites ending old.link.write_faults new.link.write_faults
