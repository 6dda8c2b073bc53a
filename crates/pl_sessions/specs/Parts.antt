-- The parts of a session, as the functions that serve a link go through them.
use Rattle.std.specs.Prelude.{◌≡◌, ◌<◌, ◌≤◌, ℕ, Bool, true, false, List, [], ◌++◌, length, Result}
use Rattle.std.specs.Prelude.{Ok, Err}
use Rattle.pl_base.specs.Counts.{one_more}
use Rattle.pl_base.specs.Streams.{with_front, with_end}
use Rattle.pl_heads.specs.declared.fault.HttpFault.{HttpFault}
use Rattle.pl_sessions.specs.Acts.{Turn, messages_of, Acts, Tells, refused, replies, joined}
use Rattle.pl_sessions.specs.Halts.{Halting}
use Rattle.pl_sessions.specs.Messages.{Spelled}
use Rattle.pl_sessions.specs.Session.{Point, BreaksOff}
use Rattle.pl_sessions.specs.Told.{Told, SameReading, Writes, Begun, IsAtEnd}
use Rattle.pl_sessions.specs.declared.answer.Answer.{Answer}
use Rattle.pl_sessions.specs.declared.served.Broken.{Broken}
use Rattle.pl_sessions.specs.declared.served.Broken.TheVariants as broken
use Rattle.pl_sessions.specs.declared.served.Pause.{Pause}
use Rattle.pl_sessions.specs.declared.served.Pause.TheVariants as pause
use Rattle.pl_sessions.specs.declared.served.Served.{Served}
use Rattle.pl_sessions.specs.declared.served.Served.TheVariants as served
use Rattle.pl_sessions.specs.declared.served.Unread.{Unread}
use Rattle.pl_sessions.specs.declared.served.Unread.TheVariants as unread
use Rattle.pl_wire.specs.Message.{IsPartial, IsBad}
use Rattle.pl_wire.specs.declared.message.Message.{Message}

-- From a point with a buffer to another: what was read behind the buffer is the messages of some
-- turns and then the new buffer; the turns were acted on, and their replies were written. The last
-- one is an accepted shutdown or not, and none before it is.
pub record Advances {D : Type 0} (act : D → ℕ → Message → Answer → D → Type 0)
    (heeds halted : Bool) (old : Point D) (buffer read : List ℕ) (new : Point D) (rest : List ℕ)
    : Type 0 where
  pub turns : List Turn
  pub reads : old.link.left ≡ with_front read new.link.left
  pub spelled : Spelled (buffer ++ read) (messages_of turns) rest
  pub acts : Acts act old.desk turns new.desk
  pub halts : Halting heeds halted turns
  pub tells : Tells old.coming turns new.coming
  pub writes : new.link.held ≡ with_end old.link.held (joined (replies turns))

-- the same broken off: some of the messages were acted on, and their replies were cut
pub record Breaks {D : Type 0} (act : D → ℕ → Message → Answer → D → Type 0) (heeds : Bool)
    (old : Point D) (buffer read : List ℕ) (new : Point D) : Type 0 where
  pub turns : List Turn
  pub rest : List ℕ
  pub wrote : List ℕ
  pub reads : old.link.left ≡ with_front read new.link.left
  pub spelled : Spelled (buffer ++ read) (messages_of turns) rest
  pub acts : Acts act old.desk turns new.desk
  pub halted : Bool
  pub halts : Halting heeds halted turns
  pub tells : Tells old.coming turns new.coming
  pub writes : new.link.held ≡ with_end old.link.held wrote
  pub cut : BreaksOff turns rest wrote

-- one message was answered, which was an accepted shutdown or not; or it broke off
abbrev pub AnswersOne : {D : Type 0} → (D → ℕ → Message → Answer → D → Type 0) → Bool
    → Result Bool Broken → Point D → List ℕ → Point D → List ℕ → Type 0
AnswersOne act heeds (Ok halted) old buffer new rest = Advances act heeds halted old buffer [] new
    rest
AnswersOne act heeds (Err fault) old buffer new rest = Breaks act heeds old buffer [] new

-- why the messages of the buffer are answered: what is left begins one, or can't begin one; or the
-- last of them was an accepted shutdown
abbrev pub is_stopped : Pause → Bool
is_stopped pause.More = false
is_stopped (pause.Bad fault) = false
is_stopped pause.Stopped = true

abbrev pub Leaves : Pause → List ℕ → Type 0
Leaves pause.More rest = IsPartial rest
Leaves (pause.Bad fault) rest = IsBad rest fault
Leaves pause.Stopped rest = Unit {0}

-- the buffer's messages were answered, up to a rest; or it broke off
abbrev pub AnswersAll : {D : Type 0} → (D → ℕ → Message → Answer → D → Type 0) → Bool
    → Result Pause Broken → Point D → List ℕ → Point D → List ℕ → Type 0
AnswersAll act heeds (Ok why) old buffer new rest =
    Advances act heeds (is_stopped why) old buffer [] new rest × Leaves why rest
AnswersAll act heeds (Err fault) old buffer new rest = Breaks act heeds old buffer [] new

-- the count of failed writes, by how a part ended that writes
abbrev pub CountsBroken : {A : Type 0} → Result A Broken → ℕ → ℕ → Type 0
CountsBroken (Ok done) old new = new ≡ old
CountsBroken (Err broken.WriteFault) old new = new ≡ one_more old
CountsBroken (Err broken.Memory) old new = new ≡ old

-- nothing was read
pub record OnlyWrites {A : Type 0} (result : Result A Broken) (old new : Told) : Type 0 where
  pub counts : CountsBroken result old.write_faults new.write_faults
  pub reading : SameReading old new

-- bytes were sent, or their beginning where a write failed or memory was wanting
abbrev pub Sends : {A : Type 0} → Result A Broken → List ℕ → Told → Told → Type 0
Sends (Ok done) bytes old new = Writes bytes old new
Sends (Err broken.WriteFault) bytes old new = Begun bytes (one_more old.write_faults) old new
Sends (Err broken.Memory) bytes old new = Begun bytes old.write_faults old new

-- how it ended where bytes are no message: they were answered, or the answer was begun
abbrev pub EndsBad : Served → HttpFault → Told → Told → Type 0
EndsBad (served.Bad answered) fault old new = (answered ≡ fault) × Writes (refused fault) old new
EndsBad served.WriteFault fault old new =
    Begun (refused fault) (one_more old.write_faults) old new
EndsBad served.Memory fault old new = Begun (refused fault) old.write_faults old new
EndsBad other fault old new = ⊥

-- the count of failed reads, by what came of a read
abbrev pub CountsUnread : {A : Type 0} → Result A Unread → ℕ → ℕ → Type 0
CountsUnread (Ok count) old new = new ≡ old
CountsUnread (Err unread.ReadFault) old new = new ≡ one_more old
CountsUnread (Err unread.Memory) old new = new ≡ old

-- A piece of at most so many bytes was read: they stand behind the others; or the read failed; or
-- memory was wanting for them.
abbrev pub ReadsPiece : ℕ → Result ℕ Unread → Told → Told → List ℕ → List ℕ → Type 0
ReadsPiece most (Ok count) old new buffer more =
    (bytes : List ℕ) × (length bytes ≡ count) × (count ≤ most)
    × (old.left ≡ with_front bytes new.left) × (more ≡ buffer ++ bytes)
ReadsPiece most (Err unread.ReadFault) old new buffer more = (new.left ≡ old.left) × (more ≡ buffer)
ReadsPiece most (Err unread.Memory) old new buffer more =
    (bytes : List ℕ) × (length bytes ≤ most) × (old.left ≡ with_front bytes new.left)

-- no byte of a piece that isn't empty is the end
abbrev pub EndsAtNone : ℕ → Result ℕ Unread → Told → Type 0
EndsAtNone most (Ok count) new = 0 < most → count ≡ 0 → IsAtEnd new
EndsAtNone most (Err fault) new = Unit {0}
