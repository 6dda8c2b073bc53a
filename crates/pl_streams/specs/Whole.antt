-- A source that is read to its end, and bytes that are written whole.
use Rattle.std.specs.Prelude.{◌≡◌, ◌<◌, ◌≤◌, ℕ, Bool, IsTrue, List, [], ◌++◌, length, Option}
use Rattle.std.specs.Prelude.{Result, Ok, Err}
use Rattle.std.specs.Option.{IfSome}
use Rattle.pl_base.specs.Counts.{one_more}
use Rattle.pl_base.specs.Streams.{with_end, with_front}
use Rattle.pl_base.specs.declared.failed.Failed.{Failed}
use Rattle.pl_streams.specs.declared.reading.Unread.{Unread}
use Rattle.pl_streams.specs.declared.reading.Unread.TheVariants.{ReadFault, Spent, Memory}

-- the most bytes that are taken from a source
abbrev pub taken_limit : ℕ
taken_limit = 67108864

-- what a source tells: the bytes that are left, whether it told its end, and its count of faults
pub record Inflow : Type 0 where
  pub left : Option (List ℕ)
  pub ended : Bool
  pub faults : ℕ

-- what a sink tells: the bytes that it took, and its count of faults
pub record Outflow : Type 0 where
  pub held : Option (List ℕ)
  pub faults : ℕ

-- ---- reading

-- these bytes were read
abbrev pub Gave : List ℕ → Inflow → Inflow → Type 0
Gave bytes old new = old.left ≡ with_front bytes new.left

-- The source told its end behind these bytes, and nothing is left; it has fewer than may be taken.
pub record IsWhole (bytes : List ℕ) (old new : Inflow) : Type 0 where
  pub gave : Gave bytes old new
  pub ended : IsTrue new.ended
  pub nothing : IfSome new.left (λ rest. rest ≡ [])
  pub few : length bytes < taken_limit
  pub quiet : new.faults ≡ old.faults

-- Why it stopped before its end: a read failed, as many bytes were taken as may be, or memory was
-- wanting.
abbrev pub IsBroken : Unread → List ℕ → Inflow → Inflow → Type 0
IsBroken ReadFault bytes old new = new.faults ≡ one_more old.faults
IsBroken Spent bytes old new = (length bytes ≡ taken_limit) × (new.faults ≡ old.faults)
IsBroken Memory bytes old new = new.faults ≡ old.faults

-- These bytes were taken, no more than may be, and then it stopped.
pub record IsCutShort (why : Unread) (old new : Inflow) : Type 0 where
  pub bytes : List ℕ
  pub gave : Gave bytes old new
  pub within : length bytes ≤ taken_limit
  pub broken : IsBroken why bytes old new

abbrev pub IsRead : Result (List ℕ) Unread → Inflow → Inflow → Type 0
IsRead (Ok bytes) old new = IsWhole bytes old new
IsRead (Err why) old new = IsCutShort why old new

-- ---- writing

-- all of these bytes were written, or a beginning of them, and then a write failed
pub record IsBegun (bytes : List ℕ) (old new : Outflow) : Type 0 where
  pub begun : List ℕ
  pub unsent : List ℕ
  pub bytes_are : bytes ≡ begun ++ unsent
  pub held : new.held ≡ with_end old.held begun
  pub counted : new.faults ≡ one_more old.faults

pub record IsSent (bytes : List ℕ) (old new : Outflow) : Type 0 where
  pub held : new.held ≡ with_end old.held bytes
  pub quiet : new.faults ≡ old.faults

abbrev pub IsWritten : List ℕ → Result (Unit {0}) Failed → Outflow → Outflow → Type 0
IsWritten bytes (Ok done) old new = IsSent bytes old new
IsWritten bytes (Err failed) old new = IsBegun bytes old new
