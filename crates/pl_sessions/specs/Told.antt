-- What a link tells of itself.
use Rattle.std.specs.Prelude.{◌≡◌, ℕ, Bool, IsTrue, List, [], ◌++◌, Option}
use Rattle.std.specs.Option.{IfSome}
use Rattle.pl_base.specs.Streams.{with_end}
use Rattle.pl_base.specs.declared.link.Link as the_link

-- what a link tells: the bytes that are left and whether the end was told, the bytes that were
-- taken, and the counts of faults
pub record Told : Type 0 where
  pub left : Option (List ℕ)
  pub ended : Bool
  pub held : Option (List ℕ)
  pub read_faults : ℕ
  pub write_faults : ℕ

abbrev pub told : {L : Type 0} → the_link.Ghosts L → L → Told
told members self = record {
  left = members.left self;
  ended = members.ended self;
  held = members.held self;
  read_faults = members.read_faults self;
  write_faults = members.write_faults self;
}

-- the end was told, and where the link tells what is left, nothing is
abbrev pub IsAtEnd : Told → Type 0
IsAtEnd link = IsTrue link.ended × IfSome link.left (λ rest. rest ≡ [])

-- nothing was read
pub record SameReading (old new : Told) : Type 0 where
  pub left : new.left ≡ old.left
  pub ended : new.ended ≡ old.ended
  pub read_faults : new.read_faults ≡ old.read_faults

-- nothing was written
pub record SameWriting (old new : Told) : Type 0 where
  pub held : new.held ≡ old.held
  pub write_faults : new.write_faults ≡ old.write_faults

-- a beginning of these bytes was written
pub record Begins (old : Option (List ℕ)) (bytes : List ℕ) (new : Option (List ℕ)) : Type 0 where
  pub begun : List ℕ
  pub unsent : List ℕ
  pub bytes_are : bytes ≡ begun ++ unsent
  pub writes : new ≡ with_end old begun

-- all of these bytes were written
pub record Writes (bytes : List ℕ) (old new : Told) : Type 0 where
  pub held : new.held ≡ with_end old.held bytes
  pub write_faults : new.write_faults ≡ old.write_faults
  pub reading : SameReading old new

-- a beginning of them was written, and that is the count of faults behind it
pub record Begun (bytes : List ℕ) (faults : ℕ) (old new : Told) : Type 0 where
  pub held : Begins old.held bytes new.held
  pub write_faults : new.write_faults ≡ faults
  pub reading : SameReading old new
