-- What the outside of a run tells.
use Rattle.std.specs.Prelude.{ℕ, Bool, List, Option}
use Rattle.pl_outfit.specs.Doors.{Doors}
use Rattle.pl_outfit.specs.Stores.{Stores}
use Rattle.pl_sessions.specs.Told.{Told}

-- The lines that people are told by the outfit itself: that no store can be given at a path, which
-- failed or not; that a door was opened at an address; and that none was, which failed or not. They
-- say something only of an outfit that tells what people were told.
pub record Lines : Type 0 where
  pub no_store : Option (List ℕ) → Bool → List ℕ
  pub door : List ℕ → List ℕ
  pub no_door : List ℕ → Bool → List ℕ

-- its source and sink, the moments of the next clock, its lines, what people were told, its stores,
-- and its doors
pub record Outside : Type 0 where
  pub link : Told
  pub coming : Option (ℕ → ℕ)
  pub lines : Lines
  pub people : Option (List ℕ)
  pub stores : Stores
  pub doors : Doors
