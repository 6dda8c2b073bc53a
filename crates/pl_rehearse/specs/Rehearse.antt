-- What the command `rehearse` writes, and how it ends.
use Rattle.std.specs.Prelude.{◌≡◌, ◌⊎◌, ℕ, List, replicate}
use Rattle.pl_base.specs.Counts.{one_more}
use Rattle.pl_base.specs.declared.digest.Digest.{Digest}
use Rattle.pl_outfit.specs.Outside.{Outside}
use Rattle.pl_outfit.specs.declared.status.Status.{Status}
use Rattle.pl_outfit.specs.declared.status.Status.TheVariants as status
use Rattle.pl_rehearsal.specs.Summary.{IsSummary, line_of}
use Rattle.pl_rehearsal.specs.declared.summary.Summary.{Summary}
use Rattle.pl_sessions.specs.Told.{Begun, Writes}

-- with whose token the requests come: no token is known that has this digest
abbrev pub nobody : Digest
nobody = record { bytes = replicate 32 0 }

-- the line of what a rehearsal of so many runs comes to
pub record IsLine (runs : ℕ) (line : List ℕ) : Type 0 where
  pub summary : Summary
  pub is : IsSummary nobody runs summary
  pub line_is : line ≡ line_of summary

-- a line was written; or its beginning, since a write failed
abbrev pub Sends : List ℕ → Outside → Status → Outside → Type 0
Sends line old status.Finished new = Writes line old.link new.link
Sends line old status.WriteFault new =
    Begun line (one_more old.link.write_faults) old.link new.link
Sends line old other new = ⊥

-- and nothing else changed
pub record WritesLine (line : List ℕ) (old : Outside) (ending : Status) (new : Outside)
    : Type 0 where
  pub sends : Sends line old ending new
  pub is : new ≡ record old { link = new.link }

-- the line of so many runs was written so
pub record Rehearsed (runs : ℕ) (old : Outside) (ending : Status) (new : Outside) : Type 0 where
  pub line : List ℕ
  pub is : IsLine runs line
  pub writes : WritesLine line old ending new

-- or memory was wanting, and nothing was
abbrev pub Rehearses : ℕ → Outside → Status → Outside → Type 0
Rehearses runs old ending new =
    ((ending ≡ status.Memory) × (new ≡ old)) ⊎ Rehearsed runs old ending new
