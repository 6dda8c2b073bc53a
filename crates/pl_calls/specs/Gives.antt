-- What a call of a function gives that may call templates, by what is meant.
use Rattle.std.specs.Prelude.{◌≡◌, List, Result, Ok, Err}
use Rattle.std.specs.FinMap as finite
use Rattle.pl_base.specs.Files.{file_cmp}
use Rattle.pl_base.specs.declared.place.FileKey.{FileKey}
use Rattle.pl_directives.specs.declared.fault.ExpandFault.{ExpandFault}
use Rattle.pl_directives.specs.Gives.{Refuses}
use Rattle.pl_calls.specs.Reaching.{Opens, opens}
use Rattle.pl_calls.specs.declared.files.Parsed.{Parsed}
use Rattle.pl_calls.specs.declared.reaching.Reach.{Reach}

-- a value is what is meant, and so are the files that are called by then
abbrev pub GivesUsed :
    {X : Type 0} → Result X ExpandFault → List FileKey →
    Result (X × List FileKey) ExpandFault → Type 0
GivesUsed (Ok value) used meant = meant ≡ Ok (value, used)
GivesUsed (Err fault) used meant = Refuses fault meant

-- how a reach opens paths, over the files of that set
abbrev pub ways : {F : Type 0} → (F → finite.FinMap file_cmp Parsed) → Reach F → Opens
ways set reach = opens (set reach.files.now) reach.home.now

-- Between an old and a new reach, what is given is what is meant of how the old one opens paths and
-- of the files that were called by then; the files and where paths lead stay, and so does whose
-- the files and the list are.
pub record GivesFrom {X F : Type 0} (set : F → finite.FinMap file_cmp Parsed)
    (result : Result X ExpandFault) (old new : Reach F)
    (meant : Opens → List FileKey → Result (X × List FileKey) ExpandFault) : Type 0 where
  pub given : GivesUsed result new.used.now (meant (ways set old) old.used.now)
  pub files : set new.files.now ≡ set old.files.now
  pub home : new.home ≡ old.home
  pub files_lent : new.files.ghost_name ≡ old.files.ghost_name
  pub used_lent : new.used.ghost_name ≡ old.used.ghost_name
