-- A step that calls nothing.
use Rattle.std.proofs.Common.{List, Result, Ok, Err, refl}
use Rattle.pl_base.specs.declared.place.FileKey.{FileKey}
use Rattle.pl_directives.specs.declared.fault.ExpandFault.{ExpandFault}
use Rattle.pl_directives.specs.declared.fault.ExpandFault.TheVariants.{Refused, Memory}
use Rattle.pl_directives.specs.Gives.{Gives}
use Rattle.pl_calls.specs.Gives.{GivesUsed}
use Rattle.pl_calls.specs.Meant.{alone}

pub gives_alone :
    {X : Type 0} (result meant : Result X ExpandFault) (used : List FileKey) →
    Gives result meant → GivesUsed result used (alone meant used)
gives_alone (Ok value) meant used is = rw is refl
gives_alone (Err Memory) meant used is = tt
gives_alone (Err (Refused complaint)) meant used is = rw is refl
