-- Steps that may call templates: what they give, with the files that were called by then, each
-- once, in the order in which they were reached first.
use Rattle.std.specs.Prelude.{List, Result, Ok, Err}
use Rattle.pl_base.specs.declared.place.FileKey.{FileKey}
use Rattle.pl_directives.specs.declared.fault.ExpandFault.{ExpandFault}

abbrev pub Meant : Type 0 → Type 0
Meant X = Result (X × List FileKey) ExpandFault

-- one step after the other: the first fault ends them
infixl 10 ◌>>>◌
abbrev pub ◌>>>◌ :
    {A B : Type 0} → Result (A × List FileKey) ExpandFault →
    (A → List FileKey → Result B ExpandFault) → Result B ExpandFault
(Ok both) >>> next = next both.0 both.1
(Err fault) >>> next = Err fault

-- a step that calls nothing
abbrev pub alone :
    {X : Type 0} → Result X ExpandFault → List FileKey → Result (X × List FileKey) ExpandFault
alone (Ok value) used = Ok (value, used)
alone (Err fault) used = Err fault
