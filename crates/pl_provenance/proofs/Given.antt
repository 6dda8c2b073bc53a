-- What holds of what is meant holds of what is given.
use Rattle.std.proofs.Common.{Result, Ok, Err, subst}
use Rattle.std.specs.Prelude.{IfOk}
use Rattle.pl_directives.specs.declared.fault.ExpandFault.{ExpandFault}
use Rattle.pl_directives.specs.Gives.{Gives}

pub given_so :
    {X : Type 0} (Q : X → Type 0) (result meant : Result X ExpandFault) → Gives result meant →
    IfOk meant Q → IfOk result Q
given_so Q (Ok x) meant gives holds =
    subst (λ (answer : Result _ ExpandFault). IfOk answer Q) gives holds
given_so Q (Err fault) meant gives holds = tt
