-- What is said of an answer is said of the same answer with another fault.
use Rattle.std.proofs.Common.{◌≡◌, Ok, Err, subst}
use Rattle.std.specs.Prelude.{IfOk, Result}
use Rattle.pl_base.specs.declared.expanded.Expanded.{Expanded}
use Rattle.pl_directives.specs.declared.fault.ExpandFault.{ExpandFault}
use Rattle.pl_compile.specs.declared.fault.CompileFault.{CompileFault}

pub handed :
    (given : Result Expanded ExpandFault) (told : Result Expanded CompileFault)
    (Says : Expanded → Type 0) → IfOk told (λ whole. given ≡ Ok whole) → IfOk given Says →
    IfOk told Says
handed given (Ok whole) Says same says = subst (λ given. IfOk given Says) same says
handed given (Err fault) Says same says = tt
