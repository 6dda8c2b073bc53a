-- Faults that are handed on.
use Rattle.std.proofs.Common.{◌≡◌, Result, Err, sym, subst}
use Rattle.pl_line.specs.declared.line_fault.Fault.{Fault}
use Rattle.pl_line.specs.declared.line_fault.ReadFault.{ReadFault}
use Rattle.pl_line.specs.declared.line_fault.ReadFault.TheVariants as faults
use Rattle.pl_line.specs.Gives.{Fails}

-- a fault that is told
pub fails_as :
    {A : Type 0} (e : ReadFault) (fault : Fault) (read : Result A Fault) →
    e ≡ faults.Refused fault → read ≡ Err fault → Fails e read
fails_as e fault read told is = subst (λ x. Fails x read) (sym told) is

-- what fails here, fails on the whole
pub fails_along :
    {A B : Type 0} (e : ReadFault) (part : Result A Fault) (whole : Result B Fault) →
    ((fault : Fault) → part ≡ Err fault → whole ≡ Err fault) → Fails e part → Fails e whole
fails_along faults.Memory part whole along fails = tt
fails_along (faults.Refused fault) part whole along fails = along fault fails
