-- A message that stands first is well-formed.
use Rattle.std.proofs.Common.{ℕ, List}
use Rattle.pl_sessions.specs.Desk.{IsWellFormed}
use Rattle.pl_wire.specs.Message.{RequestsAreWellFormed, StandsFirst}
use Rattle.pl_wire.specs.declared.message.Message.{Message}
use Rattle.pl_wire.specs.declared.message.Message.TheVariants.{Ask, Refused}
use Rattle.pl_wire.specs.declared.message.Next.TheVariants.{Whole}

pub well_formed : RequestsAreWellFormed → (bytes : List ℕ) (taken : ℕ) (message : Message) →
    StandsFirst bytes (Whole taken message) → IsWellFormed message
well_formed law bytes taken (Ask caller request) stands = law bytes taken caller request stands
well_formed law bytes taken (Refused fault) stands = tt
