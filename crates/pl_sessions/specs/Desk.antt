-- What is asked of a message that a desk is given.
use Rattle.std.specs.Prelude.{◌≡◌, true}
use Rattle.pl_requests.specs.WellFormed.{is_request}
use Rattle.pl_wire.specs.declared.message.Message.{Message}
use Rattle.pl_wire.specs.declared.message.Message.TheVariants.{Ask, Refused}

-- a request is well-formed where it keeps the rules and limits of its fields
abbrev pub IsWellFormed : Message → Type 0
IsWellFormed (Ask caller request) = is_request request ≡ true
IsWellFormed (Refused fault) = Unit {0}
