-- What is known of bytes while they only begin a message.
use Rattle.std.specs.Prelude.{ℕ, List}
use Rattle.pl_scan.specs.Scans.{Follows}
use Rattle.pl_wire.specs.declared.waiting.Waiting.{Waiting}
use Rattle.pl_wire.specs.declared.waiting.Waiting.TheVariants.{Head, Content}
use Rattle.pl_wire.specs.Message.{WaitsFor}

-- a front of them ends at a place of a head; or they begin a message while they are too few
abbrev pub Awaits : Waiting → List ℕ → Type 0
Awaits (Head scanner) bytes = Follows scanner bytes
Awaits (Content least) bytes = WaitsFor least bytes
