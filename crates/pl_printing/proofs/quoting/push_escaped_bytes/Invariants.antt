use Rattle.std.proofs.Common.{◌≡◌, ◌++◌, take}
use Rattle.std.specs.List.{flat_map}
use Rattle.pl_printing.specs.Printed.{escaped}
use Rattle.pl_printing.proofs.quoting.push_escaped_bytes.Given as goal

abbrev pub invariant-loop-byte : goal.invariant-loop-byte
invariant-loop-byte l = l.output.items ≡ l.fn.output.items ++
    flat_map escaped (take l.byte-index l.text)
