use Rattle.std.proofs.Common.{take, map}
use Rattle.httparse.specs.Spans.{header_bytes}
use Rattle.pl_heads.specs.Fields.{values_of}
use Rattle.pl_heads.specs.Found.{IsFound}
use Rattle.pl_heads.proofs.fields.look_up.Given as goal

abbrev pub invariant-loop-field : goal.invariant-loop-field
invariant-loop-field l =
    IsFound l.bytes (values_of l.name (map (header_bytes l.bytes) (take l.field-index l.fields)))
    l.found
