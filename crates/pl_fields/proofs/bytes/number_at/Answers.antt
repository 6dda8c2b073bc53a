use Rattle.std.proofs.Common.{◌≡◌, ◌≤◌, length, take, drop, rules, arith}
use Rattle.std.specs.Int.{w64, from_be_bytes}
use Rattle.pl_fields.proofs.Front.{number_found, no_number}
use Rattle.pl_fields.proofs.bytes.number_at.Goals as goal

pub returns-then-bytes-lt8 : goal.returns-then-bytes-lt8
returns-then-bytes-lt8 c = λ n rest small e. no_number c.args.bytes.now c.if-bytes-lt8.true n rest e

pub returns : goal.returns
returns c =
    let value : c.from_be_bytes-number.result ≡ from_be_bytes w64 (take 8 c.args.bytes.now) =
    search rules in (
      omega arith,
      number_found c.args.bytes.now c.from_be_bytes-number.result c.split_at.result.1.now
          (λ i. omega (arith, c.type_inv.bytes i)) (omega arith) value c.split_at.ensures.back,
    )
