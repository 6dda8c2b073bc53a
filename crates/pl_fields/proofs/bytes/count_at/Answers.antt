use Rattle.std.proofs.Common.{◌≡◌, ◌≤◌, length, take, drop, rules, arith}
use Rattle.std.specs.Int.{w32, from_be_bytes}
use Rattle.pl_fields.proofs.Front.{count_found, no_count}
use Rattle.pl_fields.proofs.bytes.count_at.Goals as goal

pub returns-then-bytes-lt4 : goal.returns-then-bytes-lt4
returns-then-bytes-lt4 c = λ n rest small e. no_count c.args.bytes.now c.if-bytes-lt4.true n rest e

pub returns : goal.returns
returns c =
    let value : c.from_be_bytes-count.result ≡ from_be_bytes w32 (take 4 c.args.bytes.now) =
    search rules in (
      omega arith,
      count_found c.args.bytes.now c.from_be_bytes-count.result c.split_at.result.1.now
          (λ i. omega (arith, c.type_inv.bytes i)) (omega arith) value c.split_at.ensures.back,
    )
