use Rattle.std.proofs.Common.{◌≡◌, ◌+◌, suc, length, sym, ap, ◌∙◌, arith}
use Rattle.pl_line.specs.Characters.{all_of}
use Rattle.pl_line.proofs.Laws.Quotes.{hex_fits, hex_step, hex_next}
use Rattle.pl_line.proofs.escapes.hex_value.Goals as goal

pub overflow_mul-value : goal.overflow_mul-value
overflow_mul-value c =
    let inv = c.loop-c.invariant in
    let one : length (all_of c.loop-c.rest) ≡ suc (length (all_of c.next.new.self)) =
    ap length c.in-Some.ensures in
    omega (arith, hex_fits inv.0 c.loop-c.value (omega (arith, inv.1, one)) inv.2)

pub overflow_add-value : goal.overflow_add-value
overflow_add-value c =
    let inv = c.loop-c.invariant in
    let one : length (all_of c.loop-c.rest) ≡ suc (length (all_of c.next.new.self)) =
    ap length c.in-Some.ensures in
    omega (
      arith,
      hex_fits inv.0 c.loop-c.value (omega (arith, inv.1, one)) inv.2,
      c.in_ok-value.ensures,
    )

pub loop-c-preserved : goal.loop-c-preserved
loop-c-preserved c =
    let inv = c.loop-c.invariant in
    let one : length (all_of c.loop-c.rest) ≡ suc (length (all_of c.next.new.self)) =
    ap length c.in-Some.ensures in (
      inv.0 + 1,
      omega (arith, inv.1, one),
      hex_step inv.0 c.loop-c.value c.in_ok-value.field-0 inv.2
          (omega (arith, c.in_ok-value.ensures)),
      hex_next c.in-Some.c c.loop-c.value c.in_ok-value.field-0 (all_of c.loop-c.rest)
          (all_of c.next.new.self) c.in-Some.ensures (sym c.in_ok-value.ensures.value.1)
          (omega (arith, c.in_ok-value.ensures)) ∙ inv.3,
    )
