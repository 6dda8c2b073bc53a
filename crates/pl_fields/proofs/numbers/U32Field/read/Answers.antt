use Rattle.std.proofs.Common.{◌≡◌, ◌≤◌, ◌<◌, ◌^◌, ℕ, arith, sym, ◌∙◌}
use Rattle.pl_fields.specs.WaysOfFields.{number_one_way}
use Rattle.pl_fields.proofs.numbers.U32Field.read.Goals as goal

pub returns-in-Err : goal.returns-in-Err
returns-in-Err c = λ value rest begins.
    let small : value < 2 ^ 32 = begins.does_fit in
    let fits : c.in_ok-number.number < 2 ^ 64 = c.in_ok-number.ensures.does_fit in
    let same = number_one_way value c.in_ok-number.number rest c.in_ok-number.rest.now (omega arith)
    fits
    (sym begins.parts ∙ c.in_ok-number.ensures.parts) in
    omega (arith, same.0, c.in-Err.ensures)
