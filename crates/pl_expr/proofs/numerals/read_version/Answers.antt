use Rattle.std.proofs.Common.{◌≡◌, length, ap, sym, ◌∙◌, arith}
use Rattle.std.proofs.lemmas.Grind.{common_steps}
use Rattle.pl_expr.proofs.Bytes.{version_in_is}
use Rattle.pl_expr.proofs.numerals.read_version.Goals as goal

pub returns : goal.returns
returns c =
    let empty : length c.in_ok-numbers.behind.now ≡ 0 =
    grind (arith, common_steps, c.is_empty.ensures) in
    let e = version_in_is c.args.text.now c.in_ok-numbers.numbers
    (omega (arith, c.count_digits.ensures.value)) c.in_ok-numbers.ensures.numbers (omega arith)
    (ap length (sym c.in_ok-numbers.ensures.behind) ∙ empty) in
    rw (← e) c.as_segments.ensures
