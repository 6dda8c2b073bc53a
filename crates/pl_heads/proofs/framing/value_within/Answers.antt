use Rattle.std.proofs.Common.{arith}
use Rattle.pl_heads.proofs.FieldLemmas.{value_over}
use Rattle.pl_heads.proofs.framing.value_within.Goals as goal

pub returns-then-value-gt-CONTENT_LIMIT : goal.returns-then-value-gt-CONTENT_LIMIT
returns-then-value-gt-CONTENT_LIMIT c =
    value_over c.args.digits.now c.loop-digit.digit-index c.loop-digit.value c.loop-digit-test.true
    c.loop-digit.invariant.says
    (omega (arith, c.saturating_sub.ensures, c.if-value-gt-CONTENT_LIMIT.true))
