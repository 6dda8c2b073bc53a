use Rattle.std.proofs.Common.{arith}
use Rattle.pl_expr.proofs.Reading.{version_some, version_none}
use Rattle.pl_expr.proofs.literals.read_unsigned.Goals as goal

pub returns-in-Some-2-clause-gives : goal.returns-in-Some-2-clause-gives
returns-in-Some-2-clause-gives c = version_some c.args.text.now c.in_ok-numbers.numbers _ _ _ _
    (omega arith) (omega arith) c.in_ok-numbers.ensures.numbers c.in_ok-segments.ensures
    c.in-Some-2.is c.in_ok-numbers.ensures.behind c.literal-in-Some-2.ensures.expr

pub returns-clause-gives : goal.returns-clause-gives
returns-clause-gives c = version_none c.args.text.now c.in_ok-numbers.numbers _ _ (omega arith)
    (omega arith) c.in_ok-numbers.ensures.numbers c.in_ok-segments.ensures c.in-None-2.is
    c.stop_at-in-None-2.ensures
