use Rattle.std.proofs.Common.{arith}
use Rattle.pl_heads.proofs.FrontLemmas.{large_short, large_full, never_none}
use Rattle.pl_heads.proofs.judging.front_at.Goals as goal

pub returns-in-Partial : goal.returns-in-Partial
returns-in-Partial c = large_full c.args.bytes.now c.requires.long c.in-Partial.ensures.0
    c.requires.begun

pub returns-in-Many : goal.returns-in-Many
returns-in-Many c = large_short c.args.bytes.now (omega (arith, c.requires.long)) c.in-Many.ensures

pub returns-in-Never : goal.returns-in-Never
returns-in-Never c = large_full c.args.bytes.now c.requires.long
    (never_none c.args.bytes.now c.in-Never.ensures) c.requires.begun
