use Rattle.pl_heads.proofs.FrontLemmas.{bad_short, part_below, large_below, large_open}
use Rattle.pl_heads.proofs.judging.front_below.Goals as goal

pub returns-in-Many : goal.returns-in-Many
returns-in-Many c = large_below c.args.bytes.now c.requires.short c.in-Many.ensures

pub returns-in-Some : goal.returns-in-Some
returns-in-Some c = large_open c.args.bytes.now c.in-Some.field-0 c.requires.short
    c.in-Partial.ensures.0 c.in-Partial.ensures.1 c.in-Some.ensures

pub returns-in-None : goal.returns-in-None
returns-in-None c = part_below c.args.bytes.now c.requires.short c.in-Partial.ensures.0
    c.in-Partial.ensures.1 c.in-None.ensures

pub returns-then-has_many : goal.returns-then-has_many
returns-then-has_many c = large_below c.args.bytes.now c.requires.short c.if-has_many.ensures

pub returns-else-has_many : goal.returns-else-has_many
returns-else-has_many c = bad_short c.args.bytes.now c.requires.short c.in-Never.ensures
    c.if-has_many.ensures
