use Rattle.pl_heads.proofs.ManyLines.{few_lines, cut_whole, cut_open, cut_exceeds, cut_never}
use Rattle.pl_heads.proofs.judging.has_many.Goals as goal

pub returns-in_default : goal.returns-in_default
returns-in_default c exceeds = few_lines c.args.bytes.now c.in_default.ensures exceeds

pub unreachable-requires : goal.unreachable-requires
unreachable-requires c =
    cut_whole c.args.bytes.now c.split_at.result.0.now c.in-Some.end c.split_at.ensures.front
    c.requires.never
    c.read_front.new.headers c.in-Whole.field-0 c.in-Whole.ensures.1

pub returns-in-Partial : goal.returns-in-Partial
returns-in-Partial c =
    cut_open c.args.bytes.now c.split_at.result.0.now c.in-Some.end c.in-Some.ensures
    c.split_at.ensures.front
    c.in-Partial.ensures

pub returns-in-Many : goal.returns-in-Many
returns-in-Many c =
    cut_exceeds c.args.bytes.now c.split_at.result.0.now c.in-Some.end c.split_at.ensures.front
    c.in-Many.ensures

pub returns-in-Never : goal.returns-in-Never
returns-in-Never c =
    cut_never c.args.bytes.now c.split_at.result.0.now c.in-Some.end c.in-Some.ensures
    c.split_at.ensures.front
    c.in-Never.ensures
