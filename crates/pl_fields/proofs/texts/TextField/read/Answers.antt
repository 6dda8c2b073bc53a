use Rattle.std.proofs.Common.{◌∙◌}
use Rattle.pl_fields.proofs.Misses.{text_begins, text_not_utf8}
use Rattle.pl_fields.proofs.texts.TextField.read.Goals as goal

pub returns-in_ok-from_str-in-Ok : goal.returns-in_ok-from_str-in-Ok
returns-in_ok-from_str-in-Ok c =
    text_begins c.in_ok-from_str-in-Ok.field-0 c.in-Some.piece.now c.args.bytes.now
    c.in-Some.rest.now
    (c.in_ok-from_str-in-Ok.ensures ∙ c.in-Ok.ensures.cases.0) c.in-Some.ensures.0
    c.in-Ok.ensures.cases.1 c.in-Some.ensures.1

pub returns-in-Err : goal.returns-in-Err
returns-in-Err c =
    text_not_utf8 c.in-Some.piece.now c.args.bytes.now c.in-Some.rest.now c.in-Some.ensures.0
    c.in-Some.ensures.1 c.in-Err.ensures.cases.0
