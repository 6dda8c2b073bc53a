use Rattle.std.proofs.Common.{◌∙◌}
use Rattle.pl_bundle.proofs.Texts.{is_text, no_text}
use Rattle.pl_bundle.proofs.head.text_of.Goals as goal

pub returns-in_ok-from_str-in-Ok : goal.returns-in_ok-from_str-in-Ok
returns-in_ok-from_str-in-Ok c =
    is_text c.in_ok-from_str-in-Ok.field-0 c.args.bytes.now
    (c.in_ok-from_str-in-Ok.ensures ∙ c.in-Ok.ensures.cases.0) c.in-Ok.ensures.cases.1

pub returns-in-Err : goal.returns-in-Err
returns-in-Err c = no_text c.args.bytes.now c.in-Err.ensures.cases.0
