use Rattle.std.proofs.Common.{ap, ◌∙◌}
use Rattle.percent_encoding.specs.Percent.{percent_decode}
use Rattle.pl_routes.proofs.Said.{said_none, said_text}
use Rattle.pl_routes.proofs.parts.decoded.Goals as goal

pub returns-in_ok-into_owned-in-Ok : goal.returns-in_ok-into_owned-in-Ok
returns-in_ok-into_owned-in-Ok c =
    said_text c.args.part.now _ c.from_string.result
    (c.percent_decode.ensures.bytes ∙ ap percent_decode c.as_bytes.ensures.value)
    c.in-Ok.ensures.ok_only_if_utf8
    (c.from_string.ensures ∙ c.in_ok-into_owned-in-Ok.ensures.ok ∙ c.in-Ok.ensures.value)

pub returns-in-Err : goal.returns-in-Err
returns-in-Err c =
    said_none c.args.part.now _
    (c.percent_decode.ensures.bytes ∙ ap percent_decode c.as_bytes.ensures.value)
    (λ utf8. let wanting = c.in-Err.ensures.utf8 utf8 in cc)
