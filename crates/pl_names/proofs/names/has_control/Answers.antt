use Rattle.std.proofs.Common.{ap, ◌∙◌}
use Rattle.std.specs.List.{list_all}
use Rattle.pl_names.specs.Bytes.{has_control_behind, is_printable}
use Rattle.pl_names.proofs.Controls.{told}
use Rattle.pl_names.proofs.Printable.{no_control}
use Rattle.pl_names.proofs.names.has_control.Goals as goal

pub returns-then-bytes-gt16 : goal.returns-then-bytes-gt16
returns-then-bytes-gt16 c =
    c.have_control.ensures ∙ ap (has_control_behind 0) c.as_bytes-bytes.ensures.value
    ∙ told c.args.text.now c.utf8.text

pub returns-then-are_printable : goal.returns-then-are_printable
returns-then-are_printable c =
    no_control c.args.text.now c.are_printable.result
    (c.are_printable.ensures ∙ ap (list_all is_printable) c.as_bytes-bytes.ensures.value)
    c.if-are_printable.true

pub returns-then-bytes-gt8 : goal.returns-then-bytes-gt8
returns-then-bytes-gt8 c =
    c.halves_have.ensures ∙ ap (has_control_behind 0) c.as_bytes-bytes.ensures.value
    ∙ told c.args.text.now c.utf8.text
