use Rattle.std.proofs.Common.{ap, ◌∙◌}
use Rattle.pl_yaml.specs.Spells.{placed}
use Rattle.pl_yaml.proofs.Laws.Texts.{large_spells, other_spells, whole_spells, answers_along}
use Rattle.pl_yaml.proofs.document.read_in.Goals as goal

pub returns-then-text-gt-MOST_BYTES : goal.returns-then-text-gt-MOST_BYTES
returns-then-text-gt-MOST_BYTES c =
    answers_along c.refused.result _ _ (large_spells c.args.file.now c.args.text.now
    c.if-text-gt-MOST_BYTES.true) c.refused.ensures

pub returns-in_default : goal.returns-in_default
returns-in_default c =
    answers_along c.refused-in_default.result _ _ (other_spells c.args.file.now c.args.text.now
    c.if-text-gt-MOST_BYTES.false c.in_default.ensures.cases.0) c.refused-in_default.ensures

pub returns-in-Ok-document_of : goal.returns-in-Ok-document_of
returns-in-Ok-document_of c =
    whole_spells c.args.file.now c.args.text.now c.in-Ok.text.now c.if-text-gt-MOST_BYTES.false
    c.in-Ok.ensures.cases
    ∙ ap (placed c.args.file.now) c.in-Ok-document_of.ensures

pub returns-in-Err-Refused : goal.returns-in-Err-Refused
returns-in-Err-Refused c =
    let fails = rw c.in-Err-Refused.field-0-is at c.in-Err-Refused.ensures in
    answers_along c.refused-in-Err-Refused.result _ _
    (whole_spells c.args.file.now c.args.text.now c.in-Ok.text.now c.if-text-gt-MOST_BYTES.false
    c.in-Ok.ensures.cases ∙ ap (placed c.args.file.now) fails)
    c.refused-in-Err-Refused.ensures
