use Rattle.std.proofs.Common.{◌∙◌, ap, sym}
use Rattle.std.proofs.lemmas.Bool.{false≢true}
use Rattle.pl_template.specs.Forms.{form_of}
use Rattle.pl_template.proofs.Dollars.{plain_without}
use Rattle.pl_template.proofs.Shapes.{plain, unclosed, not_cut, whole, joined}
use Rattle.pl_template.proofs.cutting.scalar_form.Goals as goal

pub returns-then-not-has_dollar : goal.returns-then-not-has_dollar
returns-then-not-has_dollar c =
    plain_without c.as_str-text.result.now (sym c.has_dollar.ensures ∙ c.if-not-has_dollar.true)
    ∙ ap form_of c.as_str-text.ensures

pub returns-in_default : goal.returns-in_default
returns-in_default c = plain _ c.in_default.ensures.cases ∙ ap form_of c.as_str-text.ensures

pub returns-in_default-split_closing : goal.returns-in_default-split_closing
returns-in_default-split_closing c =
    unclosed _ _ _ c.in-Some.ensures.cases c.in_default-split_closing.ensures
    ∙ ap form_of c.as_str-text.ensures

pub returns-then-is_alone : goal.returns-then-is_alone
returns-then-is_alone c =
    whole _ _ _ _ _ _ c.in-Some.ensures.cases c.in-Some-split_closing.ensures
    (c.is_alone.ensures.0 c.if-is_alone.true) c.in_ok-from_str.ensures
    ∙ ap form_of c.as_str-text.ensures

pub returns-in-Some-2 : goal.returns-in-Some-2
returns-in-Some-2 c =
    joined _ _ _ _ _ _ c.in-Some.ensures.cases c.in-Some-split_closing.ensures
    (λ nothing. false≢true (sym c.if-is_alone.false ∙ c.is_alone.ensures.1 nothing))
    (sym c.in-Some-2.is ∙ c.in_ok-pieces.ensures)
    ∙ ap form_of c.as_str-text.ensures

pub returns-in-None : goal.returns-in-None
returns-in-None c =
    not_cut _ _ _ c.in-Some.ensures.cases (sym c.in-None.is ∙ c.in_ok-pieces.ensures)
    ∙ ap form_of c.as_str-text.ensures
