use Rattle.std.proofs.Common.{ap, sym, ◌∙◌}
use Rattle.pl_template.specs.Cutting.{opening, holds_opening}
use Rattle.std.proofs.lemmas.Str.Pattern.{contains_text}
use Rattle.pl_texts.proofs.Contained.{contained}
use Rattle.pl_template.proofs.Dollars.{unheld}
use Rattle.pl_template.proofs.cutting.begins_expression.Goals as goal

pub returns : goal.returns
returns c =
    contained c.contains.result _ opening
    (contains_text c.contains.result opening _ c.contains.ensures.cases)
    ∙ ap holds_opening c.as_str-text.ensures

pub returns-then-not-has_dollar : goal.returns-then-not-has_dollar
returns-then-not-has_dollar c =
    unheld c.as_str-text.result.now (sym c.has_dollar.ensures ∙ c.if-not-has_dollar.true)
    ∙ ap holds_opening c.as_str-text.ensures
