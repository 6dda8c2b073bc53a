use Rattle.std.proofs.Common.{sym, ◌∙◌, ap, Some}
use Rattle.pl_texts.proofs.Bytes.{digits_are_ascii}
use Rattle.pl_texts.proofs.Filling.{hole_filled}
use Rattle.pl_texts.proofs.formatting.fill_hole.Goals as goal

pub split_ascii-requires-clause-ascii : goal.split_ascii-requires-clause-ascii
split_ascii-requires-clause-ascii c = digits_are_ascii c.args.behind.now _
    c.count_digits-count.ensures.value

pub returns-in-Some : goal.returns-in-Some
returns-in-Some c =
    hole_filled c.args.arguments.now c.args.behind.now c.split_ascii.result.1.now
    c.as_str.result.now c.skip_byte.result.now c.count_digits-count.result
    c.count_digits-count.ensures.value c.split_ascii.ensures.behind
    (sym c.if-not-begins_with.ensures) (ap Some c.as_str.ensures ∙ c.in-Some.ensures)
    c.skip_byte.ensures
