use Rattle.std.proofs.Common.{sym, ◌∙◌}
use Rattle.pl_bundle.proofs.Texts.{readable, unreadable}
use Rattle.pl_bundle.proofs.head.key_at.Goals as goal

pub returns-then-is_key : goal.returns-then-is_key
returns-then-is_key c =
    readable c.in-Some.key _ (sym c.in-Some.is ∙ c.in_ok-key.ensures)
    (sym c.is_key.ensures ∙ c.if-is_key.true)

pub returns-else-is_key : goal.returns-else-is_key
returns-else-is_key c =
    unreadable c.in-Some.key _ (sym c.in-Some.is ∙ c.in_ok-key.ensures)
    (sym c.is_key.ensures ∙ c.if-is_key.false)
