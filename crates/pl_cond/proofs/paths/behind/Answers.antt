use Rattle.std.proofs.Common.{ℕ, Some, List, ap, sym, ◌∙◌}
use Rattle.std.specs.Prelude.{nat_eq}
use Rattle.std.specs.Cmp.Lexicographic.{pointwise}
use Rattle.pl_base.specs.Folding.{folded}
use Rattle.pl_cond.proofs.Keyed.{behind_other, behind_same, behind_short}
use Rattle.pl_cond.proofs.paths.behind.Goals as goal

pub returns-then-key-size : goal.returns-then-key-size
returns-then-key-size c =
    behind_short c.args.prefix.now c.args.key.now c.if-key-size.true

pub returns-then-is_called : goal.returns-then-is_called
returns-then-is_called c =
    let alike = λ (front : List ℕ). pointwise nat_eq (folded c.args.prefix.now) (folded front) in
    ap (λ (rest : List ℕ). Some rest) c.split_at.ensures.back
    ∙ behind_same c.args.prefix.now c.args.key.now c.if-key-size.false
    (ap alike (sym c.split_at.ensures.front) ∙ sym c.is_called.ensures ∙ c.if-is_called.true)

pub returns-else-is_called : goal.returns-else-is_called
returns-else-is_called c =
    let alike = λ (front : List ℕ). pointwise nat_eq (folded c.args.prefix.now) (folded front) in
    behind_other c.args.prefix.now c.args.key.now c.if-key-size.false
    (ap alike (sym c.split_at.ensures.front) ∙ sym c.is_called.ensures ∙ c.if-is_called.false)
