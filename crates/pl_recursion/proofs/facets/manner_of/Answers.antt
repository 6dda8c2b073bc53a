use Rattle.std.proofs.Common.{◌≡◌, sym, subst, ◌∙◌}
use Rattle.std.proofs.lemmas.Bool.{false≢true}
use Rattle.std.specs.Prelude.{IfOk}
use Rattle.pl_directives.specs.declared.manner.Manner.{Manner}
use Rattle.pl_recursion.proofs.Filled.{manner_filled, manner_stays}
use Rattle.pl_recursion.proofs.facets.manner_of.Goals as goal

pub returns-then-not-has_expression : goal.returns-then-not-has_expression
returns-then-not-has_expression c =
    manner_stays c.args.pairs.now (λ none. false≢true (c.if-is_empty.ensures.1 none))
    (sym c.has_expression.ensures ∙ c.if-not-has_expression.true)

pub returns : goal.returns
returns c =
    let pairs = c.args.pairs.now in
    let filled = manner_filled pairs (λ none. false≢true (c.if-is_empty.ensures.1 none)) in
    subst (λ (meant : Manner). IfOk c.filled_manner.result (λ manner. manner ≡ meant)) (sym filled)
    c.filled_manner.ensures
