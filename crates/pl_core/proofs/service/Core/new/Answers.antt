use Rattle.std.proofs.Common.{List, [], sym, subst}
use Rattle.std.proofs.lemmas.List.Elements.{All-from_recursion}
use Rattle.pl_history.specs.Below.pl_due.specs.Fit.{AreFit, IsFit}
use Rattle.pl_facts.specs.declared.fact.Fact.{Fact}
use Rattle.pl_core.proofs.service.Core.new.Goals as goal

pub opened-requires-clause-fit : goal.opened-requires-clause-fit
opened-requires-clause-fit c =
    subst (λ (facts : List Fact). AreFit facts) (sym c.new.ensures.items)
    (All-from_recursion IsFit [] tt)
