use Rattle.pl_judgement.proofs.Asking.{Asked}
use Rattle.pl_judgement.proofs.judgement.Judgement.ask.Given as goal

abbrev pub invariant-loop-check : goal.invariant-loop-check
invariant-loop-check l = Asked l.view l.fn.moment l.fn.kind l.checks l.fn.self l.check-index l.self
