use Rattle.pl_due.specs.Asked.{facts_of}
use Rattle.pl_due.proofs.Asking.{AskedOf}
use Rattle.pl_due.proofs.judging.ask_kind.Given as goal

abbrev pub invariant-loop-key : goal.invariant-loop-key
invariant-loop-key l = AskedOf (facts_of l.at) l.view l.at.moment l.fn.kind l.uses l.fn.judgement
    l.key-index l.judgement
