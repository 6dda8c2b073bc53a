use Rattle.pl_due.specs.Asked.{facts_of}
use Rattle.pl_due.proofs.Asking.{asked_all}
use Rattle.pl_due.proofs.judging.ask_all.Goals as goal

pub returns : goal.returns
returns c =
    let at = c.args.at.now in
    asked_all (facts_of at) at.planned.now.uses c.as_slice-uses.result.now c.args.view.now at.moment
    c.new-judgement.result c.ask_kind.new.judgement c.ask_kind-2.new.judgement
    c.ask_kind-3.new.judgement c.ask_kind-4.new.judgement c.as_slice-uses.ensures
    c.new-judgement.ensures.fail c.new-judgement.ensures.wait c.in_ok-ask_kind.ensures
    c.in_ok-ask_kind-2.ensures c.in_ok-ask_kind-3.ensures c.in_ok-ask_kind-4.ensures
