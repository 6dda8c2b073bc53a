use Rattle.std.proofs.Common.{◌++◌, subst}
use Rattle.std.specs.List.{filter}
use Rattle.pl_judgement.specs.Kinds.{is_of}
use Rattle.pl_judgement.specs.Said.{IsJudgement}
use Rattle.pl_due.specs.Asked.{facts_of}
use Rattle.pl_due.proofs.Asking.{asked_of_all, asked_of_none, asked_of_one}
use Rattle.pl_due.proofs.judging.ask_kind.Goals as goal

pub loop-key-init : goal.loop-key-init
loop-key-init c =
    let at = c.args.at.now in
    asked_of_none (facts_of at) c.args.view.now at.moment c.args.kind c.args.uses.now
    c.args.judgement.now

pub loop-key-preserved : goal.loop-key-preserved
loop-key-preserved c =
    let at = c.args.at.now in
    asked_of_one (facts_of at) c.args.view.now at.moment c.args.kind c.args.uses.now
    c.args.judgement.now c.loop-key.key-index c.key-item.result c.loop-key.judgement c.ask.new.self
    c.loop-key-test.true c.key-item.is
    (λ before is. subst (λ checks. IsJudgement (before ++ filter (is_of c.args.kind) checks)
    c.args.view.now at.moment c.ask.new.self) c.checks_on.ensures (c.in_ok-ask.ensures before is))
    c.loop-key.invariant

pub returns : goal.returns
returns c =
    let at = c.args.at.now in
    asked_of_all (facts_of at) c.args.view.now at.moment c.args.kind c.args.uses.now
    c.args.judgement.now c.loop-key.key-index c.loop-key.judgement c.loop-key-test.false
    c.loop-key.invariant
