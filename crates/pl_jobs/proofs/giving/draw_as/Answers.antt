use Rattle.std.proofs.Common.{◌≡◌, Some, sym, subst}
use Rattle.std.specs.Result.{IfOk}
use Rattle.std.proofs.lemmas.Result.{IfOk-weaker}
use Rattle.pl_granting.specs.Below.pl_due.specs.Fit.{AreFit}
use Rattle.pl_granting.specs.Asked.{of}
use Rattle.pl_granting.specs.Named.{IsJobOf}
use Rattle.pl_journal.specs.Log.{Log}
use Rattle.pl_jobs.specs.Granting.{DrawsAs, give}
use Rattle.pl_jobs.proofs.giving.draw_as.Goals as goal

pub give-requires : goal.give-requires
give-requires c = record {
  fit = subst (λ (log : Log). AreFit log.facts) (sym c.journal.ensures) c.requires.fit;
  job = subst (λ (log : Log). IsJobOf log.facts (of c.in-Some.at)) (sym c.journal.ensures)
      c.in-Some.ensures.0.0;
}

pub returns-in-Some : goal.returns-in-Some
returns-in-Some c =
    let facts = c.args.indexed.now.facts in
    let who = c.args.who.now in
    let at = of c.in-Some.at in
    let given : IfOk c.give.result (λ answer. answer ≡ give facts who at) =
    subst (λ (log : Log). IfOk c.give.result (λ answer. answer ≡ give log.facts who at))
    c.journal.ensures c.give.ensures in
    IfOk-weaker c.give.result (λ answer. answer ≡ give facts who at) (DrawsAs facts who)
    (λ answer told. (Some at, c.in-Some.ensures, told)) given
