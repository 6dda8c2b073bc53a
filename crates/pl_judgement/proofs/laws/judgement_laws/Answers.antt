use Rattle.pl_checks.specs.Verdicts.{IsVerdict}
use Rattle.pl_judgement.proofs.Asking.{one_list, passing}
use Rattle.pl_judgement.proofs.laws.judgement_laws.Goals as goal

pub returns : goal.returns
returns c = record {
  one = λ checks view moment left right.
      one_list (λ check verdict. IsVerdict check view moment verdict)
      (λ check l r. c.verdict_laws.ensures.one check view moment l r) checks left right;
  passing = passing;
}
