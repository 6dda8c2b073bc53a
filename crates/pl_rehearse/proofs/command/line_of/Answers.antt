use Rattle.std.proofs.Common.{subst}
use Rattle.pl_base.specs.declared.digest.Digest.{Digest}
use Rattle.pl_rehearsal.specs.Summary.{IsSummary}
use Rattle.pl_rehearse.proofs.command.line_of.Goals as goal

pub returns : goal.returns
returns c = record {
  summary = c.in_ok-summary.summary;
  is = subst (λ (who : Digest). IsSummary who c.args.runs c.in_ok-summary.summary)
      c.nobody.ensures c.in_ok-summary.ensures;
  line_is = c.in_ok-line.ensures;
}
