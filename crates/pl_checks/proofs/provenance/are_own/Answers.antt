use Rattle.std.proofs.Common.{◌∙◌, sym}
use Rattle.std.proofs.lemmas.Bool.{false≢true}
use Rattle.pl_checks.proofs.Borders.{own, own_written}
use Rattle.pl_checks.proofs.provenance.are_own.Goals as goal

pub returns-then-begins_with : goal.returns-then-begins_with
returns-then-begins_with c = (
  λ h. own c.args.crossings.now c.args.file.now (c.begins_with.ensures.0 c.if-begins_with.true)
      (c.are_written.ensures.0 h),
  λ o. c.are_written.ensures.1 (own_written c.args.crossings.now c.args.file.now o),
)

pub returns-else-begins_with : goal.returns-else-begins_with
returns-else-begins_with c =
    (λ h. absurd (false≢true (sym c.if-begins_with.false ∙ h)), λ o. c.begins_with.ensures.1 o.from)
