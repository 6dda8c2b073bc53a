use Rattle.std.proofs.Common.{◌↔◌, List, ap, subst, ◌∙◌}
use Rattle.std.specs.Bool.{IsTrue}
use Rattle.pl_base.specs.declared.origin.Crossing.{Crossing}
use Rattle.pl_checks.specs.Provenance.{IsOwn}
use Rattle.pl_checks.proofs.Borders.{borders}
use Rattle.pl_checks.proofs.provenance.comes_as_written.Goals as goal

pub returns : goal.returns
returns c =
    let P : List Crossing →
    Type 0 = λ crossings. IsTrue c.are_own.result ↔ IsOwn c.args.file.now crossings in
    subst P (ap borders c.deref.ensures.value ∙ c.in_ok-crossings.ensures) c.are_own.ensures
