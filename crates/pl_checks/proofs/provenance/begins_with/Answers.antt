use Rattle.pl_checks.proofs.Borders.{first_begins}
use Rattle.std.proofs.Common.{sym}
use Rattle.pl_checks.proofs.provenance.begins_with.Goals as goal

pub returns-in-Some : goal.returns-in-Some
returns-in-Some c =
    let same = first_begins c.args.crossings.now c.in-Some.first.now c.args.file.now (sym
    c.in-Some.ensures.value) in
    (λ h. same.0 (c.is_extending.ensures.0 h), λ b. c.is_extending.ensures.1 (same.1 b))
