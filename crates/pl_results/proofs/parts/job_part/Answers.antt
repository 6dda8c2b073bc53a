use Rattle.std.proofs.Common.{Some, ap, sym, ◌∙◌}
use Rattle.pl_results.specs.declared.parts.Part.{Part}
use Rattle.pl_results.proofs.Once.{first_is}
use Rattle.pl_results.proofs.parts.job_part.Goals as goal

pub returns-in_ok-job_part_of-in-Some : goal.returns-in_ok-job_part_of-in-Some
returns-in_ok-job_part_of-in-Some c =
    ap (λ (part : Part). Some part) c.in_ok-job_part_of-in-Some.ensures
    ∙ first_is c.args.legs.now c.args.name.now _ c.in-Some.ensures

pub returns-in-None : goal.returns-in-None
returns-in-None c = first_is c.args.legs.now c.args.name.now _ c.in-None.ensures
