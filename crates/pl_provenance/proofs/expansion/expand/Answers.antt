use Rattle.std.proofs.Common.{◌≡◌, Some}
use Rattle.std.specs.List.{AllByRecursion}
use Rattle.pl_base.specs.declared.expanded.Expanded.{Expanded}
use Rattle.pl_eval_laws.specs.Marks.{marks_of}
use Rattle.pl_eval_laws.specs.Trees.{origins_of}
use Rattle.pl_provenance.specs.Closure.{ArePairsFromClosure}
use Rattle.pl_provenance.specs.Known.{home_in, IsKnown}
use Rattle.pl_provenance.specs.Roots.{IsPairThrough, jobs_of}
use Rattle.pl_provenance.specs.Written.{ArePairsWhereTold}
use Rattle.pl_provenance.proofs.Closure.{closure}
use Rattle.pl_provenance.proofs.Given.{given_so}
use Rattle.pl_provenance.specs.Texts.{IsSaid}
use Rattle.pl_provenance.proofs.Known.{known, texts}
use Rattle.pl_provenance.proofs.Through.{steps_through}
use Rattle.pl_provenance.proofs.Written.{written}
use Rattle.pl_provenance.proofs.expansion.expand.Goals as goal

pub returns-clause-steps : goal.returns-clause-steps
returns-clause-steps g c = λ file.
    given_so
    (λ (whole : Expanded).
    whole.extends ≡ Some file → AllByRecursion (IsPairThrough file) (jobs_of whole.tree))
    c.expand_within.result _ c.expand_within.ensures.tree
    (steps_through (g.F.Files.files c.args.files.now) c.args.root.now c.args.arguments.now file)

pub returns-clause-written : goal.returns-clause-written
returns-clause-written g c = λ file.
    given_so
    (λ (whole : Expanded).
    whole.extends ≡ Some file
    → ArePairsWhereTold (g.F.Files.files c.args.files.now) (jobs_of whole.tree))
    c.expand_within.result _ c.expand_within.ensures.tree
    (written (g.F.Files.files c.args.files.now) c.args.root.now c.args.arguments.now file)

pub returns-clause-closure : goal.returns-clause-closure
returns-clause-closure g c = λ file.
    given_so
    (λ (whole : Expanded).
    whole.extends ≡ Some file
    → ArePairsFromClosure (g.F.Files.files c.args.files.now) whole.tree file)
    c.expand_within.result _ c.expand_within.ensures.tree
    (closure (g.F.Files.files c.args.files.now) c.args.root.now c.args.arguments.now file)

pub returns-clause-known : goal.returns-clause-known
returns-clause-known g c =
    given_so
    (λ (whole : Expanded).
    AllByRecursion
    (IsKnown (g.F.Files.files c.args.files.now) (home_in c.args.root.now whole) whole.used
    c.args.arguments.now)
    (origins_of whole.tree))
    c.expand_within.result _ c.expand_within.ensures.tree
    (known (g.F.Files.files c.args.files.now) c.args.root.now c.args.arguments.now)

pub returns-clause-texts : goal.returns-clause-texts
returns-clause-texts g c =
    given_so
    (λ (whole : Expanded).
    AllByRecursion (IsSaid (g.F.Files.files c.args.files.now)) (marks_of whole.tree))
    c.expand_within.result _ c.expand_within.ensures.tree
    (texts (g.F.Files.files c.args.files.now) c.args.root.now c.args.arguments.now)
