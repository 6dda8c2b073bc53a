use Rattle.std.proofs.Common.{◌≡◌, Some, subst}
use Rattle.std.specs.List.{AllByRecursion}
use Rattle.std.specs.Prelude.{IfOk}
use Rattle.pl_eval_laws.specs.Marks.{marks_of}
use Rattle.pl_eval_laws.specs.Trees.{origins_of}
use Rattle.pl_step_origins.specs.Below.pl_provenance.specs.Closure.{ArePairsFromClosure}
use Rattle.pl_step_origins.specs.Below.pl_provenance.specs.Known.{home_in, IsKnown}
use Rattle.pl_step_origins.specs.Below.pl_provenance.specs.Roots.{jobs_of}
use Rattle.pl_step_origins.specs.Below.pl_provenance.specs.Texts.{IsSaid}
use Rattle.pl_step_origins.specs.Below.pl_provenance.specs.Written.{ArePairsWhereTold}
use Rattle.pl_compile.specs.Reading.{read_all}
use Rattle.pl_compile.proofs.Handing.{handed}
use Rattle.pl_compile.proofs.expanding.expanded.Goals as goal

pub returns-clause-written : goal.returns-clause-written
returns-clause-written c file =
    handed c.expand-expanded.result c.told.result
    (λ whole. whole.extends ≡ Some file →
    ArePairsWhereTold (read_all c.args.files.now) (jobs_of whole.tree))
    c.told.ensures.same
    (subst (λ texts. IfOk c.expand-expanded.result (λ whole. whole.extends ≡ Some file →
    ArePairsWhereTold (read_all texts) (jobs_of whole.tree)))
    c.new-read.ensures (c.expand-expanded.ensures.written file))

pub returns-clause-closure : goal.returns-clause-closure
returns-clause-closure c file =
    handed c.expand-expanded.result c.told.result
    (λ whole. whole.extends ≡ Some file →
    ArePairsFromClosure (read_all c.args.files.now) whole.tree file)
    c.told.ensures.same
    (subst (λ texts. IfOk c.expand-expanded.result (λ whole. whole.extends ≡ Some file →
    ArePairsFromClosure (read_all texts) whole.tree file))
    c.new-read.ensures (c.expand-expanded.ensures.closure file))

pub returns-clause-known : goal.returns-clause-known
returns-clause-known c =
    handed c.expand-expanded.result c.told.result
    (λ whole. AllByRecursion
    (IsKnown (read_all c.args.files.now) (home_in c.args.root.now whole) whole.used
    c.args.arguments.now)
    (origins_of whole.tree))
    c.told.ensures.same
    (subst (λ texts. IfOk c.expand-expanded.result (λ whole.
    AllByRecursion
    (IsKnown (read_all texts) (home_in c.args.root.now whole) whole.used c.args.arguments.now)
    (origins_of whole.tree)))
    c.new-read.ensures c.expand-expanded.ensures.known)

pub returns-clause-texts : goal.returns-clause-texts
returns-clause-texts c =
    handed c.expand-expanded.result c.told.result
    (λ whole. AllByRecursion (IsSaid (read_all c.args.files.now)) (marks_of whole.tree))
    c.told.ensures.same
    (subst (λ texts. IfOk c.expand-expanded.result (λ whole.
    AllByRecursion (IsSaid (read_all texts)) (marks_of whole.tree)))
    c.new-read.ensures c.expand-expanded.ensures.texts)
