use Rattle.std.proofs.Common.{List, ap, subst, sym, ◌∙◌}
use Rattle.std.specs.List.{All}
use Rattle.pl_base.specs.declared.repo_ref.RepoRef.{RepoRef}
use Rattle.pl_rules.specs.declared.rule.Rule.TheVariants as rules
use Rattle.pl_checks.specs.Branches.{IsAllowed}
use Rattle.pl_base.specs.Firsts.{IsFirst}
use Rattle.pl_checks.proofs.FirstPlaces.{first_item}
use Rattle.pl_checks.proofs.branch.branch_verdict.Goals as goal

pub returns-in_ok-git_ref-in-Some : goal.returns-in_ok-git_ref-in-Some
returns-in_ok-git_ref-in-Some c =
    let linked = c.index-linked-place.result in
    let P : RepoRef → Type 0 = λ l. ¬ IsAllowed c.args.check.now l in
    let first = first_item P c.as_slice-linked.result.now c.in-Some.place linked
    c.index-linked-place.is c.in-Some.ensures in (
      linked,
      ap rules.BranchRefused (c.in_ok-git_ref-in-Some.ensures
          ∙ ap (λ l. l.git_ref) (sym c.index-linked-place.is)),
      subst (λ (items : List RepoRef).
          IsFirst P items linked) c.as_slice-linked.ensures first,
    )

pub returns-in-None : goal.returns-in-None
returns-in-None c = subst (All (IsAllowed c.args.check.now)) c.as_slice-linked.ensures
    c.in-None.ensures
