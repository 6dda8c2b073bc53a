use Rattle.std.proofs.Common.{Err, Ok, sym, subst, ◌∙◌}
use Rattle.std.specs.List.Sorted.{IsBinarySearchResult}
use Rattle.std.specs.Ordering.{nat_cmp}
use Rattle.pl_open_runs.proofs.Numbers.{put_found}
use Rattle.pl_open_runs.proofs.index.put_in.Goals as goal

pub returns-in_ok-insert-clause-ok : goal.returns-in_ok-insert-clause-ok
returns-in_ok-insert-clause-ok c =
    c.in_ok-insert.ensures.items
    ∙ (put_found c.args.numbers.now.items c.args.number (Err c.in-Err.at) c.requires
    (subst (λ l. IsBinarySearchResult (λ y. nat_cmp y c.args.number) l (Err c.in-Err.at))
    c.deref.ensures.value c.in-Err.ensures.position)).1

pub returns-in_default-clause-ok : goal.returns-in_default-clause-ok
returns-in_default-clause-ok c =
    sym (put_found c.args.numbers.now.items c.args.number (Ok c.in_default.field-0) c.requires
    (subst (λ l. IsBinarySearchResult (λ y. nat_cmp y c.args.number) l (Ok c.in_default.field-0))
    c.deref.ensures.value c.in_default.ensures.position))
