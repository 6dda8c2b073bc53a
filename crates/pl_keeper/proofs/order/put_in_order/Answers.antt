use Rattle.std.proofs.Common.{get_or, rules, ◌+◌}
use Rattle.std.specs.Ordering.{is_lt}
use Rattle.std.specs.Cmp.Lexicographic.{slice_cmp}
use Rattle.std.specs.Ordering.{nat_cmp}
use Rattle.std.proofs.lemmas.List.Sorted.{answers_always}
use Rattle.pl_base.specs.declared.row.Row.{Row}
use Rattle.pl_keeper.specs.Keeping.{place, place_cmp, row_cmp}
use Rattle.pl_keeper.proofs.Changing.{not_before, rows_weak}
use Rattle.pl_keeper.proofs.order.put_in_order.Goals as goal

pub returns-clause-sorted : goal.returns-clause-sorted
returns-clause-sorted c =
    c.sort_unstable_by.ensures.sorted (λ (left right : Row). is_lt (row_cmp left right)) rows_weak
    (answers_always _ _ _ (λ f a r f' called. search rules))

pub returns-clause-order : goal.returns-clause-order
returns-clause-order c = λ k d low high.
    let later = get_or c.sort_unstable_by.new.self (k + 1) d in
    let earlier = get_or c.sort_unstable_by.new.self k d in
    not_before (place_cmp (place later) (place earlier)) (slice_cmp nat_cmp later.body earlier.body)
    (c.sort_unstable_by.ensures.sorted (λ (left right : Row). is_lt (row_cmp left right)) rows_weak
    (answers_always _ _ _ (λ f a r f' called. search rules)) k d low high)
