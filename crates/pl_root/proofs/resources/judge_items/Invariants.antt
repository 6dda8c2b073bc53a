use Rattle.std.proofs.Common.{◌≡◌, [], fold, take}
use Rattle.pl_root.specs.Resources.{judged_item}
use Rattle.pl_root.proofs.resources.judge_items.Given as goal

abbrev pub invariant-loop-item : goal.invariant-loop-item
invariant-loop-item l =
    l.judging
    ≡ fold judged_item (record { aliases = []; complaints = [] }) (take l.item-index l.items)
