use Rattle.std.proofs.Common.{◌≡◌, drop}
use Rattle.serde_json.specs.Data.{no_members}
use Rattle.pl_trees.specs.Trees.{data_of_members, entries_seen}
use Rattle.pl_trees.specs.Views.{members_view}
use Rattle.pl_trees.proofs.members.in_order.Given as goal

abbrev pub invariant-loop-member : goal.invariant-loop-member
invariant-loop-member l =
    data_of_members (members_view (drop l.member-index l.members)) (entries_seen l.found.entries) ≡
    data_of_members (members_view l.members) no_members
