use Rattle.std.proofs.Common.{◌≡◌, take}
use Rattle.std.specs.List.{filter}
use Rattle.pl_due.specs.Checked.{is_exclusive}
use Rattle.pl_due.proofs.checked.exclusive_uses.Given as goal

abbrev pub invariant-loop-key : goal.invariant-loop-key
invariant-loop-key l =
    l.keys ≡ filter (is_exclusive l.journal.facts) (take l.key-index l.uses)
