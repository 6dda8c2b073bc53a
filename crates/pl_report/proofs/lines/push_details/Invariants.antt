use Rattle.std.proofs.Common.{◌≡◌, ◌++◌, take}
use Rattle.std.specs.Prelude.{flat_map}
use Rattle.pl_report.specs.Places.{and_word}
use Rattle.pl_report.proofs.lines.push_details.Given as goal

abbrev pub invariant-loop-detail : goal.invariant-loop-detail
invariant-loop-detail l =
    l.text ≡ l.initial.text ++ flat_map and_word (take l.detail-index l.detail-items)
