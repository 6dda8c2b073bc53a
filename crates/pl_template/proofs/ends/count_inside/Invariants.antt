use Rattle.std.proofs.Common.{◌≡◌, length, drop, false}
use Rattle.std.specs.Option.{option_map}
use Rattle.pl_template.specs.Cutting.{before_closing}
use Rattle.pl_template.proofs.Closing.{end_behind}
use Rattle.pl_template.proofs.ends.count_inside.Given as goal

abbrev pub invariant-loop-count : goal.invariant-loop-count
invariant-loop-count l =
    option_map length (before_closing false l.bytes) ≡ end_behind l.count l.quoted
    (drop l.count l.bytes)
