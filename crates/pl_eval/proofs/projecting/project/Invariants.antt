use Rattle.std.proofs.Common.{◌≡◌}
use Rattle.std.specs.List.{filter_map}
use Rattle.pl_eval.specs.LookUps.{member_behind}
use Rattle.pl_eval.proofs.projecting.project.Given as goal

abbrev pub invariant-loop-item : goal.invariant-loop-item
invariant-loop-item l = l.found ≡ filter_map (member_behind l.names) l.yielded
