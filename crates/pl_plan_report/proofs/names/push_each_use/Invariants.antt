use Rattle.std.proofs.Common.{take}
use Rattle.pl_plan_report.specs.Lists.{use_text}
use Rattle.pl_plan_report.proofs.Parting.{Comes}
use Rattle.pl_plan_report.proofs.names.push_each_use.Given as goal

abbrev pub invariant-loop-key : goal.invariant-loop-key
invariant-loop-key l =
    Comes use_text l.initial.text (take l.key-index l.keys) l.text l.before
