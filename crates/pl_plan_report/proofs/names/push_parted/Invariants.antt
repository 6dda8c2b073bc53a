use Rattle.std.proofs.Common.{take}
use Rattle.pl_plan_report.specs.Lists.{names_at}
use Rattle.pl_plan_report.proofs.Parting.{Comes}
use Rattle.pl_plan_report.proofs.names.push_parted.Given as goal

abbrev pub invariant-loop-place : goal.invariant-loop-place
invariant-loop-place l = Comes (λ name. name) l.initial.text
    (names_at l.names (take l.place-index l.places)) l.text l.before
