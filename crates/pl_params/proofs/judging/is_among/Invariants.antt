use Rattle.std.proofs.Common.{◌≡◌, drop}
use Rattle.std.specs.List.{list_any}
use Rattle.pl_params.specs.Judging.{is_value}
use Rattle.pl_params.proofs.judging.is_among.Given as goal

abbrev pub invariant-loop-entry : goal.invariant-loop-entry
invariant-loop-entry l = list_any (is_value l.kind l.value) l.values ≡
    list_any (is_value l.kind l.value) (drop l.entry-index l.entry-items)
