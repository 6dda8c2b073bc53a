use Rattle.std.proofs.Common.{◌≡◌, [], drop}
use Rattle.pl_schema_parts.specs.Names.{is_taken, taken}
use Rattle.pl_schema_parts.specs.Rows.{in_turn}
use Rattle.pl_schema_parts.specs.Steps.{step_in, step_names}
use Rattle.pl_schema_parts.proofs.steps.steps_of.Given as goal

abbrev pub invariant-loop-item : goal.invariant-loop-item
invariant-loop-item l = record {
  read : in_turn (λ made item. step_in (is_taken (step_names made)) item) [] l.items ≡ in_turn
      (λ made item. step_in (is_taken (step_names made)) item) l.steps (drop l.item-index l.items);
  names : taken l.names ≡ is_taken (step_names l.steps);
}
