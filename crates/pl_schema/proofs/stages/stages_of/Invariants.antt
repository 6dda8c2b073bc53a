use Rattle.std.proofs.Common.{◌≡◌, [], drop}
use Rattle.pl_schema_parts.specs.Names.{is_taken, taken}
use Rattle.pl_schema_parts.specs.Rows.{in_turn}
use Rattle.pl_schema.specs.Stages.{stage_in, stage_names}
use Rattle.pl_schema.proofs.stages.stages_of.Given as goal

abbrev pub invariant-loop-item : goal.invariant-loop-item
invariant-loop-item l = record {
  read : in_turn (λ made item. stage_in (is_taken (stage_names made)) item) [] l.items ≡ in_turn
      (λ made item. stage_in (is_taken (stage_names made)) item) l.stages
      (drop l.item-index l.items);
  names : taken l.names ≡ is_taken (stage_names l.stages);
}
