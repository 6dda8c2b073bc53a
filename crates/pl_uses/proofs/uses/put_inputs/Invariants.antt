use Rattle.std.proofs.Common.{◌≡◌, drop}
use Rattle.std.specs.Prelude.{flat_map}
use Rattle.pl_uses.specs.Uses.{input_uses, kept, put_all}
use Rattle.pl_uses.proofs.uses.put_inputs.Given as goal

abbrev pub invariant-loop-input : goal.invariant-loop-input
invariant-loop-input l = put_all (kept l.uses) (flat_map input_uses (drop l.input-index l.inputs)) ≡
    put_all (kept l.initial.uses) (flat_map input_uses l.inputs)
