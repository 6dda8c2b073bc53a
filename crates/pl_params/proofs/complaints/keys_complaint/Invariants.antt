use Rattle.std.proofs.Common.{◌≡◌, map, take}
use Rattle.pl_params.specs.Declaring.{key_complaint, first_of}
use Rattle.pl_params.proofs.complaints.keys_complaint.Given as goal

abbrev pub invariant-loop-pair : goal.invariant-loop-pair
invariant-loop-pair l = l.first ≡ first_of (map key_complaint (take l.pair-index l.pair-items))
