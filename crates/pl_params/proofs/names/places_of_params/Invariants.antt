use Rattle.std.proofs.Common.{◌≡◌, ℕ, List, drop}
use Rattle.std.specs.List.{position_from}
use Rattle.std.specs.Str.{bytes_eq}
use Rattle.std.specs.HashMap.{get_by_text}
use Rattle.pl_base.specs.Folding.{folded}
use Rattle.pl_params.proofs.names.places_of_params.Given as goal

abbrev pub invariant-loop-at : goal.invariant-loop-at
invariant-loop-at l = (upper : List ℕ) → get_by_text l.places upper ≡
    position_from (λ param. bytes_eq upper (folded param.name)) l.at (drop l.at l.items)
