use Rattle.std.proofs.Common.{◌≡◌, true, map, take}
use Rattle.std.specs.List.{list_all}
use Rattle.pl_round_trip.specs.Trees.{has_texts, texts_of_pair}
use Rattle.pl_round_trip.proofs.utf8.+texts.Given as goal

abbrev pub invariant-items_are_text-loop-item : goal.invariant-items_are_text-loop-item
invariant-items_are_text-loop-item l =
    list_all (λ texts. texts) (map has_texts (take l.item-index l.item-items)) ≡ true

abbrev pub invariant-pairs_are_text-loop-pair : goal.invariant-pairs_are_text-loop-pair
invariant-pairs_are_text-loop-pair l =
    list_all (λ texts. texts) (map texts_of_pair (take l.pair-index l.pair-items)) ≡ true
