use Rattle.std.proofs.Common.{◌≡◌, ℕ, ◌+◌, ◌*◌, drop, map}
use Rattle.pl_calls.specs.Gives.{ways}
use Rattle.pl_extends.specs.Rooting.{node_seen, pair_seen, pairs_put, turns_put}
use Rattle.pl_extends.proofs.rooting.+rooting.Given as goal

abbrev depth : ℕ → ℕ → ℕ
depth levels rank = 8 * levels + rank

abbrev pub decreases-put_body : goal.decreases-put_body
decreases-put_body g l = depth l.spot.levels 1

abbrev pub decreases-put_node : goal.decreases-put_node
decreases-put_node g l = depth l.spot.levels 2

abbrev pub decreases-put_turns : goal.decreases-put_turns
decreases-put_turns g l = depth l.spot.levels 3

abbrev pub decreases-put_asked : goal.decreases-put_asked
decreases-put_asked g l = depth l.spot.levels 4

abbrev pub decreases-put_pair_of : goal.decreases-put_pair_of
decreases-put_pair_of g l = depth l.spot.levels 5

abbrev pub decreases-put_pairs : goal.decreases-put_pairs
decreases-put_pairs g l = depth l.spot.levels 6

abbrev pub invariant-put_pairs-loop-pair : goal.invariant-put_pairs-loop-pair
invariant-put_pairs-loop-pair g l = record {
  filled :
      pairs_put (map pair_seen l.pairs) (ways g.F.Files.files l.fn.reach)
      l.spot.frame.now l.fn.filling l.fn.reach.used.now
      ≡ pairs_put (map pair_seen (drop l.pair-index l.pair-items))
      (ways g.F.Files.files l.fn.reach) l.spot.frame.now l.after l.reach.used.now;
  files : g.F.Files.files l.reach.files.now ≡ g.F.Files.files l.fn.reach.files.now;
  home : l.reach.home ≡ l.fn.reach.home;
  files_lent : l.reach.files.ghost_name ≡ l.fn.reach.files.ghost_name;
  used_lent : l.reach.used.ghost_name ≡ l.fn.reach.used.ghost_name;
}

abbrev pub invariant-put_turns-loop-item : goal.invariant-put_turns-loop-item
invariant-put_turns-loop-item g l = record {
  filled :
      turns_put l.turns.name (node_seen l.node) l.turns.items
      (ways g.F.Files.files l.fn.reach) l.spot.frame.now l.fn.filling
      l.fn.reach.used.now
      ≡ turns_put l.turns.name (node_seen l.node) (drop l.item-index l.item-items)
      (ways g.F.Files.files l.fn.reach) l.spot.frame.now l.after l.reach.used.now;
  files : g.F.Files.files l.reach.files.now ≡ g.F.Files.files l.fn.reach.files.now;
  home : l.reach.home ≡ l.fn.reach.home;
  files_lent : l.reach.files.ghost_name ≡ l.fn.reach.files.ghost_name;
  used_lent : l.reach.used.ghost_name ≡ l.fn.reach.used.ghost_name;
}
