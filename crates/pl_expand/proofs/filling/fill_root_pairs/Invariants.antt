use Rattle.std.proofs.Common.{◌≡◌, drop}
use Rattle.pl_calls.specs.Gives.{ways}
use Rattle.pl_expand.specs.Tree.{root_pairs}
use Rattle.pl_expand.proofs.filling.fill_root_pairs.Given as goal

abbrev pub invariant-loop-pair : goal.invariant-loop-pair
invariant-loop-pair g l = record {
  filled :
      root_pairs l.fn.early l.pairs (ways g.F.Files.files l.fn.reach) l.frame
      l.fn.filling l.fn.reach.used.now
      ≡ root_pairs l.left (drop l.pair-index l.pair-items)
      (ways g.F.Files.files l.fn.reach) l.frame l.after l.reach.used.now;
  files : g.F.Files.files l.reach.files.now ≡ g.F.Files.files l.fn.reach.files.now;
  home : l.reach.home ≡ l.fn.reach.home;
  files_lent : l.reach.files.ghost_name ≡ l.fn.reach.files.ghost_name;
  used_lent : l.reach.used.ghost_name ≡ l.fn.reach.used.ghost_name;
}
