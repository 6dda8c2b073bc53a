use Rattle.std.proofs.Common.{◌≡◌, drop}
use Rattle.pl_calls.specs.Gives.{ways}
use Rattle.pl_extends.specs.Rooting.{all_given_put}
use Rattle.pl_extends.proofs.rooting.put_all_given.Given as goal

abbrev pub invariant-loop-pair : goal.invariant-loop-pair
invariant-loop-pair g l = record {
  filled :
      all_given_put l.pairs (ways g.F.Files.files l.fn.reach) l.frame
      l.fn.filling l.fn.reach.used.now
      ≡ all_given_put (drop l.pair-index l.pair-items)
      (ways g.F.Files.files l.fn.reach) l.frame l.after l.reach.used.now;
  files : g.F.Files.files l.reach.files.now ≡ g.F.Files.files l.fn.reach.files.now;
  home : l.reach.home ≡ l.fn.reach.home;
  files_lent : l.reach.files.ghost_name ≡ l.fn.reach.files.ghost_name;
  used_lent : l.reach.used.ghost_name ≡ l.fn.reach.used.ghost_name;
}
