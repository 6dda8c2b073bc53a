use Rattle.std.proofs.Common.{◌≡◌, [], drop}
use Rattle.pl_calls.specs.Gives.{ways}
use Rattle.pl_recursion.specs.Levels.{followed}
use Rattle.pl_extends.specs.Extending.{arguments_behind}
use Rattle.pl_extends.proofs.extending.arguments_in.Given as goal

abbrev pub invariant-loop-pair : goal.invariant-loop-pair
invariant-loop-pair g l = record {
  given :
      arguments_behind l.pairs
      (followed 100 (ways g.F.Files.files l.fn.reach)) l.frame
      (record { pairs = []; count = l.count }) l.fn.reach.used.now
      ≡ arguments_behind (drop l.pair-index l.pair-items)
      (followed 100 (ways g.F.Files.files l.fn.reach))
      l.frame l.given l.reach.used.now;
  files : g.F.Files.files l.reach.files.now ≡ g.F.Files.files l.fn.reach.files.now;
  home : l.reach.home ≡ l.fn.reach.home;
  files_lent : l.reach.files.ghost_name ≡ l.fn.reach.files.ghost_name;
  used_lent : l.reach.used.ghost_name ≡ l.fn.reach.used.ghost_name;
}
