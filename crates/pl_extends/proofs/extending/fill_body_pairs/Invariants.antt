use Rattle.std.proofs.Common.{◌≡◌, drop}
use Rattle.pl_calls.specs.Gives.{ways}
use Rattle.pl_directives.specs.declared.region.Region.TheVariants.{Free}
use Rattle.pl_recursion.specs.Following.{scope_of}
use Rattle.pl_recursion.specs.Levels.{followed}
use Rattle.pl_extends.specs.Extending.{body_pairs}
use Rattle.pl_extends.proofs.extending.fill_body_pairs.Given as goal

abbrev pub invariant-loop-pair : goal.invariant-loop-pair
invariant-loop-pair g l = record {
  filled :
      body_pairs l.pairs
      (scope_of (followed 99 (ways g.F.Files.files l.fn.reach)) l.frame Free)
      l.fn.progress l.fn.reach.used.now
      ≡ body_pairs (drop l.pair-index l.pair-items)
      (scope_of (followed 99 (ways g.F.Files.files l.fn.reach)) l.frame Free)
      l.after l.reach.used.now;
  files : g.F.Files.files l.reach.files.now ≡ g.F.Files.files l.fn.reach.files.now;
  home : l.reach.home ≡ l.fn.reach.home;
  files_lent : l.reach.files.ghost_name ≡ l.fn.reach.files.ghost_name;
  used_lent : l.reach.used.ghost_name ≡ l.fn.reach.used.ghost_name;
}
