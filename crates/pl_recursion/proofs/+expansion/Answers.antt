use Rattle.std.proofs.Common.{◌≡◌, List, arith}
use Rattle.pl_base.specs.declared.value.MarkedNode.{MarkedNode}
use Rattle.pl_base.specs.declared.value.Value.TheVariants as value
use Rattle.pl_calls.specs.Calls.{seen}
use Rattle.pl_calls.specs.Gives.{ways}
use Rattle.pl_recursion.specs.Levels.{Calling, call_in}
use Rattle.pl_recursion.proofs.Levels.{descends}
use Rattle.pl_recursion.proofs.Spread.{spread_alone}
use Rattle.pl_recursion.proofs.+expansion.Goals as goal

pub following::descend-returns : goal.following::descend-returns
following::descend-returns g t c =
    let same : ways g.F.Files.files c.open.new.reach ≡ ways g.F.Files.files c.args.reach.now
    = cc (c.in_ok-opened.ensures.files, c.in_ok-opened.ensures.home) in
    let calling : Calling = call_in c.args.calling.now.frame.now c.args.calling.now.form
    (seen c.args.calling.now.call.now) c.args.calling.now.count in
    record {
      reached = record {
        given =
            descends _ _ _ _ calling c.args.reach.now.used.now _ _ _ _ c.in-Some.ensures.0
            c.in-Some.ensures.1 c.in_ok-opened.ensures.given same c.enter_file.ensures.found.given;
        files = cc (c.enter_file.ensures.found.files, c.in_ok-opened.ensures.files);
        home = cc (c.enter_file.ensures.found.home, c.in_ok-opened.ensures.home);
        files_lent =
            cc (c.enter_file.ensures.found.files_lent, c.in_ok-opened.ensures.files_lent);
        used_lent = cc (c.enter_file.ensures.found.used_lent, c.in_ok-opened.ensures.used_lent);
      };
    }

pub putting::spread-returns-in_default : goal.putting::spread-returns-in_default
putting::spread-returns-in_default g t c =
    let same : c.args.node.value ≡ c.in_default.value = cc (c.in_default.value-is) in
    let other : (items : List MarkedNode) → c.args.node.value ≡ value.Array items → ⊥ =
    first_of (assumption (c.in_default.not-Array), grind (arith, c.in_default.not-Array, same)) in
    record {
      added = record {
        given = spread_alone _ c.args.node _ _ other _ _ c.add_item.ensures.added.given;
        files = c.add_item.ensures.added.files;
        home = c.add_item.ensures.added.home;
        files_lent = c.add_item.ensures.added.files_lent;
        used_lent = c.add_item.ensures.added.used_lent;
      };
    }
