use Rattle.std.proofs.Common.{ap, sym}
use Rattle.std.specs.Option.{option_map}
use Rattle.std.specs.FinMap as finite
use Rattle.pl_base.specs.Files.{text_cmp}
use Rattle.pl_base.specs.Folding.{folded}
use Rattle.pl_eval.specs.LookUps.{found_behind, part_of}
use Rattle.pl_results.proofs.statuses.StatusesNames.part.Goals as goal

pub returns : goal.returns
returns c =
    ap (λ node. part_of (option_map (found_behind c.args._path.now) node))
    (sym (finite.get-empty text_cmp (folded c.args._root.now)))
