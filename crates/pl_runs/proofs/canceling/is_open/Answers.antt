use Rattle.std.proofs.Common.{◌==◌, ap, ◌∙◌}
use Rattle.std.specs.List.{list_any}
use Rattle.pl_runs.proofs.Listed.{listed_is_open}
use Rattle.pl_runs.proofs.canceling.is_open.Goals as goal

pub returns : goal.returns
returns c =
    c.contains.ensures.value
    ∙ ap (list_any (λ one. one == c.args.run)) c.open_runs.ensures
    ∙ listed_is_open c.args.journal.now.facts c.args.run
