use Rattle.std.proofs.Common.{◌==◌, not, rules}
use Rattle.std.proofs.lemmas.Fn.{filter_same}
use Rattle.pl_open_runs.proofs.index.take_out.Goals as goal

pub returns-clause-items : goal.returns-clause-items
returns-clause-items c = filter_same _ (λ one. not (one == c.args.run)) _
    (λ one b f called. search rules) c.args.runs.now.items _ c.retain.ensures.filtered
