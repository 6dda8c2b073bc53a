use Rattle.std.proofs.Common.{rules, not}
use Rattle.std.proofs.lemmas.Fn.{filter_same}
use Rattle.pl_locks.specs.Kept.{is_at}
use Rattle.pl_locks.proofs.ordering.drop_out.Goals as goal

pub returns-clause-others : goal.returns-clause-others
returns-clause-others c =
    filter_same _ (λ stage. not (is_at c.args.run c.args.position stage)) _
    (λ stage b f called. search rules) c.args.stages.now.items _ c.retain.ensures.filtered
