use Rattle.std.proofs.Common.{ap, sym, ◌∙◌}
use Rattle.std.specs.List.{list_any}
use Rattle.pl_eval.specs.Statuses.{was_run}
use Rattle.pl_results.specs.Members.{result_of}
use Rattle.pl_results.proofs.ByName.{ran_with}
use Rattle.pl_results.proofs.Turns.{any_made}
use Rattle.pl_results.proofs.statuses.any_was_run.Goals as goal

pub returns-else-is_empty : goal.returns-else-is_empty
returns-else-is_empty c =
    c.named_was_run.ensures
    ∙ sym (any_made (result_of c.args.members.now) was_run c.args.names.now)
    ∙ sym (ran_with c.args.members.now c.args.names.now (sym c.if-is_empty.ensures))
