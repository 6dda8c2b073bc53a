use Rattle.std.proofs.Common.{ap, sym, ◌∙◌}
use Rattle.std.specs.List.{list_any}
use Rattle.pl_eval.specs.Statuses.{went_wrong}
use Rattle.pl_results.specs.declared.members.Member.{Member}
use Rattle.pl_results.specs.Members.{result_of}
use Rattle.pl_results.proofs.ByName.{looked_with, looked_without}
use Rattle.pl_results.proofs.Turns.{any_made}
use Rattle.pl_results.proofs.statuses.any_went_wrong.Goals as goal

pub returns-then-is_empty : goal.returns-then-is_empty
returns-then-is_empty c =
    c.members_went_wrong.ensures
    ∙ sym (any_made (λ (one : Member). one.result) went_wrong c.args.members.now)
    ∙ ap (list_any went_wrong)
    (sym (looked_without c.args.members.now c.args.names.now (sym c.if-is_empty.ensures)))

pub returns-else-is_empty : goal.returns-else-is_empty
returns-else-is_empty c =
    c.named_went_wrong.ensures
    ∙ sym (any_made (result_of c.args.members.now) went_wrong c.args.names.now)
    ∙ ap (list_any went_wrong)
    (sym (looked_with c.args.members.now c.args.names.now (sym c.if-is_empty.ensures)))
