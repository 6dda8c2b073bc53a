use Rattle.std.proofs.Common.{ap, sym, ◌∙◌}
use Rattle.std.specs.List.{list_all}
use Rattle.pl_eval.specs.Statuses.{went_well}
use Rattle.pl_results.specs.declared.members.Member.{Member}
use Rattle.pl_results.specs.Members.{result_of}
use Rattle.pl_results.proofs.ByName.{looked_with, looked_without}
use Rattle.pl_results.proofs.Turns.{all_made}
use Rattle.pl_results.proofs.statuses.all_went_well.Goals as goal

pub returns-then-is_empty : goal.returns-then-is_empty
returns-then-is_empty c =
    c.members_went_well.ensures
    ∙ sym (all_made (λ (one : Member). one.result) went_well c.args.members.now)
    ∙ ap (list_all went_well)
    (sym (looked_without c.args.members.now c.args.names.now (sym c.if-is_empty.ensures)))

pub returns-else-is_empty : goal.returns-else-is_empty
returns-else-is_empty c =
    c.named_went_well.ensures
    ∙ sym (all_made (result_of c.args.members.now) went_well c.args.names.now)
    ∙ ap (list_all went_well)
    (sym (looked_with c.args.members.now c.args.names.now (sym c.if-is_empty.ensures)))
