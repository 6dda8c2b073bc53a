use Rattle.std.proofs.Common.{sym, ◌∙◌}
use Rattle.pl_eval.specs.LookUps.{member_behind}
use Rattle.pl_eval.proofs.Finding.{filtered_some, filtered_none}
use Rattle.pl_eval.proofs.projecting.project.Goals as goal

pub loop-item-preserved-in-Continue-branch-2 : goal.loop-item-preserved-in-Continue-branch-2
loop-item-preserved-in-Continue-branch-2 c =
    filtered_some (member_behind c.args.names.now) c.loop-item.yielded c.in-Some.item
    c.in-Some-take_member_behind.node c.loop-item.found c.push.new.self c.loop-item.invariant
    (sym c.in-Some-take_member_behind.is ∙ c.take_member_behind.ensures) c.in_ok-push.ensures.ok

pub loop-item-preserved : goal.loop-item-preserved
loop-item-preserved c =
    filtered_none (member_behind c.args.names.now) c.loop-item.yielded c.in-Some.item
    c.loop-item.found c.loop-item.invariant (sym c.in_default.is ∙ c.take_member_behind.ensures)
