use Rattle.std.proofs.Common.{◌≡◌, [], length, ap, ◌∙◌}
use Rattle.std.proofs.lemmas.List.{nil_from_length}
use Rattle.std.proofs.lemmas.List.Sorted.{length_permutation}
use Rattle.pl_rehearsal.proofs.Begun.{opening_is}
use Rattle.pl_rehearsal.proofs.rehearsal.just_opened.Goals as goal

pub returns-in-Ok-clause-opening : goal.returns-in-Ok-clause-opening
returns-in-Ok-clause-opening c =
    let none : c.new-keeper.result.rows.items ≡ [] = nil_from_length _
    (length_permutation _ _ c.new-keeper.ensures.rows ∙ ap length c.new.ensures) in
    opening_is c.args.admin _ _ (c.in-Ok.ensures.rows ∙ none) c.in-Ok.ensures.begun

pub returns-in-Ok-clause-entries : goal.returns-in-Ok-clause-entries
returns-in-Ok-clause-entries c = c.in-Ok.ensures.begun.opened.entries

pub returns-in-Ok-clause-rows : goal.returns-in-Ok-clause-rows
returns-in-Ok-clause-rows c = c.in-Ok.ensures.rows ∙ nil_from_length _
    (length_permutation _ _ c.new-keeper.ensures.rows ∙ ap length c.new.ensures)

pub returns-in-Ok-clause-quiet : goal.returns-in-Ok-clause-quiet
returns-in-Ok-clause-quiet c = c.in-Ok.ensures.quiet ∙ c.new-keeper.ensures.quiet
