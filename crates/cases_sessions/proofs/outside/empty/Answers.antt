use Rattle.std.proofs.Common.{◌∙◌, ap, length}
use Rattle.std.proofs.lemmas.List.{nil_from_length}
use Rattle.std.proofs.lemmas.List.Sorted.{length_permutation}
use Rattle.cases_sessions.proofs.outside.empty.Goals as goal

pub returns-clause-rows : goal.returns-clause-rows
returns-clause-rows c = nil_from_length _
    (length_permutation _ _ c.new-3.ensures.rows ∙ ap length c.new.ensures)
