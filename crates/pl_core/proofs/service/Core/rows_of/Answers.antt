use Rattle.std.proofs.Common.{ap, ◌∙◌}
use Rattle.pl_core.specs.State.{State}
use Rattle.pl_history.specs.History.{held_of}
use Rattle.pl_core.proofs.Keeping.{nothing_pending}
use Rattle.pl_core.proofs.Rowed.{rows_by}
use Rattle.pl_core.proofs.service.Core.rows_of.Goals as goal

pub returns : goal.returns
returns c =
    rows_by c.args.self.now c.self.inside.change c.journal.result.now c.rows_of.result
    (c.self.invariant.1.change_is
    ∙ ap (λ (s : State). (held_of s.opening s.entries).change) c.self.view_is)
    (c.journal.ensures
    ∙ nothing_pending c.self.inside.first c.self.inside.journal c.self.inside.entries.items
    c.args.self.now c.self.invariant.0 c.self.view_is c.requires)
    c.rows_of.ensures.rows c.rows_of.ensures.fits
