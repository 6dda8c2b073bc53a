use Rattle.std.proofs.Common.{◌∙◌, ap, false, not, if◌then◌else◌}
use Rattle.std.specs.Option.{option_map_or}
use Rattle.pl_journal.specs.Runs.{decision, verdict_told}
use Rattle.pl_journal.specs.Settings.{by}
use Rattle.pl_journal.proofs.journal.Journal.still_decided.Goals as goal

pub returns-in-DecisionMade : goal.returns-in-DecisionMade
returns-in-DecisionMade c =
    let made = c.in-DecisionMade in
    rw made.is (c.is_same.ensures
    ∙ ap (λ told. option_map_or (λ now. if now then made.approve else not made.approve) told false)
    (c.verdict.ensures
    ∙ ap (λ name. by verdict_told (decision made.run' made.stage name c.args.self.now.facts))
    c.deref.ensures))
