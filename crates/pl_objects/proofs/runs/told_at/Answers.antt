use Rattle.std.proofs.Common.{ap, ◌∙◌}
use Rattle.std.specs.Option.{unwrap_or}
use Rattle.std.proofs.lemmas.Option.{unwrap_or-slice_get}
use Rattle.pl_objects.proofs.runs.told_at.Goals as goal

pub returns-in-None : goal.returns-in-None
returns-in-None g c =
    ap (λ o. unwrap_or o c.args.default.now) c.in-None.ensures.value
    ∙ unwrap_or-slice_get c.args.told.now c.args.at c.args.default.now
