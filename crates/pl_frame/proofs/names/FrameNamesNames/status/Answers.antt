use Rattle.std.proofs.Common.{ap, sym, ◌∙◌}
use Rattle.pl_expr.specs.declared.expr.Function.{Function}
use Rattle.pl_eval.specs.Statuses.{status_of}
use Rattle.pl_frame.specs.Names.{known_at}
use Rattle.pl_frame.proofs.Status.{failed, succeeded, succeeded_or_failed}
use Rattle.pl_frame.proofs.names.FrameNamesNames.status.Goals as goal

pub returns-in-Failed : goal.returns-in-Failed
returns-in-Failed c =
    let frame = c.args.self.now.frame.now in
    let place = c.args.self.now.place.now in
    failed frame place c.args.names.now
    ∙ ap (λ (function : Function). status_of (known_at frame place) function c.args.names.now)
    (sym c.in-Failed.is)

pub returns-in-Succeeded : goal.returns-in-Succeeded
returns-in-Succeeded c =
    let frame = c.args.self.now.frame.now in
    let place = c.args.self.now.place.now in
    succeeded frame place _ _ c.is_empty.ensures
    ∙ ap (λ (function : Function). status_of (known_at frame place) function c.args.names.now)
    (sym c.in-Succeeded.is)

pub returns-in-SucceededOrFailed : goal.returns-in-SucceededOrFailed
returns-in-SucceededOrFailed c =
    let frame = c.args.self.now.frame.now in
    let place = c.args.self.now.place.now in
    succeeded_or_failed frame place _ _ c.is_empty-in-SucceededOrFailed.ensures
    ∙ ap (λ (function : Function). status_of (known_at frame place) function c.args.names.now)
    (sym c.in-SucceededOrFailed.is)
