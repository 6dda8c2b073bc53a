use Rattle.std.proofs.Common.{Bool, ◌&&◌, ap, sym, ◌∙◌}
use Rattle.pl_sessions.specs.Acts.{Turn}
use Rattle.pl_sessions.specs.Halts.{is_done}
use Rattle.pl_sessions.proofs.Sessions.{answer_broke, answered_whole, only_begins}
use Rattle.pl_sessions.proofs.serving.answer_next.Goals as goal

pub returns-in-Ok-clause-answers : goal.returns-in-Ok-clause-answers
returns-in-Ok-clause-answers g c front rest message =
    let turn : Turn = record {
      moment = c.now-moment.result;
      message = c.args.message;
      answer = c.act-answer.result;
    } in
    answered_whole _ _ front rest turn c.stops-halts.result message c.act-answer.ensures
    (c.now-moment.ensures.within, c.now-moment.ensures.moment, c.now-moment.ensures.later)
    c.in-Ok.ensures
    (sym (c.stops-halts.ensures
    ∙ ap (λ (b : Bool). (c.args.heeds && b) && is_done c.act-answer.result)
    c.is_shutdown-asks.ensures))

pub returns-clause-answers : goal.returns-clause-answers
returns-clause-answers g c front rest message =
    let turn : Turn = record {
      moment = c.now-moment.result;
      message = c.args.message;
      answer = c.act-answer.result;
    } in
    answer_broke _ _ front rest turn c.in-Err.broken message c.act-answer.ensures
    (c.now-moment.ensures.within, c.now-moment.ensures.moment, c.now-moment.ensures.later)
    c.in-Err.ensures

pub returns-clause-writes : goal.returns-clause-writes
returns-clause-writes g c =
    only_begins (Unit {0}) Bool c.in-Err.broken _ _ _ c.in-Err.ensures
