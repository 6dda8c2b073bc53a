use Rattle.std.proofs.Common.{◌∙◌, rules}
use Rattle.pl_hall.proofs.Turning.{faults_both, keeps_both, serves_both}
use Rattle.pl_hall.specs.Seats.{parts_of}
use Rattle.pl_hall.proofs.clerk.Clerk.ask.Goals as goal

pub returns-in-Ok-answer_in_turn : goal.returns-in-Ok-answer_in_turn
returns-in-Ok-answer_in_turn g c =
    let a = parts_of c.args.self.now.seat in
    let b = parts_of c.look_ahead.new.seat in
    let d = parts_of c.answer_in_turn.new.seat in (
      keeps_both a b d c.look_ahead.ensures.passes c.answer_in_turn.ensures.keeps,
      serves_both a b d _ c.in-Ok-answer_in_turn.reply c.look_ahead.ensures.passes
          c.in-Ok-answer_in_turn.ensures.serves,
    )

pub returns-in-Err-Failed : goal.returns-in-Err-Failed
returns-in-Err-Failed g c =
    let a = parts_of c.args.self.now.seat in
    let b = parts_of c.look_ahead.new.seat in
    let d = parts_of c.answer_in_turn.new.seat in (
      keeps_both a b d c.look_ahead.ensures.passes c.answer_in_turn.ensures.keeps,
      c.in-Err-Failed.ensures.same ∙ c.look_ahead.ensures.passes.mine,
      faults_both a b d c.look_ahead.ensures.passes (search rules),
    )

pub returns-in-Err-Memory : goal.returns-in-Err-Memory
returns-in-Err-Memory g c =
    let a = parts_of c.args.self.now.seat in
    let b = parts_of c.look_ahead.new.seat in
    let d = parts_of c.answer_in_turn.new.seat in (
      keeps_both a b d c.look_ahead.ensures.passes c.answer_in_turn.ensures.keeps,
      c.in-Err-Memory.ensures.same ∙ c.look_ahead.ensures.passes.mine,
    )

pub returns-in-Err : goal.returns-in-Err
returns-in-Err g c = (c.in-Err.ensures.err, c.look_ahead.ensures.passes.mine)
