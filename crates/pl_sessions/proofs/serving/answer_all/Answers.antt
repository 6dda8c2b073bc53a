use Rattle.std.proofs.Common.{rules, ◌∙◌, sym, ap, subst, take, OnOk, true, false}
use Rattle.pl_wire.specs.Message.{IsMessage}
use Rattle.pl_sessions.proofs.Forms.{well_formed}
use Rattle.pl_sessions.proofs.Sessions.{answers_broken, answers_on, breaks_on, breaks_off}
use Rattle.pl_sessions.proofs.Sessions.{breaks_here}
use Rattle.pl_sessions.proofs.serving.answer_all.Goals as goal

pub answer_next-requires : goal.answer_next-requires
answer_next-requires g c =
    well_formed c.requests_are_well_formed.ensures _ c.in-Whole.taken c.in-Whole.message
    (rw c.in-Whole.is at c.in_ok-next_message.ensures)

pub returns-in_err-next_message-clause-answers : goal.returns-in_err-next_message-clause-answers
returns-in_err-next_message-clause-answers g c =
    let failed : OnOk c.from_residual.result ⊥ = search rules in
    answers_broken c.from_residual.result _ _ c.args.buffer.now c.messages.buffer failed
    (breaks_off _ _ _ c.args.buffer.now _ c.messages.buffer _ c.messages.invariant.answered
    (breaks_here _ c.messages.buffer))

pub returns-in_err-halted-in-Whole-clause-answers :
    goal.returns-in_err-halted-in-Whole-clause-answers
returns-in_err-halted-in-Whole-clause-answers g c =
    let stands = rw c.in-Whole.is at c.in_ok-next_message.ensures in
    let failed : OnOk c.from_residual-in_err-halted-in-Whole.result ⊥ = search rules in
    answers_broken c.from_residual-in_err-halted-in-Whole.result _ _ c.args.buffer.now
    c.messages.buffer failed
    (breaks_on _ _ _ c.args.buffer.now c.messages.buffer c.in-Whole.taken
    c.messages.invariant.answered
    (λ front rest is. c.in_err-halted-in-Whole.ensures.answers front rest
    (subst (λ bytes. IsMessage bytes c.in-Whole.message) (ap (λ bytes. take c.in-Whole.taken bytes)
    c.as_slice.ensures ∙ sym is) stands.2)))

pub returns-then-halted-clause-answers : goal.returns-then-halted-clause-answers
returns-then-halted-clause-answers g c =
    let stands = rw c.in-Whole.is at c.in_ok-next_message.ensures in (
      answers_on c.in_ok-halted-in-Whole.halted true _ _ _ c.args.buffer.now c.messages.buffer
          c.take.new.self c.in-Whole.taken c.if-halted.true c.messages.invariant.answered
          c.take.ensures
          (λ front rest is. c.in_ok-halted-in-Whole.ensures.answers front rest
          (subst (λ bytes. IsMessage bytes c.in-Whole.message)
          (ap (λ bytes. take c.in-Whole.taken bytes) c.as_slice.ensures ∙ sym is) stands.2)),
      tt,
    )

pub messages-preserved : goal.messages-preserved
messages-preserved g c =
    let stands = rw c.in-Whole.is at c.in_ok-next_message.ensures in
    let told = c.in_ok-halted-in-Whole.ensures in
    let before = c.messages.invariant in
    record {
      answered =
          answers_on c.in_ok-halted-in-Whole.halted false _ _ _ c.args.buffer.now c.messages.buffer
          c.take.new.self c.in-Whole.taken c.if-halted.false before.answered c.take.ensures
          (λ front rest is. told.answers front rest
          (subst (λ bytes. IsMessage bytes c.in-Whole.message) (ap (λ bytes. take c.in-Whole.taken
          bytes) c.as_slice.ensures ∙ sym is) stands.2));
      quiet = told.writes.counts ∙ before.quiet;
      reading = record {
        left = told.writes.reading.left ∙ before.reading.left;
        ended = told.writes.reading.ended ∙ before.reading.ended;
        read_faults = told.writes.reading.read_faults ∙ before.reading.read_faults;
      };
    }
